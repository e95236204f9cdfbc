use Rattle.std.proofs.Common.{◌≡◌, ◌-◌, ℕ, List, take, subst, arith}
use Rattle.std.specs.Prelude.{All}
use Rattle.std.proofs.lemmas.List.Sorted.{All-permutation}
use Rattle.mt_replay.specs.Steps.Numbers.{rests, AreInOrder}
use Rattle.mt_replay.proofs.NumberLemmas.{rests_moved, rests_further, from_deeper}
use Rattle.mt_replay.proofs.sorting.sort_alike.Goals as goal

pub returns-clause-in_order : goal.returns-clause-in_order
returns-clause-in_order c =
    let us = c.args.texts.now in
    let depth = c.args.depth in
    let old = rests c.args.bits us 0 c.args.numbers.now in
    let new = rests c.args.bits us 0 c.sort_from.new.numbers in
    let shared : List ℕ = c.requires.alike.0 in
    let deeper : depth ≡ depth - 0 = omega arith in
    let all = All-permutation (λ rest. take depth rest ≡ shared) old new (rests_moved c.args.bits us 0 c.args.numbers.now c.sort_from.new.numbers c.sort_from.ensures.same) c.requires.alike.1 in
    from_deeper (depth - 0) new shared (subst (λ (n : ℕ). All (λ rest. take n rest ≡ shared) new) deeper all) (subst AreInOrder (rests_further c.args.bits us 0 depth c.sort_from.new.numbers (omega arith)) c.sort_from.ensures.in_order)
