use Rattle.std.proofs.Common.{◌≡◌, ◌^◌, ◌<◌, [], ℕ, List, length, take, sym, ap, subst, ◌∙◌, arith, rules}
use Rattle.std.specs.Prelude.{All}
use Rattle.std.specs.List.{range_with_len}
use Rattle.std.proofs.Math.Nat.{mod-eq_of_lt}
use Rattle.std.proofs.lemmas.Grind.{common_steps}
use Rattle.mt_words.specs.declared.update.Update.{Update}
use Rattle.mt_record.specs.Steps.Texts.{update_in_text}
use Rattle.mt_replay.specs.Steps.Numbers.{places, rests}
use Rattle.mt_replay.proofs.NumberLemmas.{range_more, alike_rests}
use Rattle.mt_replay.proofs.sorting.sorted_numbers.Goals as goal

pub loop-place-preserved : goal.loop-place-preserved
loop-place-preserved c =
    let bits = c.args.bits in
    let place = c.loop-place.place in
    let low : place < 2 ^ bits = omega (arith, c.loop-place-test.true, c.requires.fits) in
    let small = mod-eq_of_lt low in
    let more = range_more place in
    grind (arith, common_steps)

pub sort_alike-requires-clause-alike : goal.sort_alike-requires-clause-alike
sort_alike-requires-clause-alike c =
    let us : List Update = c.args.texts.now in
    let bits = c.args.bits in
    let numbers : List ℕ = c.loop-place.numbers.items in
    let is : c.loop-place.place ≡ length us = search rules in
    let all : places bits numbers ≡ range_with_len 0 (length us) = c.loop-place.invariant ∙ ap (range_with_len 0) is in
    subst (λ (ns : List ℕ). (shared : List ℕ) × All (λ rest. take c.args.depth rest ≡ shared) (rests bits us 0 ns)) (sym c.deref_mut.ensures.value) (alike_rests bits us c.args.depth (update_in_text []) numbers c.requires.alike all)
