use Rattle.std.proofs.Common.{◌%◌, ◌^◌, ℕ, List, rules}
use Rattle.std.specs.Ordering.{nat_cmp, is_lt}
use Rattle.std.specs.Cmp.Lexicographic.{slice_cmp}
use Rattle.std.proofs.lemmas.Cmp.{nat_list_cmp_total}
use Rattle.std.proofs.lemmas.Fn.{always_returns_same}
use Rattle.std.proofs.lemmas.List.Sorted.{ranks_by, IsPermutation-map}
use Rattle.mt_replay.specs.Steps.Numbers.{rest_of}
use Rattle.mt_replay.proofs.NumberLemmas.{rests_sorted}
use Rattle.mt_replay.proofs.sorting.sort_by_rest.Goals as goal

pub returns-clause-same : goal.returns-clause-same
returns-clause-same c = IsPermutation-map (λ (number : ℕ). number % 2 ^ c.args.bits) c.args.numbers.now c.sort_unstable_by.new.self c.sort_unstable_by.ensures.permutation

pub returns-clause-in_order : goal.returns-clause-in_order
returns-clause-in_order c =
    let rest : ℕ → List ℕ = rest_of c.args.bits c.args.texts.now c.args.depth in
    rests_sorted c.args.bits c.args.texts.now c.args.depth c.sort_unstable_by.new.self
    (c.sort_unstable_by.ensures.sorted (λ a b. is_lt (slice_cmp nat_cmp (rest a) (rest b))) (ranks_by nat_list_cmp_total rest) (always_returns_same _ _ _ (λ a r f' k. search rules)))
