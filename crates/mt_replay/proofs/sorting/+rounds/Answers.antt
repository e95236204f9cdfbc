use Rattle.std.proofs.Common.{◌≡◌, ◌+◌, ◌-◌, ◌/◌, ◌%◌, ◌^◌, ◌<◌, ℕ, List, length, get_or, drop, take, sym, ap, ◌∙◌, subst, arith}
use Rattle.std.specs.Prelude.{All, IsPermutation}
use Rattle.std.proofs.lemmas.List.{length-map, length-drop, length-take-le, drop-drop, get_or-drop}
use Rattle.std.proofs.lemmas.List.Elements.{All-nil}
use Rattle.std.proofs.lemmas.List.Sorted.{All-permutation, IsNonDecreasingBy-from_sort, IsPermutation-map, IsPermutation-trans, length_permutation}
use Rattle.std.proofs.lemmas.Slice.{take-put_mid, drop-put_mid}
use borrow.Rule.Slice.PartMut.{mid_of, put_mid, same_len_mid}
use Rattle.mt_words.specs.Slices.{AreBytes}
use Rattle.mt_replay.specs.Steps.Numbers.{places, rest_of, rests, head_of, AreInOrder, BeginsWith, AreSorted}
use Rattle.mt_replay.proofs.NumberLemmas.{rests_moved, rests_further, places_moved, from_deeper, alike_in_order}
use Rattle.mt_replay.proofs.RunOrder.{run_sorted}
use Rattle.mt_replay.proofs.sorting.+rounds.Goals as goal

pub sort_from-loop-at-init : goal.sort_from-loop-at-init
sort_from-loop-at-init t c =
    let bits = c.args.bits in
    let begun : List ℕ = c.begin_all.new.numbers in
    let xs : List ℕ = c.sort_unstable.new.self in
    let moved = c.sort_unstable.ensures.permutation in
    record {
      within = omega arith;
      same = subst (λ (ps : List ℕ). IsPermutation ps (places bits xs)) c.begin_all.ensures.same (IsPermutation-map (λ (number : ℕ). number % 2 ^ bits) begun xs moved);
      sorted = record {
        in_order = λ k d low high. absurd (omega (arith, high));
        bytes = All-nil AreBytes;
        below = All-nil (λ rest. All (λ number. head_of bits rest < number / 2 ^ bits) xs);
        rising = IsNonDecreasingBy-from_sort (λ (n : ℕ). n) xs c.sort_unstable.ensures.sorted;
        heads = All-permutation (λ number. BeginsWith bits number (rest_of bits c.args.texts.now c.args.depth number)) begun xs moved c.begin_all.ensures.heads;
      };
    }

pub sort_from-loop-at-preserved : goal.sort_from-loop-at-preserved
sort_from-loop-at-preserved t c =
    let bits = c.args.bits in
    let at = c.loop-at.at in
    let end = c.end_of_run-end.result in
    let n = end - at in
    let xs : List ℕ = c.loop-at.numbers in
    let run : List ℕ = c.sort_run.new.numbers in
    let left = drop at xs in
    let before = c.loop-at.invariant in
    let within = c.end_of_run-end.ensures.within in
    let place : ℕ → ℕ = λ number. number % 2 ^ bits in
    let run_length : length run ≡ n =
    sym (length-map run place) ∙ length_permutation (places bits (mid_of at n xs)) (places bits run) c.sort_run.ensures.same ∙ length-map (mid_of at n xs) place
    ∙ length-take-le n left (omega (arith, within, length-drop at xs)) in
    let is : at + n ≡ end = omega (arith, within) in
    let first : get_or left 0 0 ≡ get_or xs at 0 = get_or-drop at xs 0 0 ∙ ap (λ (m : ℕ). get_or xs m 0) (let here : at + 0 ≡ at = omega arith in here) in
    let next : get_or left n 0 ≡ get_or xs end 0 = get_or-drop at xs n 0 ∙ ap (λ (m : ℕ). get_or xs m 0) is in
    let done = take-put_mid at n xs run end (omega (arith, run_length, within)) (omega (arith, within)) in
    let after = drop-put_mid at n xs run end (omega (arith, within)) (omega (arith, within)) run_length ∙ sym (drop-drop n at xs ∙ ap (λ (m : ℕ). drop m xs) is) in
    let sorted = run_sorted bits c.args.texts.now c.args.depth n (take at xs) left run (omega (arith, within)) (omega (arith, within, length-drop at xs)) before.sorted
    (λ k low. ap (λ (m : ℕ). m / 2 ^ bits) (get_or-drop at xs k 0) ∙ c.end_of_run-end.ensures.alike (at + k) 0 (omega arith) (omega (arith, low, within)) ∙ ap (λ (m : ℕ). m / 2 ^ bits) (sym first))
    (λ low same. c.end_of_run-end.ensures.ends 0 (omega (arith, low, within, length-drop at xs)) (ap (λ (m : ℕ). m / 2 ^ bits) (sym first) ∙ same ∙ ap (λ (m : ℕ). m / 2 ^ bits) next))
    c.sort_run.ensures.same c.sort_run.ensures.in_order in
    record {
      within = omega (arith, within, same_len_mid at n xs run (run_length ∙ sym (length-take-le n left (omega (arith, within, length-drop at xs)))));
      same = IsPermutation-trans (places bits c.args.numbers.now) (places bits xs) _ before.same (places_moved bits at n xs run c.sort_run.ensures.same);
      sorted = subst (λ (ns : List ℕ). AreSorted bits c.args.texts.now c.args.depth ns (drop end (put_mid at n xs run))) (sym done) (subst (AreSorted bits c.args.texts.now c.args.depth _) (sym after) sorted);
    }

pub sort_run-returns-then-are_alike-clause-in_order : goal.sort_run-returns-then-are_alike-clause-in_order
sort_run-returns-then-are_alike-clause-in_order t c =
    let is = c.are_alike.ensures c.if-are_alike.true in
    alike_in_order (rests c.args.bits c.args.texts.now c.args.depth c.args.numbers.now) is.0 is.1

pub sort_run-returns-clause-in_order : goal.sort_run-returns-clause-in_order
sort_run-returns-clause-in_order t c =
    let us = c.args.texts.now in
    let depth = c.args.depth in
    let further = c.shared_depth-further.result in
    let old = rests c.args.bits us depth c.args.numbers.now in
    let new = rests c.args.bits us depth c.sort_from.new.numbers in
    let shared : List ℕ = c.shared_depth-further.ensures.shared.0 in
    let all = All-permutation (λ rest. take (further - depth) rest ≡ shared) old new (rests_moved c.args.bits us depth c.args.numbers.now c.sort_from.new.numbers c.sort_from.ensures.same) c.shared_depth-further.ensures.shared.1 in
    from_deeper (further - depth) new shared all (subst AreInOrder (rests_further c.args.bits us depth further c.sort_from.new.numbers c.shared_depth-further.ensures.deeper) c.sort_from.ensures.in_order)
