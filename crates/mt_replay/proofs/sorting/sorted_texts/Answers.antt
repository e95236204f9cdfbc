use Rattle.std.proofs.Common.{◌≡◌, ◌++◌, ◌%◌, ◌^◌, ◌<◌, [], ℕ, List, length, sym, subst, ◌∙◌}
use Rattle.std.specs.Prelude.{All, IsPermutation}
use Rattle.std.proofs.lemmas.List.Sorted.{IsPermutation-trans, IsPermutation-append_right}
use Rattle.std.proofs.lemmas.Result.{IfOk-weaker}
use Rattle.mt_words.specs.declared.update.Update.{Update}
use Rattle.mt_replay.specs.Cuts.{InKeyOrder}
use Rattle.mt_record.specs.Steps.Texts.{update_in_text}
use Rattle.mt_replay.specs.Steps.Numbers.{places, in_turn}
use Rattle.mt_replay.specs.Steps.Merging.{updates_of}
use Rattle.mt_replay.proofs.NumberLemmas.{places_within, in_turn_moved, in_turn_in_order}
use Rattle.mt_replay.proofs.sorting.sorted_texts.Goals as goal

-- any update
some : Update
some = update_in_text []

pub merge-requires-clause-within : goal.merge-requires-clause-within
merge-requires-clause-within c =
    let texts : List Update = c.deref.result.now in
    let same : texts ≡ c.deref-2.result.now = c.deref.ensures.value ∙ sym c.deref-2.ensures.value in
    let bits = c.bits_for-bits.result in
    let within : List Update → List ℕ → Type 0 = λ us. All (λ number. number % 2 ^ bits < length us) in
    subst (λ (us : List Update). within us c.deref-3.result.now) same
    (subst (within texts) (sym c.deref-3.ensures.value) (places_within bits (length texts) c.in_ok-numbers.numbers.items c.in_ok-numbers.ensures.same))

pub merge-requires-clause-sorted : goal.merge-requires-clause-sorted
merge-requires-clause-sorted c = λ d.
    let us : List Update = c.args.texts.items in
    let bits = c.bits_for-bits.result in
    let numbers : List ℕ = c.in_ok-numbers.numbers.items in
    let turned : in_turn c.deref-2.result.now d (places bits c.deref-3.result.now) ≡ in_turn us d (places bits numbers) = λ i. in_turn (c.deref-2.ensures.value i) d (places bits (c.deref-3.ensures.value i)) in
    let within = places_within bits (length us) numbers (rw c.deref.ensures.value at c.in_ok-numbers.ensures.same) in
    let order = rw c.deref.ensures.value at c.in_ok-numbers.ensures.in_order in
    subst InKeyOrder (sym turned) (in_turn_in_order bits us d numbers within order)

pub returns-clause-same : goal.returns-clause-same
returns-clause-same c =
    let us : List Update = c.args.texts.items in
    let all : List Update = updates_of c.args.part.now in
    let bits = c.bits_for-bits.result in
    let numbers : List ℕ = c.in_ok-numbers.numbers.items in
    let turn : List Update = in_turn us some (places bits numbers) in
    let turned : in_turn c.deref-2.result.now some (places bits c.deref-3.result.now) ≡ turn = λ i. in_turn (c.deref-2.ensures.value i) some (places bits (c.deref-3.ensures.value i)) in
    let moved = IsPermutation-append_right all us turn (in_turn_moved bits us some numbers (rw c.deref.ensures.value at c.in_ok-numbers.ensures.same)) in
    IfOk-weaker c.merge.result _ _ (λ sorted are. IsPermutation-trans (all ++ us) (all ++ turn) sorted.items moved (subst (λ (vs : List Update). IsPermutation (all ++ vs) sorted.items) turned (are some).same)) c.merge.ensures

pub returns-clause-in_order : goal.returns-clause-in_order
returns-clause-in_order c = IfOk-weaker c.merge.result _ _ (λ sorted are. (are some).in_order) c.merge.ensures
