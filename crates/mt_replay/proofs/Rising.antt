-- Keys that strictly rise.
use Rattle.std.proofs.Common.{◌≡◌, ◌∙◌, ℕ, zero, suc, ◌+◌, ◌-◌, ◌<◌, true, false, List, [], ◌∷◌, ◌++◌, length, map, take, sym, ap, subst, arith}
use Rattle.std.specs.Prelude.{slice_index_or}
use Rattle.std.specs.List.{AllByRecursion}
use Rattle.std.specs.List.Sorted.{IsStrictlySortedBy}
use Rattle.std.specs.Cmp.Lexicographic.{slice_cmp}
use Rattle.std.specs.Ordering.{nat_cmp, is_lt}
use Rattle.std.specs.declared.cmp.Ordering.{Ordering}
use Rattle.std.specs.declared.cmp.Ordering.TheVariants.{Less}
use Rattle.std.proofs.lemmas.List.{get_or-map, get_or_read, length-map, length-take-le, take_more}
use Rattle.std.proofs.lemmas.List.Elements.{All-from_recursion}
use Rattle.std.proofs.lemmas.Grind.{common_steps}
use Rattle.mt_words.specs.declared.record.Change.{Change}
use Rattle.mt_words.specs.declared.update.Kind.TheVariants.{Remove}
use Rattle.mt_words.specs.declared.update.Origin.TheVariants as origins
use Rattle.mt_words.specs.declared.update.Update.{Update}
use Rattle.mt_words.specs.Updates.{update_at}
use Rattle.mt_words.specs.Words.{IsBelow, AreRising}
use Rattle.mt_replay.specs.Cuts.{is_below, InKeyOrder}
use Rattle.mt_replay.specs.Survivors.{wholes}
use Rattle.mt_words.proofs.KeyOrder.{below_trans}
use Rattle.mt_replay.proofs.KeyOrder.{below_order}
use Rattle.mt_replay.proofs.Members.{of_each, all_from}

-- each key is below all keys after it
pub below_later : (keys : List (List ℕ)) → AreRising keys → (i j : ℕ) (d : List ℕ) → i < j → j < length keys → IsBelow (slice_index_or keys i d) (slice_index_or keys j d)
below_later [] rise i j d lt within = absurd (omega (arith, within))
below_later (k ∷ ks) rise i zero d lt within = absurd (omega (arith, lt))
below_later (k ∷ ks) rise zero (suc j) d lt within = All-from_recursion (IsBelow k) ks rise.0 j d (omega (arith, within))
below_later (k ∷ ks) rise (suc i) (suc j) d lt within = below_later ks rise.1 i j d (omega (arith, lt)) (omega (arith, within))

-- keys rise if each is below all keys after it
pub rise_from : (keys : List (List ℕ)) → ((i j : ℕ) (d : List ℕ) → i < j → j < length keys → IsBelow (slice_index_or keys i d) (slice_index_or keys j d)) → AreRising keys
rise_from [] each = tt
rise_from (k ∷ ks) each = (
  all_from (IsBelow k) ks (λ x at. subst (IsBelow k) at.2 (each 0 (suc at.0) x (omega arith) (omega (arith, at.1)))),
  rise_from ks (λ i j d lt within. each (suc i) (suc j) d (omega (arith, lt)) (omega (arith, within))),
)

-- keys rise with one more key, if it is above the last of them
pub rise_push : (keys : List (List ℕ)) (key : List ℕ) → AreRising keys → ((d : List ℕ) → 0 < length keys → IsBelow (slice_index_or keys (length keys - 1) d) key) → AreRising (keys ++ key ∷ [])
rise_push [] key rise below = (tt, tt)
rise_push (k ∷ []) key rise below = ((below k (omega arith), tt), (tt, tt))
rise_push (k ∷ l ∷ ks) key rise below =
    let place : length (k ∷ l ∷ ks) - 1 ≡ suc (length (l ∷ ks) - 1) = omega arith in
    let rest : AreRising (l ∷ ks ++ key ∷ []) = rise_push (l ∷ ks) key rise.1 (λ d some. subst (λ n. IsBelow (slice_index_or (k ∷ l ∷ ks) n d) key) place (below d (omega arith))) in
    ((rise.0.0, all_from (IsBelow k) (ks ++ key ∷ []) (λ x at. below_trans k l x rise.0.0 (of_each (IsBelow l) (ks ++ key ∷ []) x rest.0 at))), rest)

-- the order of borrowed keys
abbrev pub order_of : {B : Type 0} → (B → List ℕ) → B → B → Ordering
order_of now a b = slice_cmp nat_cmp (now a) (now b)

all_below : {B : Type 0} (now : B → List ℕ) (k : B) (keys : List B) → AllByRecursion (λ y. order_of now k y ≡ Less) keys → AllByRecursion (IsBelow (now k)) (map now keys)
all_below now k [] all = tt
all_below now k (y ∷ keys) all = (ap is_lt all.0, all_below now k keys all.1)

-- borrowed keys that are strictly sorted rise
pub sorted_rise : {B : Type 0} (now : B → List ℕ) (keys : List B) → IsStrictlySortedBy (order_of now) keys → AreRising (map now keys)
unfolding IsStrictlySortedBy
sorted_rise now [] sorted = tt
sorted_rise now (k ∷ keys) sorted = (all_below now k keys sorted.0, sorted_rise now keys sorted.1)

module _ (keys : List (List ℕ)) (at : ℕ) (low high : List ℕ) (some : 0 < at) (lt : at < length keys) (low_at : low ≡ slice_index_or keys (at - 1) low) (high_at : high ≡ slice_index_or keys at high) where
  -- the keys rise up to this one, if they rise before it and it is above the one before it
  pub rise_more : is_below low high ≡ true → AreRising (take at keys) → AreRising (take (at + 1) keys)
  rise_more up rise =
      let long = length-take-le at keys (omega arith) in
      let front : List (List ℕ) = take at keys in
      subst AreRising (sym (take_more keys at high lt ∙ ap (λ (key : List ℕ). front ++ key ∷ []) (sym high_at))) (rise_push front high rise (λ d first.
      let read = get_or_read keys (at - 1) low (omega arith) low_at d in
      grind (arith, common_steps)))

  -- the keys do not rise up to this one, if it is not above the one before it
  pub falls_at : is_below low high ≡ false → ¬ (AreRising (take (at + 1) keys))
  falls_at not rise =
      let long = length-take-le (at + 1) keys (omega arith) in
      let up = below_later (take (at + 1) keys) rise (at - 1) at low (omega arith) (omega (arith, long)) in
      grind (arith, common_steps)

-- entries whose keys rise are in the order of their keys
pub entries_in_order : (entries : List Change) → AreRising (map (λ (entry : Change). entry.key) entries) → InKeyOrder (wholes entries)
entries_in_order entries rise = λ k d low lt.
    let none : Change = record { version = 0; key = []; kind = Remove } in
    let keys : List (List ℕ) = map (λ (entry : Change). entry.key) entries in
    let many : length (wholes entries) ≡ length entries = length-map entries (update_at origins.Checkpoint 0) in
    let read : (n : ℕ) → n < length entries → (slice_index_or (wholes entries) n d).key ≡ slice_index_or keys n [] = λ n within.
    ap (λ (u : Update). u.key) (get_or-map (update_at origins.Checkpoint 0) entries n none d within) ∙ sym (get_or-map (λ (entry : Change). entry.key) entries n none [] within) in
    let here = read k (omega (arith, lt, many)) in
    let next = read (k + 1) (omega (arith, lt, many)) in
    let up = below_later keys rise k (k + 1) [] (omega arith) (omega (arith, lt, many, length-map entries (λ (entry : Change). entry.key))) in
    (λ i. is_below (next i) (here i)) ∙ below_order.one_way (slice_index_or keys k []) (slice_index_or keys (k + 1) []) up
