-- Updates in the order of their keys, key by key.
use Rattle.std.proofs.Common.{◌≡◌, ℕ, ◌+◌, ◌-◌, ◌<◌, ◌≤◌, List, ◌++◌, length, take, drop, get_or, Contains, true, sym, ap, subst, ◌∙◌, arith}
use Rattle.std.proofs.lemmas.List.{take-take, drop-take, take-append-drop, get_or-take, get_or-drop, get_or_default, length-take-le, length-drop}
use Rattle.std.proofs.lemmas.List.Sorted.{sorted_far}
use Rattle.mt_words.specs.declared.update.Update.{Update}
use Rattle.mt_words.specs.Limits.{widest}
use Rattle.mt_words.specs.Words.{IsBelow, AreColumns}
use Rattle.mt_replay.specs.Cells.{AreApart}
use Rattle.mt_replay.specs.Cuts.{is_below, key_below, InKeyOrder}
use Rattle.mt_replay.specs.Groups.{AreColumnsOf}
use Rattle.mt_replay.specs.Steps.Walker.{IsLastKey, AreLast}
use Rattle.mt_replay.proofs.KeyOrder.{key_order, all_under}
use Rattle.mt_replay.proofs.StepLemmas.{strictly}

-- ---- the updates of one key

-- the update before this place is of another key
abbrev pub IsStart : List Update → ℕ → Type 0
IsStart updates at = (d : Update) → 0 < at → at < length updates → ¬ ((get_or updates (at - 1) d).key ≡ (get_or updates at d).key)

module _ (updates : List Update) (at end : ℕ) (lt : at < end) (fits : end ≤ length updates)
    (alike : (k : ℕ) (d : Update) → at ≤ k → k < end → (get_or updates k d).key ≡ (get_or updates at d).key) where
  -- the updates up to `at`, and then those of the key at it
  pub key_taken : take at updates ++ take (end - at) (drop at updates) ≡ take end updates
  key_taken =
      let is : at + (end - at) ≡ end = omega (arith, lt) in
      (λ i. sym (take-take at (at + (end - at)) updates (omega arith)) i ++ sym (drop-take at (end - at) updates) i)
      ∙ take-append-drop at (take (at + (end - at)) updates) ∙ ap (λ (n : ℕ). take n updates) is

  pub next_start : ((d : Update) → end < length updates → ¬ ((get_or updates at d).key ≡ (get_or updates end d).key)) → IsStart updates end
  next_start ends = λ d some within same. ends d within (sym (alike (end - 1) d (omega (arith, lt)) (omega (arith, lt))) ∙ same)

  -- they are the updates of the last key
  pub last_key : InKeyOrder updates → IsStart updates at → (d : Update) → IsLastKey (take at updates) (take (end - at) (drop at updates)) (get_or updates at d).key
  last_key order start d =
      let long = length-take-le (end - at) (drop at updates) (omega (arith, fits, length-drop at updates)) in
      record {
        some = omega (arith, lt, long);
        same_keys = λ u there.
            let low : there.0 < end - at = omega (arith, there.1, long) in
            let item : u ≡ get_or updates (at + there.0) u = sym there.2 ∙ get_or-take (end - at) (drop at updates) there.0 u low ∙ get_or-drop at updates there.0 u in
            ap (λ (v : Update). v.key) item ∙ alike (at + there.0) u (omega arith) (omega (arith, low)) ∙ ap (λ (v : Update). v.key) (get_or_default updates at u d (omega (arith, lt, fits)));
        below = λ u there.
            let low : there.0 < at = omega (arith, there.1, length-take-le at updates (omega (arith, lt, fits))) in
            let item : get_or updates there.0 u ≡ u = sym (get_or-take at updates there.0 u low) ∙ there.2 in
            let key : List ℕ = (get_or updates at d).key in
            let up : (e : Update) → is_below (get_or updates (at - 1) e).key key ≡ true = λ e.
            (λ i. is_below (get_or_default updates (at - 1) e d (omega (arith, low, lt, fits)) i).key key)
            ∙ strictly (get_or updates (at - 1) d).key key (sorted_far key_below key_order updates order (at - 1) at d (omega arith) (omega (arith, lt, fits))) (start d (omega (arith, low)) (omega (arith, lt, fits))) in
            subst (λ (v : Update). IsBelow v.key key) item (all_under updates key (at - 1) order (omega (arith, low, lt, fits)) up there.0 u (omega (arith, low)));
      }

  -- and these are the columns that they leave
  pub last_columns : InKeyOrder updates → IsStart updates at → (first : Update) → first ≡ get_or updates at first → (key : List ℕ) → key ≡ first.key → (columns : List (ℕ × List ℕ)) → AreColumns widest columns
      → ((k : List ℕ) → ((u : Update) → Contains (take (end - at) (drop at updates)) u → u.key ≡ k) → AreApart (take (end - at) (drop at updates)) → AreColumnsOf (take (end - at) (drop at updates)) k columns)
      → AreLast (take at updates) (take (end - at) (drop at updates)) key columns
  last_columns order start first is key of_first columns lawful exact =
      let of_key = subst (IsLastKey (take at updates) (take (end - at) (drop at updates))) (sym (of_first ∙ ap (λ (u : Update). u.key) is)) (last_key order start first) in
      record { of_key = of_key; lawful = lawful; exact = exact key of_key.same_keys }
