-- The updates of logs have distinct stamps: the origin in a stamp names the log and the record.
use Rattle.std.proofs.Common.{◌≡◌, inl, inr, ℕ, suc, ◌≤◌, Option, Some, None, List, [], ◌∷◌, Contains, sym, ap, ◌∙◌, arith}
use Rattle.std.proofs.lemmas.List.Elements.{Contains-append_cases, Contains-push_cases}
use Rattle.mt_words.specs.declared.record.Change.{Change}
use Rattle.mt_words.specs.declared.update.Origin.{Origin}
use Rattle.mt_words.specs.declared.update.Origin.TheVariants as origins
use Rattle.mt_words.specs.declared.update.Stamp.{Stamp}
use Rattle.mt_words.specs.declared.update.Update.{Update}
use Rattle.mt_words.specs.Changes.{Logged}
use Rattle.mt_words.specs.Updates.{update_at, update_by, update_of, updates_from}
use Rattle.mt_words.proofs.Elements.{no_element}
use Rattle.mt_replay.specs.Survivors.{all_updates}

-- ---- one record

-- each update of a change has this origin
of_change : (origin : Origin) (timestamp : ℕ) (change : Option Change) (u : Update) → Contains (update_by origin timestamp change) u
    → u.stamp.origin ≡ origin
of_change origin timestamp None u at = absurd (no_element u at)
of_change origin timestamp (Some change) u at =
    elim (Contains-push_cases [] (update_at origin timestamp change) u at) as (λ _. u.stamp.origin ≡ origin) [
      | inl none ↦ absurd (no_element u none)
      | inr e ↦ ap (λ (x : Update). x.stamp.origin) (sym e)
    ]

-- a change makes at most one update
same_change : (origin : Origin) (timestamp : ℕ) (change : Option Change) (u w : Update) → Contains (update_by origin timestamp change) u
    → Contains (update_by origin timestamp change) w → u ≡ w
same_change origin timestamp None u w at here = absurd (no_element u at)
same_change origin timestamp (Some change) u w at here =
    let p = update_at origin timestamp change in
    elim (Contains-push_cases [] p u at) as (λ _. u ≡ w) [
      | inl none ↦ absurd (no_element u none)
      | inr e ↦ elim (Contains-push_cases [] p w here) as (λ _. u ≡ w) [ inl none ↦ absurd (no_element w none) | inr f ↦ sym e ∙ f ]
    ]

-- each update of a record names its log and its number
one_update : (log nth : ℕ) (r : Logged) (u : Update) → Contains (update_of log nth r) u → u.stamp.origin ≡ origins.Log log nth
one_update log nth r u at = of_change (origins.Log log nth) r.timestamp r.change u at

-- a record makes at most one update
same_update : (log nth : ℕ) (r : Logged) (u w : Update) → Contains (update_of log nth r) u → Contains (update_of log nth r) w → u ≡ w
same_update log nth r u w at here = same_change (origins.Log log nth) r.timestamp r.change u w at here

-- ---- one log

-- each update of these records names the log, and a number from nth on
of_log : (log nth : ℕ) (rs : List Logged) (u : Update) → Contains (updates_from log nth rs) u
    → (n : ℕ) × (u.stamp.origin ≡ origins.Log log n) × (nth ≤ n)
of_log log nth [] u at = absurd (no_element u at)
of_log log nth (r ∷ rs) u at =
    elim (Contains-append_cases (update_of log nth r) (updates_from log (suc nth) rs) u at)
    as (λ _. (n : ℕ) × (u.stamp.origin ≡ origins.Log log n) × (nth ≤ n)) [
      | inl first ↦ (nth, one_update log nth r u first, omega arith)
      | inr later ↦ let is = of_log log (suc nth) rs u later in let from : suc nth ≤ is.0 = is.2 in (is.0, is.1, omega arith)
    ]

-- records of different numbers have different origins
two_records : (log nth n : ℕ) → suc nth ≤ n → origins.Log log nth ≡ origins.Log log n → ⊥
two_records log nth n from same = let e : nth ≡ n = cc in omega arith

-- two updates of one log with the same stamp are equal
log_apart : (log nth : ℕ) (rs : List Logged) (u w : Update) → Contains (updates_from log nth rs) u → Contains (updates_from log nth rs) w
    → u.stamp ≡ w.stamp → u ≡ w
log_apart log nth [] u w at here same = absurd (no_element u at)
log_apart log nth (r ∷ rs) u w at here same =
    let origin : u.stamp.origin ≡ w.stamp.origin = ap (λ (s : Stamp). s.origin) same in
    elim (Contains-append_cases (update_of log nth r) (updates_from log (suc nth) rs) u at) as (λ _. u ≡ w) [
      | inl first ↦ elim (Contains-append_cases (update_of log nth r) (updates_from log (suc nth) rs) w here) as (λ _. u ≡ w) [
        | inl too ↦ same_update log nth r u w first too
        | inr later ↦
            let is = of_log log (suc nth) rs w later in
            absurd (two_records log nth is.0 is.2 (sym (one_update log nth r u first) ∙ origin ∙ is.1))
      ]
      | inr later ↦ elim (Contains-append_cases (update_of log nth r) (updates_from log (suc nth) rs) w here) as (λ _. u ≡ w) [
        | inl first ↦
            let is = of_log log (suc nth) rs u later in
            absurd (two_records log nth is.0 is.2 (sym (one_update log nth r w first) ∙ sym origin ∙ is.1))
        | inr too ↦ log_apart log (suc nth) rs u w later too same
      ]
    ]

-- ---- all logs

-- each update of these logs names a log from this number on
pub of_logs : (log : ℕ) (logs : List (List Logged)) (u : Update) → Contains (all_updates log logs) u
    → (k n : ℕ) × (u.stamp.origin ≡ origins.Log k n) × (log ≤ k)
of_logs log [] u at = absurd (no_element u at)
of_logs log (l ∷ ls) u at =
    elim (Contains-append_cases (updates_from log 0 l) (all_updates (suc log) ls) u at)
    as (λ _. (k n : ℕ) × (u.stamp.origin ≡ origins.Log k n) × (log ≤ k)) [
      | inl first ↦ let is = of_log log 0 l u first in (log, is.0, is.1, omega arith)
      | inr later ↦ let is = of_logs (suc log) ls u later in let from : suc log ≤ is.0 = is.3 in (is.0, is.1, is.2, omega arith)
    ]

-- records of different logs have different origins
two_logs : (log k m n : ℕ) → suc log ≤ k → origins.Log log m ≡ origins.Log k n → ⊥
two_logs log k m n from same = let e : log ≡ k = cc in omega arith

-- two updates of logs with the same stamp are equal
pub logs_apart : (log : ℕ) (logs : List (List Logged)) (u w : Update) → Contains (all_updates log logs) u
    → Contains (all_updates log logs) w → u.stamp ≡ w.stamp → u ≡ w
logs_apart log [] u w at here same = absurd (no_element u at)
logs_apart log (l ∷ ls) u w at here same =
    let origin : u.stamp.origin ≡ w.stamp.origin = ap (λ (s : Stamp). s.origin) same in
    elim (Contains-append_cases (updates_from log 0 l) (all_updates (suc log) ls) u at) as (λ _. u ≡ w) [
      | inl first ↦ elim (Contains-append_cases (updates_from log 0 l) (all_updates (suc log) ls) w here) as (λ _. u ≡ w) [
        | inl too ↦ log_apart log 0 l u w first too same
        | inr later ↦
            let a = of_log log 0 l u first in
            let b = of_logs (suc log) ls w later in
            absurd (two_logs log b.0 a.0 b.1 b.3 (sym a.1 ∙ origin ∙ b.2))
      ]
      | inr later ↦ elim (Contains-append_cases (updates_from log 0 l) (all_updates (suc log) ls) w here) as (λ _. u ≡ w) [
        | inl first ↦
            let a = of_log log 0 l w first in
            let b = of_logs (suc log) ls u later in
            absurd (two_logs log b.0 a.0 b.1 b.3 (sym a.1 ∙ sym origin ∙ b.2))
        | inr too ↦ logs_apart (suc log) ls u w later too same
      ]
    ]
