-- The least of the reaches of logs.
use Rattle.std.proofs.Common.{◌≡◌, inl, inr, ℕ, zero, suc, ◌+◌, ◌<◌, ◌≤◌, List, [], ◌∷◌, length, Some, IfSome, Contains, sym, ap, ◌∙◌, subst, arith}
use Rattle.std.specs.Prelude.{slice_get}
use Rattle.std.proofs.lemmas.Option.{same_Some, IfSome_then}
use Rattle.std.proofs.lemmas.Bool.{cases_lt}
use Rattle.mt_words.proofs.Elements.{no_element, head_or_tail}
use Rattle.mt_keeper.specs.declared.keeper.Log.{Log}
use Rattle.mt_keeper.specs.Keeping.{reach_in}

-- the file, if it is the newest of its log, reaches no less
abbrev pub IsNoLess : ℕ → Log → Type 0
IsNoLess least log = IfSome (reach_in log.stage) (λ reach. least ≤ reach)

-- the first logs reach no less
abbrev pub AreNoLess : ℕ → ℕ → List Log → Type 0
AreNoLess least count logs = (k : ℕ) (log : Log) → k < count → slice_get logs k ≡ Some log → IsNoLess least log

-- one more log, and a least that is no greater
pub no_less_more : (least new count : ℕ) (logs : List Log) (log : Log) → AreNoLess least count logs → slice_get logs count ≡ Some log → new ≤ least → IsNoLess new log
    → AreNoLess new (count + 1) logs
no_less_more least new count logs log are at below here k x lt stands = elim (cases_lt k count) as (λ _. IsNoLess new x) [
  | inl before ↦ IfSome_then (reach_in x.stage) (are k x before stands) (λ reach is. omega (arith, is, below))
  | inr past ↦ let e : k ≡ count = omega (arith, lt, past) in
      subst (IsNoLess new) (same_Some log x (sym at ∙ ap (slice_get logs) (sym e) ∙ stands)) here
]

-- the number of a log
pub number_of : (logs : List Log) (log : Log) → Contains logs log → (k : ℕ) × (k < length logs) × (slice_get logs k ≡ Some log)
number_of [] log at = absurd (no_element log at)
number_of (l ∷ ls) log at = elim (head_or_tail l log ls at) as (λ _. (k : ℕ) × (k < length (l ∷ ls)) × (slice_get (l ∷ ls) k ≡ Some log)) [
  | inl e ↦ (zero, omega arith, ap (λ (x : Log). Some x) e)
  | inr later ↦ let is = number_of ls log later in (suc is.0, omega (arith, is.1), is.2)
]

pub all_no_less : (least count : ℕ) (logs : List Log) → length logs ≤ count → AreNoLess least count logs → (log : Log) → Contains logs log → IsNoLess least log
all_no_less least count logs all are log at = let is = number_of logs log at in are is.0 log (omega (arith, is.1, all)) is.2
