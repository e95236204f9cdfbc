-- Checks of sources, by their numbers.
use Rattle.std.proofs.Common.{ℕ, suc, List, [], ◌∷◌, map, Result, subst, add-one}
use Rattle.std.specs.List.{AllZip, enumerate_from}
use Rattle.mt_words.specs.declared.fault.Fault.{Fault}
use Rattle.mt_scan.specs.declared.checking.LogCheck.{LogCheck}
use Rattle.mt_record.specs.declared.front.LogFront.{LogFront}
use Rattle.mt_scan.specs.Sources.{Seen}
use Rattle.mt_recover.specs.Check.{AllFrom, IsLogChecked}
use Rattle.mt_recover.specs.Steps.Outcomes.{IsFrontOutcome}

-- what holds for each numbered source and its answer holds for each source and its answer
pub all_numbered : {S A : Type 0} (R : ℕ → Seen → A → Type 0) (seen : S → Seen) (number : ℕ) (sources : List S) (answers : List A)
    → AllZip (λ job answer. R job.0 (seen job.1) answer) (enumerate_from number sources) answers → AllFrom R number (map seen sources) answers
all_numbered R seen number [] [] all = tt
all_numbered R seen number [] (a ∷ rest) all = absurd all
all_numbered R seen number (s ∷ ss) [] all = absurd all
all_numbered {S} R seen number (s ∷ ss) (a ∷ rest) all =
    (all.0, all_numbered R seen (suc number) ss rest (subst (λ (n : ℕ). AllZip (λ (job : ℕ × S) answer. R job.0 (seen job.1) answer) (enumerate_from n ss) rest) (add-one number) all.1))

-- each outcome is that of a source whose check led to it
pub all_fronts : (limit : ℕ) (number : ℕ) (sources : List Seen) (checks : List (Result LogCheck Fault)) (outcomes : List (Result LogFront Fault)) → AllFrom (IsLogChecked limit) number sources checks
    → AllZip (λ job outcome. (limit : ℕ) (seen : Seen) → IsLogChecked limit job.0 seen job.1 → IsFrontOutcome job.0 seen outcome) (enumerate_from number checks) outcomes
    → AllFrom IsFrontOutcome number sources outcomes
all_fronts limit number [] [] [] are all = tt
all_fronts limit number [] [] (o ∷ os) are all = absurd all
all_fronts limit number [] (c ∷ cs) outcomes are all = absurd are
all_fronts limit number (s ∷ ss) [] outcomes are all = absurd are
all_fronts limit number (s ∷ ss) (c ∷ cs) [] are all = absurd all
all_fronts limit number (s ∷ ss) (c ∷ cs) (o ∷ os) are all =
    (all.0 limit s are.0, all_fronts limit (suc number) ss cs os are.1 (subst (λ (n : ℕ). AllZip (λ (job : ℕ × Result LogCheck Fault) (outcome : Result LogFront Fault). (limit : ℕ) (seen : Seen) → IsLogChecked limit job.0 seen job.1 → IsFrontOutcome job.0 seen outcome) (enumerate_from n cs) os) (add-one number) all.1))
