-- Sources of logs and parts, and what recovery from them returns.
use Rattle.std.specs.Prelude.{◌≡◌, false, ℕ, IsSomeAnd, IfOk, IfErr, List, Result, slice_get}
use Rattle.std.specs.List.{AllZip}
use Rattle.mt_words.specs.declared.fault.Fault.{Fault}
use Rattle.mt_words.specs.declared.fault.Fault.TheVariants as faults
use Rattle.mt_scan.specs.Sources.{Seen, Agrees}
use Rattle.mt_recover.specs.Report.{Outcome, IsRecoveredOf}
use Rattle.mt_recover.specs.Verdict.{IsAnsweredFrom}

-- the sources may have these bytes: exactly those that a source reports, or any bytes if it reports none
abbrev pub MayHave : {S : Type 0} → (S → Seen) → List S → List (List ℕ) → Type 0
MayHave seen sources all = AllZip (λ source bytes. Agrees (seen source).told bytes) sources all

-- `P` holds for some logs and parts that the sources may have
pub record OfSources {S : Type 0} (seen : S → Seen) (log_sources part_sources : List S) (P : List (List ℕ) → List (List ℕ) → Type 0) : Type 0 where
  pub logs : List (List ℕ)
  pub parts : List (List ℕ)
  pub logs_may : MayHave seen log_sources logs
  pub parts_may : MayHave seen part_sources parts
  pub holds : P logs parts

-- if the fault blames a source, there is that source and it is not steady
abbrev pub BlamesUnsteady : {S : Type 0} → (S → Seen) → List S → List S → Fault → Type 0
BlamesUnsteady seen logs parts (faults.Source i) = IsSomeAnd (slice_get logs i) (λ source. (seen source).steady ≡ false)
BlamesUnsteady seen logs parts (faults.PartSource i) = IsSomeAnd (slice_get parts i) (λ source. (seen source).steady ≡ false)
BlamesUnsteady seen logs parts fault = Unit {0}

-- the fault is one that recovery may return for some logs and parts that the sources may have, and it blames no steady source
abbrev pub IsAnsweredBy : {S : Type 0} → (S → Seen) → List S → List S → Fault → Type 0
IsAnsweredBy seen logs parts fault = OfSources seen logs parts (λ ls ps. IsAnsweredFrom ls ps fault) × BlamesUnsteady seen logs parts fault

-- a result from these sources: Ok is what `P` allows for some logs and parts that they may have, Err is a fault that `IsAnsweredBy` allows
pub record IsAnswerFrom {S T : Type 0} (seen : S → Seen) (logs parts : List S) (P : List (List ℕ) → List (List ℕ) → T → Type 0) (result : Result T Fault) : Type 0 where
  pub value : IfOk result (λ value. OfSources seen logs parts (λ ls ps. P ls ps value))
  pub fault : IfErr result (IsAnsweredBy seen logs parts)

-- a result of recovery from these sources: Ok is recovered from some logs and parts that they may have
abbrev pub IsRecoveryFrom : {S : Type 0} → (S → Seen) → List S → List S → Result Outcome Fault → Type 0
IsRecoveryFrom seen logs parts result = IsAnswerFrom seen logs parts IsRecoveredOf result
