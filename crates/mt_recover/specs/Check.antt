-- What a check of logs and checkpoint parts finds.
use Rattle.std.specs.Prelude.{◌≡◌, ℕ, suc, IsTrue, List, [], ◌∷◌, Result, IfOk, IfErr}
use Rattle.std.specs.Option.{option_map}
use Rattle.mt_words.specs.declared.fault.Fault.{Fault}
use Rattle.mt_record.specs.declared.front.LogFront.{LogFront}
use Rattle.mt_scan.specs.declared.checking.LogCheck.{LogCheck}
use Rattle.mt_scan.specs.declared.part_scan.PartScan.{PartScan}
use Rattle.mt_scan.specs.Sources.{Seen}
use Rattle.mt_scan.specs.Scans.{OfTold, IsScanFault, IsSoundFront, failures_of}
use Rattle.mt_scan.specs.Checks.{IsCheckOf}
use Rattle.mt_scan.specs.PartScans.{IsKnown}
use Rattle.mt_scan.specs.PartsShown.{known_by, IsPartScanFault}
use Rattle.mt_scan.specs.Choice.{AreSkipped, AreNameless}
use Rattle.mt_scan.specs.Choosing.{checkpoint_in}
use Rattle.mt_recover.specs.Recovery.{Basis, begin_of}
use Rattle.mt_recover.specs.declared.found.Start.{Start}

-- the answer of the check of log number `log`: its check, or why it has none; a steady source is never reported as failed
pub record IsLogChecked (limit log : ℕ) (seen : Seen) (answer : Result LogCheck Fault) : Type 0 where
  pub check : IfOk answer (λ check. OfTold seen.told (λ bytes. IsCheckOf limit bytes check))
  pub fault : IfErr answer (λ fault. OfTold seen.told (λ bytes. IsScanFault log bytes fault))
  pub steady : IsTrue seen.steady → failures_of answer ≡ 0

-- the answer of the scan of a part: what is known of its bytes, or a fault of that scan; a steady source is never reported as failed
pub record IsPartOutcome (part : ℕ) (seen : Seen) (outcome : Result PartScan Fault) : Type 0 where
  pub scan : IfOk outcome (λ scan. OfTold seen.told (λ bytes. IsKnown bytes (known_by scan)))
  pub fault : IfErr outcome (IsPartScanFault part)
  pub steady : IsTrue seen.steady → failures_of outcome ≡ 0

-- this is the front of the log that a source has
abbrev pub IsFrontSeen : Seen → LogFront → Type 0
IsFrontSeen seen front = OfTold seen.told (λ bytes. IsSoundFront bytes front)

-- `R` holds for the items of two lists, place by place, and for their number, which counts up from `number`; the lists are equally long
abbrev pub AllFrom : {A B : Type 0} → (ℕ → A → B → Type 0) → ℕ → List A → List B → Type 0
AllFrom R number [] [] = Unit {0}
AllFrom R number [] (y ∷ ys) = ⊥
AllFrom R number (x ∷ xs) [] = ⊥
AllFrom R number (x ∷ xs) (y ∷ ys) = R number x y × AllFrom R (suc number) xs ys

-- the outcomes of the scans of the parts, if there are logs
abbrev pub ArePartOutcomes : List Seen → List Seen → List (Result PartScan Fault) → Type 0
ArePartOutcomes [] parts outcomes = Unit {0}
ArePartOutcomes (log ∷ logs) parts outcomes = AllFrom IsPartOutcome 0 parts outcomes

-- where recovery of logs and parts begins: the window and the choice of a checkpoint are those of the facts
pub record IsStartOf (logs parts : List (List ℕ)) (start : Start) : Type 0 where
  pub basis : Basis logs parts
  pub window : start.window ≡ record { begin = begin_of basis.facts.chosen; cutoff = basis.facts.cutoff }
  pub chosen : option_map checkpoint_in start.choice.chosen ≡ basis.facts.chosen
  pub skipped : AreSkipped basis.facts.known start.choice.skipped.items
  pub nameless : AreNameless basis.facts.known start.choice.nameless.items
