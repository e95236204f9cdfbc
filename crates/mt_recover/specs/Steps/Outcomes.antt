-- The answers of the scans of sources.
use Rattle.std.specs.Prelude.{◌≡◌, ℕ, IsTrue, Option, None, List, [], ◌∷◌, map, Result, Ok, Err, IfOk, IfErr}
use Rattle.std.specs.List.{filter_map}
use Rattle.mt_words.specs.declared.fault.Fault.{Fault}
use Rattle.mt_board.specs.Board.{least_of}
use Rattle.mt_record.specs.declared.front.LogFront.{LogFront}
use Rattle.mt_scan.specs.declared.log_scan.LogScan.{LogScan}
use Rattle.mt_scan.specs.declared.part_scan.PartScan.{PartScan}
use Rattle.mt_scan.specs.Sources.{Seen}
use Rattle.mt_scan.specs.Scans.{OfTold, IsScanFault, failures_of}
use Rattle.mt_scan.specs.Dropping.{HasAllBelow, noted_for}
pub use Rattle.mt_recover.specs.Check.{AllFrom, IsFrontSeen, IsPartOutcome}
pub use Rattle.mt_recover.specs.Fed.{in_memory}
use Rattle.mt_recover.specs.declared.scans.Outcomes.{Outcomes}

-- the answer of the scan of a log: a scan that dropped no update below `limit`, or a fault of that scan; a steady source is never reported as failed
pub record IsLogOutcome (limit log : ℕ) (seen : Seen) (outcome : Result LogScan Fault) : Type 0 where
  pub scan : IfOk outcome (λ scan. OfTold seen.told (λ bytes. HasAllBelow limit log bytes scan))
  pub fault : IfErr outcome (λ fault. OfTold seen.told (λ bytes. IsScanFault log bytes fault))
  pub steady : IsTrue seen.steady → failures_of outcome ≡ 0

-- the front of a checked log, or a fault of that check; a steady source is never reported as failed
pub record IsFrontOutcome (log : ℕ) (seen : Seen) (outcome : Result LogFront Fault) : Type 0 where
  pub front : IfOk outcome (IsFrontSeen seen)
  pub fault : IfErr outcome (λ fault. OfTold seen.told (λ bytes. IsScanFault log bytes fault))
  pub steady : IsTrue seen.steady → failures_of outcome ≡ 0

-- the parts that are read: none if there is no log
abbrev pub read_parts : {L P : Type 0} → List L → List P → List P
read_parts [] parts = []
read_parts (log ∷ logs) parts = parts

-- what the scan of a log noted: its last timestamp, if the scan is Ok and the log is no segment
abbrev pub last_in : Result LogScan Fault → Option ℕ
last_in (Ok scan) = noted_for scan
last_in (Err fault) = None

-- what the scans of all logs noted
abbrev pub lasts : List (Result LogScan Fault) → List ℕ
lasts = filter_map last_in

-- the answers of the scans of logs and parts, which dropped no update below `limit`
pub record AreOutcomesTo (limit : ℕ) (logs parts : List Seen) (outcomes : Outcomes) : Type 0 where
  pub logs_are : AllFrom (IsLogOutcome limit) 0 logs outcomes.logs.items
  pub parts_are : AllFrom IsPartOutcome 0 (read_parts logs parts) outcomes.parts.items

-- the same for the least timestamp that a scan noted
abbrev pub AreOutcomes : List Seen → List Seen → Outcomes → Type 0
AreOutcomes logs parts outcomes = AreOutcomesTo (least_of (lasts outcomes.logs.items)) logs parts outcomes

-- no scan has a fault
pub record AreAllOk (outcomes : Outcomes) : Type 0 where
  pub scans : List LogScan
  pub logs : outcomes.logs.items ≡ map Ok scans
  pub known : List PartScan
  pub parts : outcomes.parts.items ≡ map Ok known
