-- The one fault that recovery names if there is no store.
use Rattle.std.specs.Prelude.{◌≡◌, ℕ, ◌<◌, Some, List, [], length, slice_get, take}
use Rattle.mt_words.specs.declared.fault.Fault.{Fault}
use Rattle.mt_words.specs.declared.fault.Fault.TheVariants as faults
use Rattle.mt_record.specs.declared.read.FeedFault.{FeedFault}
use Rattle.mt_record.specs.declared.read.FeedFault.TheVariants as of_log
use Rattle.mt_record.specs.Logs.{LogReading}
use Rattle.mt_record.specs.LogFaults.{IsLogFault, OrMemory}
use Rattle.mt_scan.specs.Segments.{IsDoubled, IsTornAmid, IsGap, AreWriters, IsFirst}
use Rattle.mt_recover.specs.Recovery.{AreReadings, Facts, begin_of}

-- log i has this fault, and each log before it has a reading
pub record IsFirstFault (logs : List (List ℕ)) (i : ℕ) (fault : FeedFault) : Type 0 where
  pub readings : List LogReading
  pub before : AreReadings (take i logs) readings
  pub bytes : List ℕ
  pub stands : slice_get logs i ≡ Some bytes
  pub is_fault : IsLogFault bytes fault

-- `NoLogs` if there is no log; else the fault of the least log that has one; else `Doubled` of the least log that is the same segment as one before
-- it; else `Torn` of the least log that is torn and not the last segment of its worker; else `Gap` of the least log with a gap
abbrev pub IsVerdict : List (List ℕ) → List (List ℕ) → Fault → Type 0
IsVerdict logs parts faults.NoLogs = logs ≡ []
IsVerdict logs parts (faults.Header i) = IsFirstFault logs i of_log.Header
IsVerdict logs parts (faults.Record i nth what) = IsFirstFault logs i (of_log.Record nth what)
IsVerdict logs parts (faults.Doubled i) = (readings : List LogReading) × AreReadings logs readings × IsFirst (IsDoubled readings) i
IsVerdict logs parts (faults.Torn i) = (readings : List LogReading) × AreReadings logs readings × ((j : ℕ) → IsDoubled readings j → ⊥) × IsFirst (IsTornAmid readings) i
IsVerdict logs parts (faults.Gap i) = (facts : Facts logs parts) × IsFirst (IsGap (begin_of facts.chosen) facts.readings) i
IsVerdict logs parts fault = ⊥

-- the fault is the verdict, or it is `Memory`
abbrev pub IsVerdictOrMemory : List (List ℕ) → List (List ℕ) → Fault → Type 0
IsVerdictOrMemory logs parts = OrMemory faults.Memory (IsVerdict logs parts)

-- each log has a reading, no segment is there twice, and none but the last one of a worker's log is torn
abbrev pub AreSoundLogs : List (List ℕ) → Type 0
AreSoundLogs logs = (readings : List LogReading) × AreReadings logs readings × AreWriters readings

-- The fault that recovery from sources returns: `Source` of a log, if each log before it has a reading, so that none of these has a fault; `PartSource`
-- of a part, if there are logs, none of them has a fault, and none is doubled or torn; any other fault only as the verdict, or `Memory`.
abbrev pub IsAnsweredFrom : List (List ℕ) → List (List ℕ) → Fault → Type 0
IsAnsweredFrom logs parts (faults.Source i) = (readings : List LogReading) × AreReadings (take i logs) readings
IsAnsweredFrom logs parts (faults.PartSource i) = (0 < length logs) × AreSoundLogs logs
IsAnsweredFrom logs parts fault = IsVerdictOrMemory logs parts fault
