-- The result of scanning a log: a function of the log's bytes.
use Rattle.std.specs.Prelude.{◌≡◌, ℕ, max, List, Option, Result, Ok, Err, length}
use Rattle.std.specs.List.{AllZip, filter}
use Rattle.mt_words.specs.declared.fault.Fault.{Fault}
use Rattle.mt_words.specs.declared.fault.Fault.TheVariants as faults
use Rattle.mt_words.specs.Changes.{is_mark}
use Rattle.mt_words.specs.Updates.{updates_from}
use Rattle.mt_words.specs.OneLog.{kept_updates}
use Rattle.mt_record.specs.declared.read.FeedFault.{FeedFault}
use Rattle.mt_record.specs.declared.read.FeedFault.TheVariants as of_log
use Rattle.mt_record.specs.declared.front.LogFront.{LogFront}
use Rattle.mt_record.specs.Logs.{LogReading, IsReading}
use Rattle.mt_record.specs.LogTexts.{IsLast, front_in}
use Rattle.mt_record.specs.LogFaults.{IsLogFault}
use Rattle.mt_record.specs.Answered.{IsAnswered, fault_at}
use Rattle.mt_scan.specs.declared.log_scan.LogScan.{LogScan}
use Rattle.mt_scan.specs.Sources.{Agrees}

-- the last timestamp of a log with this front
abbrev pub last_in : LogFront → ℕ
last_in front = max front.head.from front.latest

-- the front is that of the log, and its numbers are those of the log: the last timestamp, and how many records it has
pub record ShowsFront (front : LogFront) (log : LogReading) : Type 0 where
  pub is : front ≡ front_in log
  pub last : IsLast log (last_in front)
  pub count : front.count ≡ length log.records

-- each front is that of its log, in the same order
abbrev pub ShowFronts : List LogFront → List LogReading → Type 0
ShowFronts fronts logs = AllZip ShowsFront fronts logs

-- the front of the log that is encoded by these bytes
pub record IsSoundFront (bytes : List ℕ) (front : LogFront) : Type 0 where
  pub log : LogReading
  pub is_reading : IsReading bytes log
  pub shows : ShowsFront front log

-- the scan has the front of the log, and its number of marks
pub record HasNumbersOf (scan : LogScan) (log : LogReading) : Type 0 where
  pub front : ShowsFront scan.front log
  pub marks : scan.marks ≡ length (filter is_mark log.records)

-- each scan has the numbers of its log, in the same order
abbrev pub HaveNumbersOf : List LogScan → List LogReading → Type 0
HaveNumbersOf scans logs = AllZip HasNumbersOf scans logs

-- the scan shows the log with this number: the log's numbers and all its updates, none of them dropped
pub record ShowsLog (number : ℕ) (scan : LogScan) (log : LogReading) : Type 0 where
  pub numbers : HasNumbersOf scan log
  pub updates : kept_updates scan.updates ≡ updates_from number 0 log.records
  pub dropped : scan.dropped ≡ 0

-- the scan of the log with this number, encoded by these bytes
pub record IsScanOf (number : ℕ) (bytes : List ℕ) (scan : LogScan) : Type 0 where
  pub log : LogReading
  pub is_reading : IsReading bytes log
  pub shows : ShowsLog number scan log

-- the fault of scanning the log with this number: its bytes have the fault, or its source failed, or out of memory
abbrev pub IsScanFault : ℕ → List ℕ → Fault → Type 0
IsScanFault number bytes (faults.Header log) = (log ≡ number) × IsLogFault bytes of_log.Header
IsScanFault number bytes (faults.Record log nth what) = (log ≡ number) × IsLogFault bytes (of_log.Record nth what)
IsScanFault number bytes (faults.Source log) = log ≡ number
IsScanFault number bytes faults.Memory = Unit {0}
IsScanFault number bytes fault = ⊥

-- the fault of the bytes, as that of the log with this number, or out of memory
pub record IsLogVerdict (number : ℕ) (bytes : List ℕ) (fault : Fault) : Type 0 where
  pub of_bytes : FeedFault
  pub answered : IsAnswered bytes of_bytes
  pub is : fault ≡ fault_at number of_bytes

-- P holds for the known bytes of the source or, if they are not known, for some bytes.
abbrev pub OfTold : Option (List ℕ) → (List ℕ → Type 0) → Type 0
OfTold told P = (bytes : List ℕ) × Agrees told bytes × P bytes

-- how often the source failed in a scan with this result: once if the result is the source's fault, else never
abbrev pub failures_of : {X : Type 0} → Result X Fault → ℕ
failures_of (Ok x) = 0
failures_of (Err (faults.Source log)) = 1
failures_of (Err (faults.PartSource part)) = 1
failures_of (Err fault) = 0
