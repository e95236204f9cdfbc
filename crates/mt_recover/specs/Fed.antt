-- Logs and checkpoint parts that the caller reads and feeds itself.
use Rattle.std.specs.Prelude.{◌≡◌, ℕ, true, false, Option, Some, None, List, [], length, Result, Err, IfOk, IfErr}
use Rattle.mt_words.specs.declared.fault.Fault.{Fault}
use Rattle.mt_words.specs.declared.fault.Fault.TheVariants as faults
use Rattle.mt_scan.specs.declared.log_scan.LogScan.{LogScan}
use Rattle.mt_scan.specs.declared.part_scan.PartScan.{PartScan}
use Rattle.mt_scan.specs.Sources.{Seen}
use Rattle.mt_scan.specs.Scans.{IsScanOf, IsLogVerdict}
use Rattle.mt_scan.specs.PartScans.{IsKnown}
use Rattle.mt_scan.specs.PartsShown.{known_by}
use Rattle.mt_recover.specs.Check.{AllFrom}

-- a log or part that was fed: all its bytes, or `None` if its device failed
abbrev pub Input : Type 0
Input = Option (List ℕ)

-- bytes in memory as a contract sees them: a steady source that reports these bytes
abbrev pub in_memory : List ℕ → Seen
in_memory bytes = record { told = Some bytes; bound = length bytes; failures = 0; steady = true; shown = []; spent = false }

-- an input as a source: a steady one that reports the bytes, or one that has failed and reports none
abbrev pub seen_fed : Input → Seen
seen_fed (Some bytes) = in_memory bytes
seen_fed None = record { told = None; bound = 0; failures = 1; steady = false; shown = []; spent = true }

-- the answer for log number `log`: the scan of its bytes, or their fault or out of memory; `Source` if its device failed
abbrev pub IsLogAnswer : ℕ → Input → Result LogScan Fault → Type 0
IsLogAnswer log (Some bytes) answer = IfOk answer (IsScanOf log bytes) × IfErr answer (IsLogVerdict log bytes)
IsLogAnswer log None answer = answer ≡ Err (faults.Source log)

-- the answer for part number `part`: what is known of its bytes, or out of memory; `PartSource` if its device failed
abbrev pub IsPartAnswer : ℕ → Input → Result PartScan Fault → Type 0
IsPartAnswer part (Some bytes) answer = IfOk answer (λ scan. IsKnown bytes (known_by scan)) × IfErr answer (λ fault. fault ≡ faults.Memory)
IsPartAnswer part None answer = answer ≡ Err (faults.PartSource part)

-- what contracts see of inputs that were fed: the answers for the logs and for the parts
pub record Answers : Type 0 where
  pub logs : List (Result LogScan Fault)
  pub parts : List (Result PartScan Fault)

-- these logs and parts were fed, in this order
pub record AreFed (logs parts : List Input) (answers : Answers) : Type 0 where
  pub logs_are : AllFrom IsLogAnswer 0 logs answers.logs
  pub parts_are : AllFrom IsPartAnswer 0 parts answers.parts
