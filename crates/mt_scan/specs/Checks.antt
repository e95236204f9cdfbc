-- What a check finds in a log: its numbers, without its records.
use Rattle.std.specs.Prelude.{◌≡◌, ℕ, ◌&&◌, Bool, not, nat_le, List, length, filter}
use Rattle.mt_words.specs.declared.fault.Fault.{Fault}
use Rattle.mt_words.specs.declared.fault.Fault.TheVariants as faults
use Rattle.mt_words.specs.Changes.{Logged, is_mark}
use Rattle.mt_record.specs.LogFronts.{IsFrontOf}
use Rattle.mt_scan.specs.declared.checking.LogCheck.{LogCheck}

-- the record is an update at or past the limit
abbrev pub is_late_record : ℕ → Logged → Bool
is_late_record limit r = not (is_mark r) && nat_le limit r.timestamp

-- the check has the front of the log that these bytes begin with, and the numbers of its records, of the marks and of the late updates among them
pub record IsCheckOf (limit : ℕ) (bytes : List ℕ) (check : LogCheck) : Type 0 where
  pub records : List Logged
  pub front : IsFrontOf bytes records check.front
  pub count : check.front.count ≡ length records
  pub marks : check.marks ≡ length (filter is_mark records)
  pub late : check.late ≡ length (filter (is_late_record limit) records)

-- the fault is one of a record, in the log with this number
abbrev pub IsOfARecord : ℕ → Fault → Type 0
IsOfARecord number (faults.Record log nth what) = log ≡ number
IsOfARecord number fault = ⊥
