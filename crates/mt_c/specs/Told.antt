-- Faults as C sees them.
use Rattle.std.specs.Prelude.{◌≡◌, ◌≢◌, ℕ, List}
use Rattle.mt_words.specs.declared.fault.Fault.{Fault}
use Rattle.mt_words.specs.declared.fault.Fault.TheVariants as faults
use Rattle.mt_words.specs.declared.fault.What.{What}
use Rattle.mt_words.specs.declared.fault.What.TheVariants as of_record
use Rattle.mt_words.specs.Faults.{number_of}
use Rattle.mt_recover.specs.Fed.{Input, seen_fed}
use Rattle.mt_recover.specs.Inputs.{IsAnsweredBy}
use Rattle.mt_c.specs.declared.fault.CFault.{CFault}

-- the number of what is wrong with a record
abbrev pub what_number : What → ℕ
what_number of_record.Length = 1
what_number of_record.Trailer = 2
what_number of_record.Kind = 3
what_number of_record.Frame = 4
what_number of_record.Version = 5
what_number of_record.Key = 6
what_number of_record.Columns = 7
what_number of_record.Clock = 8
what_number of_record.Checksum = 9

-- the number of the log, part or piece that the fault names, or 0
abbrev pub index_of : Fault → ℕ
index_of faults.NoLogs = 0
index_of (faults.Header log) = log
index_of (faults.Record log nth what) = log
index_of (faults.Source log) = log
index_of (faults.PartSource part) = part
index_of (faults.Gap log) = log
index_of (faults.Missing piece) = piece
index_of faults.Memory = 0
index_of (faults.Doubled log) = log
index_of (faults.Torn log) = log

-- the fault as C sees it
abbrev pub c_fault : Fault → CFault
c_fault (faults.Record log nth what) = record { kind = 3; what = what_number what; index = log; nth = nth }
c_fault fault = record { kind = number_of fault; what = 0; index = index_of fault; nth = 0 }

-- recovery on one thread tells the fault to C
abbrev pub CanBeTold : Fault → Type 0
CanBeTold (faults.Missing piece) = ⊥
CanBeTold faults.Memory = ⊥
CanBeTold fault = Unit {0}

-- C is told the fault of these logs and parts
pub record IsTold (logs parts : List Input) (told : CFault) : Type 0 where
  pub fault : Fault
  pub answered : IsAnsweredBy seen_fed logs parts fault
  pub named : fault ≢ faults.Memory
  pub is_told : told ≡ c_fault fault
