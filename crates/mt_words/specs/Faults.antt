-- The numbers of the faults.
use Rattle.std.specs.Prelude.{ℕ}
use Rattle.mt_words.specs.declared.fault.Fault.{Fault}
use Rattle.mt_words.specs.declared.fault.Fault.TheVariants as faults

abbrev pub number_of : Fault → ℕ
number_of faults.NoLogs = 1
number_of (faults.Header log) = 2
number_of (faults.Record log nth what) = 3
number_of (faults.Source log) = 4
number_of (faults.PartSource part) = 5
number_of (faults.Gap log) = 6
number_of (faults.Missing piece) = 7
number_of faults.Memory = 8
number_of (faults.Doubled log) = 9
number_of (faults.Torn log) = 10
