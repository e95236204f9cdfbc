-- Faults as calls return them: with out of memory, and as faults of recovery.
use Rattle.std.specs.Prelude.{ℕ, List}
use Rattle.mt_words.specs.declared.fault.Fault.{Fault}
use Rattle.mt_words.specs.declared.fault.Fault.TheVariants as of_all
use Rattle.mt_record.specs.declared.read.FeedFault.{FeedFault}
use Rattle.mt_record.specs.declared.read.FeedFault.TheVariants as faults
use Rattle.mt_record.specs.LogFaults.{IsTextFault, IsLogFault, OrMemory}
use Rattle.mt_record.specs.declared.part_text.PartFault.{PartFault}
use Rattle.mt_record.specs.declared.part_text.PartFault.TheVariants as of_part
use Rattle.mt_record.specs.PartFaults.{IsPartFault}

-- the fault of this log as a fault of recovery
abbrev pub fault_at : ℕ → FeedFault → Fault
fault_at log faults.Header = of_all.Header log
fault_at log (faults.Record nth what) = of_all.Record log nth what
fault_at log faults.Memory = of_all.Memory

-- a returned fault is the fault of the bytes, unless it is `Memory`
abbrev pub IsAnswered : List ℕ → FeedFault → Type 0
IsAnswered bytes = OrMemory faults.Memory (IsLogFault bytes)

-- a returned fault is the fault of the text, unless it is `Memory`
abbrev pub IsTextAnswered : List ℕ → FeedFault → Type 0
IsTextAnswered text = OrMemory faults.Memory (IsTextFault text)

-- a returned fault is the fault of the bytes, unless it is `Memory`
abbrev pub IsPartAnswered : List ℕ → PartFault → Type 0
IsPartAnswered bytes = OrMemory of_part.Memory (IsPartFault bytes)
