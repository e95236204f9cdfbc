-- The writer of a part that a place holds, and why it refuses.
use Rattle.std.specs.Prelude.{◌≡◌, ℕ, Option, Some}
use Rattle.mt_writer.specs.PartFiles.{Part}
use Rattle.mt_writer.specs.declared.part_fault.PartWriterFault.{PartWriterFault}
use Rattle.mt_writer.specs.declared.part_fault.PartWriterFault.TheVariants as faults
use Rattle.mt_c.specs.declared.held.Held.{Held}
use Rattle.mt_c.specs.declared.held.Held.TheVariants as held
use Rattle.mt_c.specs.declared.status.TheConstants.{MEMORY, WRONG, FULL}

-- the place holds a writer of a part for which P is true
abbrev pub HoldsPartWriter : (Part → Type 0) → Option Held → Type 0
HoldsPartWriter P (Some (held.PartWriter writer)) = P writer
HoldsPartWriter P place = ⊥

abbrev pub IsPartWriter : Held → Type 0
IsPartWriter (held.PartWriter writer) = Unit {0}
IsPartWriter other = ⊥

-- the status that tells why the writer refuses
abbrev pub part_status : PartWriterFault → ℕ
part_status faults.Ended = WRONG
part_status faults.Lawless = WRONG
part_status faults.Full = FULL
part_status faults.Order = WRONG
part_status faults.End = WRONG
part_status faults.Memory = MEMORY

-- Why a call is not done: the place holds no writer of a part, or the writer refuses.
abbrev pub IsPartRefusal : (Part → PartWriterFault → Type 0) → Option Held → ℕ → Type 0
IsPartRefusal Refuses (Some (held.PartWriter writer)) status = (fault : PartWriterFault) × Refuses writer fault × (status ≡ part_status fault)
IsPartRefusal Refuses place status = status ≡ WRONG
