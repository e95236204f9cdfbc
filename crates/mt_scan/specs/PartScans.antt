-- The result of scanning a checkpoint part: a function of the part's bytes.
use Rattle.std.specs.Prelude.{ℕ, List}
use Rattle.mt_record.specs.declared.part_text.PartFault.TheVariants as of_part
use Rattle.mt_record.specs.Parts.{PartReading, IsPartReading}
use Rattle.mt_record.specs.PartFaults.{IsPartFault}

-- what is known of a part: what it says if it is complete, the number of its checkpoint and that of its entries before the fault if it is broken, nothing if it has no header
pub data KnownPart : Type 0 where
  whole : PartReading → KnownPart
  broken : ℕ → ℕ → KnownPart
  nameless : KnownPart

-- the bytes are those of a complete part that says this, of a broken part of this checkpoint with this many entries before the fault, or have no header
abbrev pub IsKnown : List ℕ → KnownPart → Type 0
IsKnown bytes (whole part) = IsPartReading bytes part
IsKnown bytes (broken number entries) = IsPartFault bytes (of_part.Broken number entries)
IsKnown bytes nameless = IsPartFault bytes of_part.Header
