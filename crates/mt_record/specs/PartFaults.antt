-- The one fault of a file that is not a part of a checkpoint.
use Rattle.std.specs.Prelude.{◌≡◌, ℕ, ◌⊎◌, List, ◌++◌, length, All}
use Rattle.std.specs.List.{flat_map, AllByRecursion}
use Rattle.mt_block.specs.declared.part_header.PartHeader.{PartHeader}
use Rattle.mt_block.specs.Blocks.{IsBody, blocks}
use Rattle.mt_block.specs.Parts.{part_mark, BeginsPart as BeginsPartFile}
use Rattle.mt_words.specs.declared.record.Change.{Change}
use Rattle.mt_words.specs.declared.limits.Limits.{Limits}
use Rattle.mt_words.specs.Limits.{limits_of}
use Rattle.mt_words.specs.Changes.{IsEntry}
use Rattle.mt_record.specs.declared.part_text.PartHead.{PartHead}
use Rattle.mt_record.specs.declared.part_text.PartFault.{PartFault}
use Rattle.mt_record.specs.declared.part_text.PartFault.TheVariants as faults
use Rattle.mt_record.specs.Heads.{NoneBegins}
use Rattle.mt_record.specs.Opening.{joined}
use Rattle.mt_record.specs.Parts.{part_head_bytes, IsPartHead, entry_spelling, PartReading, IsPartTextReading, HasNoPartSeal, part_text_of, IsSealedPart, IsPartReading}

-- the bytes do not begin with the header of a part
abbrev pub HasNoPartHeader : List ℕ → Type 0
HasNoPartHeader bytes = NoneBegins IsPartHead part_head_bytes bytes

-- the bytes do not begin with a lawful entry
abbrev pub HasNoEntry : Limits → List ℕ → Type 0
HasNoEntry limits bytes = NoneBegins (IsEntry limits) entry_spelling bytes

-- the bytes are this header, these lawful entries, and then the rest
pub record BeginsPart (bytes : List ℕ) (head : PartHead) (entries : List Change) (rest : List ℕ) : Type 0 where
  pub spelled : bytes ≡ part_head_bytes head ++ (flat_map entry_spelling entries ++ rest)
  pub is_head : IsPartHead head
  pub lawful : AllByRecursion (IsEntry (limits_of head.format)) entries

-- the bytes begin with the header of a part of checkpoint `number`, and then `count` lawful entries
pub record BeginsPartOf (bytes : List ℕ) (number count : ℕ) : Type 0 where
  pub head : PartHead
  pub entries : List Change
  pub rest : List ℕ
  pub begins : BeginsPart bytes head entries rest
  pub named : number ≡ head.number
  pub counted : count ≡ length entries

-- a text begins like that, with no further entry, and is not a part
pub record IsBroken (text : List ℕ) (number count : ℕ) : Type 0 where
  pub front : BeginsPartOf text number count
  pub no_entry : HasNoEntry (limits_of front.head.format) front.rest
  pub no_part : (part : PartReading) → IsPartTextReading text part → ⊥

-- the fault of a text that is not a part, which is never `Memory`
abbrev pub IsPartTextFault : List ℕ → PartFault → Type 0
IsPartTextFault text faults.Header = HasNoPartHeader text
IsPartTextFault text (faults.Broken number entries) = IsBroken text number entries
IsPartTextFault text faults.Memory = ⊥

-- the bytes are a header of format 4 and blocks, whose text begins with such entries; no further one stands in it, in however many more blocks; and the bytes are not a part
pub record IsBrokenFile (bytes : List ℕ) (number count : ℕ) : Type 0 where
  pub header : PartHeader
  pub bodies : List (List ℕ)
  pub rest : List ℕ
  pub begins : BeginsPartFile bytes header bodies rest
  pub front : BeginsPartOf (part_text_of header bodies) number count
  pub no_entry : (more : List (List ℕ)) (behind : List ℕ) → All IsBody more → rest ≡ blocks (part_mark header) more ++ behind → HasNoEntry (limits_of front.head.format) (front.rest ++ joined more)
  pub no_part : (part : PartReading) → IsPartReading bytes part → ⊥

-- the fault of a file that is not a part, which is never `Memory`
abbrev pub IsPartFault : List ℕ → PartFault → Type 0
IsPartFault bytes faults.Header = HasNoPartHeader bytes × HasNoPartSeal bytes
IsPartFault bytes (faults.Broken number entries) = ((IsSealedPart bytes → ⊥) × IsBroken bytes number entries) ⊎ IsBrokenFile bytes number entries
IsPartFault bytes faults.Memory = ⊥
