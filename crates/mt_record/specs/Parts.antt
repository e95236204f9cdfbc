-- Parts of checkpoints: how they are encoded, and which bytes are a part.
use Rattle.std.specs.Prelude.{◌≡◌, ℕ, ◌<◌, ◌^◌, ◌⊎◌, List, [], ◌++◌, length, codes}
use Rattle.std.specs.List.{flat_map, AllByRecursion}
use Rattle.byteorder.specs.Endian.{big_bytes}
use Rattle.mt_words.specs.declared.record.Change.{Change}
use Rattle.mt_words.specs.Limits.{limits_of, magic}
use Rattle.mt_words.specs.declared.limits.Format.{Format}
use Rattle.mt_words.specs.declared.limits.Format.TheVariants.{Two}
use Rattle.mt_words.specs.Changes.{IsEntry}
use Rattle.mt_block.specs.declared.part_header.PartHeader.{PartHeader}
use Rattle.mt_block.specs.Parts.{IsPartHeader, part_header_bytes, BeginsPart}
use Rattle.mt_record.specs.declared.part_text.PartHead.{PartHead}
use Rattle.mt_record.specs.Opening.{joined}
use Rattle.mt_record.specs.Spelling.{change_bytes, framed}

-- the header of a part: its format, the number and the begin of its checkpoint, the part's own number, and the number of parts
abbrev pub part_head : Format → ℕ → ℕ → ℕ → ℕ → PartHead
part_head format number begin part parts = record { format = format; number = number; begin = begin; part = part; parts = parts }

abbrev pub part_head_bytes : PartHead → List ℕ
part_head_bytes head = magic (codes "MTC") head.format ++ (big_bytes 4 head.number ++ (big_bytes 8 head.begin ++ (big_bytes 2 head.part ++ big_bytes 2 head.parts)))

pub record IsPartHead (head : PartHead) : Type 0 where
  pub number : head.number < 2 ^ 32
  pub begin : head.begin < 2 ^ 64
  pub part : head.part < 2 ^ 16
  pub parts : head.parts < 2 ^ 16

-- the encoding of an entry: the fields of its change in a frame
abbrev pub entry_spelling : Change → List ℕ
entry_spelling change = framed (change_bytes change)

-- the footer of a part: a length of zero, where its checkpoint ends, and the number of entries
abbrev pub footer_bytes : ℕ → ℕ → List ℕ
footer_bytes end count = big_bytes 4 0 ++ (big_bytes 8 end ++ big_bytes 4 count)

-- the bytes of a header, entries, and a footer with the number of entries
abbrev pub part_bytes : PartHead → List Change → ℕ → List ℕ
part_bytes head entries end = part_head_bytes head ++ (flat_map entry_spelling entries ++ footer_bytes end (length entries))

-- a text that is a part: exactly such bytes, with a lawful header, lawful entries, and numbers that fit the footer
pub record IsPart (bytes : List ℕ) (head : PartHead) (entries : List Change) (end : ℕ) : Type 0 where
  pub spelled : bytes ≡ part_bytes head entries end
  pub is_head : IsPartHead head
  pub lawful : AllByRecursion (IsEntry (limits_of head.format)) entries
  pub fits : end < 2 ^ 64
  pub count : length entries < 2 ^ 32

-- what a part contains, whatever its format
pub record PartReading : Type 0 where
  pub number : ℕ
  pub begin : ℕ
  pub part : ℕ
  pub parts : ℕ
  pub entries : List Change
  pub end : ℕ

-- a text that is a part of some format with these contents
abbrev pub IsPartTextReading : List ℕ → PartReading → Type 0
IsPartTextReading text part = (format : Format) × IsPart text (part_head format part.number part.begin part.part part.parts) part.entries part.end

-- ---- files

-- the bytes begin with the magic of a part of format 4
pub record IsSealedPart (bytes : List ℕ) : Type 0 where
  pub more : List ℕ
  pub spelled : bytes ≡ codes "MTC4" ++ more

-- the bytes do not begin with a header of a part of format 4
abbrev pub HasNoPartSeal : List ℕ → Type 0
HasNoPartSeal bytes = (header : PartHeader) (more : List ℕ) → IsPartHeader header → bytes ≡ part_header_bytes header ++ more → ⊥

-- the header of the text of a file with this header
abbrev pub part_text_head : PartHeader → PartHead
part_text_head header = part_head Two header.number header.begin header.part header.parts

-- the text of a file with this header and these bodies
abbrev pub part_text_of : PartHeader → List (List ℕ) → List ℕ
part_text_of header bodies = part_head_bytes (part_text_head header) ++ joined bodies

-- the bytes are a header of format 4 and whole blocks, with this text; nothing follows
pub record IsUnsealedPart (bytes text : List ℕ) : Type 0 where
  pub header : PartHeader
  pub bodies : List (List ℕ)
  pub begins : BeginsPart bytes header bodies []
  pub is_text : text ≡ part_text_of header bodies

-- the bytes are a file of formats 1 and 2, and so their own text
abbrev pub IsOwnPartText : List ℕ → List ℕ → Type 0
IsOwnPartText bytes text = (IsSealedPart bytes → ⊥) × (text ≡ bytes)

-- the bytes are a file with this text
abbrev pub OpensPart : List ℕ → List ℕ → Type 0
OpensPart bytes text = IsOwnPartText bytes text ⊎ IsUnsealedPart bytes text

-- the bytes are a file whose text is this part
pub record IsPartReading (bytes : List ℕ) (part : PartReading) : Type 0 where
  pub text : List ℕ
  pub opens : OpensPart bytes text
  pub is_part : IsPartTextReading text part
