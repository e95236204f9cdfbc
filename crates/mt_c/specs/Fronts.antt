-- Headers of files, in the numbers that C gets.
use Rattle.std.specs.Prelude.{◌≡◌, ◌⊎◌, ℕ, Option, Some, None, List, ◌++◌, length}
use Rattle.mt_words.specs.declared.limits.Format.{Format}
use Rattle.mt_words.specs.declared.limits.Format.TheVariants.{One, Two}
use Rattle.mt_block.specs.declared.header.Header.{Header}
use Rattle.mt_block.specs.Blocks.{IsHeader, header_bytes}
use Rattle.mt_block.specs.declared.part_header.PartHeader.{PartHeader}
use Rattle.mt_block.specs.Parts.{IsPartHeader, part_header_bytes}
use Rattle.mt_record.specs.declared.feed.head.Segment.{Segment}
use Rattle.mt_record.specs.declared.feed.head.Head.{Head}
use Rattle.mt_record.specs.Heads.{IsHead, head_bytes}
use Rattle.mt_record.specs.declared.part_text.PartHead.{PartHead}
use Rattle.mt_record.specs.Parts.{IsPartHead, part_head_bytes}
use Rattle.mt_c.specs.Formats.{log_number}
use Rattle.mt_c.specs.declared.fronts.LogFront.{LogFront}
use Rattle.mt_c.specs.declared.fronts.PartFront.{PartFront}

-- the bytes begin with the encoding of a header that satisfies `Is`, and `told` is what C is told of it
pub record Tells {H C : Type 0} (Is : H → Type 0) (spelled : H → List ℕ) (c_front : H → C) (bytes : List ℕ) (told : C) : Type 0 where
  pub head : H
  pub after : List ℕ
  pub lawful : Is head
  pub is_front : bytes ≡ spelled head ++ after
  pub is_told : told ≡ c_front head

-- the header of a log of formats 1 to 3
abbrev pub c_head : Head → LogFront
c_head head = by head.segment
  where
    by : Option Segment → LogFront
    by None = record { format = log_number head; worker = 0; segment = 0; workers = 0; from = head.from; salt = 0; length = length (head_bytes head) }
    by (Some segment) = record { format = log_number head; worker = segment.worker; segment = segment.number; workers = 0; from = head.from; salt = 0; length = length (head_bytes head) }

-- the header of a log of format 4
abbrev pub c_header : Header → LogFront
c_header header =
    record { format = 4; worker = header.worker; segment = header.segment; workers = header.workers; from = header.from; salt = header.salt; length = length (header_bytes header) }

-- the bytes begin with the header of a log, which C is told
abbrev pub BeginsLog : List ℕ → LogFront → Type 0
BeginsLog bytes told = Tells IsHead head_bytes c_head bytes told ⊎ Tells IsHeader header_bytes c_header bytes told

-- the number of the format of a part with this header
abbrev pub part_number : Format → ℕ
part_number One = 1
part_number Two = 2

-- the header of a part of formats 1 and 2
abbrev pub c_part_head : PartHead → PartFront
c_part_head head =
    record { format = part_number head.format; number = head.number; part = head.part; parts = head.parts; begin = head.begin; salt = 0; length = length (part_head_bytes head) }

-- the header of a part of format 4
abbrev pub c_part_header : PartHeader → PartFront
c_part_header header =
    record { format = 4; number = header.number; part = header.part; parts = header.parts; begin = header.begin; salt = header.salt; length = length (part_header_bytes header) }

-- the bytes begin with the header of a part, which C is told
abbrev pub BeginsPart : List ℕ → PartFront → Type 0
BeginsPart bytes told = Tells IsPartHead part_head_bytes c_part_head bytes told ⊎ Tells IsPartHeader part_header_bytes c_part_header bytes told
