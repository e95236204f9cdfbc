-- Formats of logs and parts by their numbers, as C names them.
use Rattle.std.specs.Prelude.{ℕ, List, ◌≡◌, ◌==◌, if◌then◌else◌, Option, Some, None, IsSomeAnd}
use Rattle.mt_words.specs.declared.limits.Format.{Format}
use Rattle.mt_words.specs.declared.limits.Format.TheVariants.{One, Two}
use Rattle.mt_words.specs.declared.record.Change.{Change}
use Rattle.mt_words.specs.Limits.{limits_of}
use Rattle.mt_words.specs.Changes.{Logged, IsLawful, IsEntry}
use Rattle.mt_record.specs.declared.feed.head.Segment.{Segment}
use Rattle.mt_record.specs.declared.feed.head.Head.{Head}
use Rattle.mt_record.specs.Opening.{IsSealed}
use Rattle.mt_block.specs.declared.header.Header.{Header}
use Rattle.mt_block.specs.declared.part_header.PartHeader.{PartHeader}

-- the format of this number
abbrev pub format_of : ℕ → Option Format
format_of number = if number == 1 then Some One else (if number == 2 then Some Two else None)

-- the format of the records of a log of this format: segments, which are logs of formats 3 and 4, have the records of format 2
abbrev pub records_of : ℕ → Option Format
records_of number = if number == 3 then Some Two else (if number == 4 then Some Two else format_of number)

-- the format of the entries of a part of this format: parts of format 4 have the entries of format 2
abbrev pub entries_of : ℕ → Option Format
entries_of number = if number == 4 then Some Two else format_of number

-- the number of the format of a log with this header
abbrev pub log_number : Head → ℕ
log_number head = by head.segment head.format
  where
    by : Option Segment → Format → ℕ
    by (Some segment) format = 3
    by None One = 1
    by None Two = 2

-- the number of the format of a file with these bytes, which is a log with this header
pub record IsFormatOf (bytes : List ℕ) (head : Head) (number : ℕ) : Type 0 where
  pub sealed : IsSealed bytes → number ≡ 4
  pub plain : (IsSealed bytes → ⊥) → number ≡ log_number head

-- the header of a log of format 4
abbrev pub log_header_4 : (salt worker segment workers from : ℕ) → Header
log_header_4 salt worker segment workers from = record { salt = salt; worker = worker; segment = segment; workers = workers; from = from }

-- the header of a part of format 4
abbrev pub part_header_4 : (salt number begin part parts : ℕ) → PartHeader
part_header_4 salt number begin part parts = record { salt = salt; number = number; part = part; parts = parts; begin = begin }

-- a log of this format may have the record
abbrev pub FitsLog : ℕ → Logged → Type 0
FitsLog number r = IsSomeAnd (records_of number) (λ format. IsLawful (limits_of format) r)

-- a part of this format may have the entry
abbrev pub FitsPart : ℕ → Change → Type 0
FitsPart number entry = IsSomeAnd (entries_of number) (λ format. IsEntry (limits_of format) entry)
