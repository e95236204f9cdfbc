-- Resuming after a crash: what replaces a log.
use Rattle.std.specs.Prelude.{◌≡◌, ℕ, ◌-◌, ◌^◌, ◌==◌, ◌&&◌, ◌⊎◌, min, not, nat_lt, nat_le, if◌then◌else◌, Bool, false, List, [], ◌∷◌, ◌++◌, filter}
use Rattle.std.specs.List.{list_any}
use Rattle.mt_words.specs.Changes.{Logged, is_mark}
use Rattle.mt_words.specs.Built.{mark_of}
use Rattle.mt_block.specs.declared.header.Header.{Header}
use Rattle.mt_block.specs.Blocks.{IsFile}
use Rattle.mt_record.specs.Opening.{IsSealed, text_of}
use Rattle.mt_record.specs.Logs.{log_bytes, LogReading, IsReading}

-- the greatest timestamp that a record can have
abbrev pub greatest_timestamp : ℕ
greatest_timestamp = 2 ^ 64 - 1

-- whether the record is the mark that ends a log: one at the greatest timestamp
abbrev pub is_end : Logged → Bool
is_end r = is_mark r && (r.timestamp == greatest_timestamp)

-- whether a mark ends the log of these records
abbrev pub is_ended : List Logged → Bool
is_ended records = list_any is_end records

-- the records below a timestamp
abbrev pub below : ℕ → List Logged → List Logged
below cutoff records = filter (λ r. nat_lt r.timestamp cutoff) records

-- the updates at or past a timestamp
abbrev pub updates_past : ℕ → List Logged → List Logged
updates_past cutoff records = filter (λ r. nat_le cutoff r.timestamp && not (is_mark r)) records

-- the marks at or past a timestamp, without the mark that ends a log
abbrev pub marks_past : ℕ → List Logged → List Logged
marks_past cutoff records = filter (λ r. nat_le cutoff r.timestamp && (is_mark r && not (is_end r))) records

-- the marks of a resumed log: one at the cutoff and, if the log was ended, the mark that ends it again, unless the first is that mark
abbrev pub marks_of : ℕ → List Logged → List Logged
marks_of cutoff records = mark_of cutoff ∷ (if is_ended records && nat_lt cutoff greatest_timestamp then mark_of greatest_timestamp ∷ [] else [])

-- what replaces a log: its header with a `from` of at most the cutoff, its records below the cutoff, and its marks; no torn tail
abbrev pub resumed : ℕ → LogReading → LogReading
resumed cutoff log = record {
  head = record log.head { from = min log.head.from cutoff };
  records = below cutoff log.records ++ marks_of cutoff log.records;
  torn = false;
}

-- the text after is the encoding of what replaces the log
pub record IsResumed (cutoff : ℕ) (before after : List ℕ) : Type 0 where
  pub log : LogReading
  pub is_reading : IsReading before log
  pub spelled : after ≡ log_bytes (resumed cutoff log).head (resumed cutoff log).records

-- the header of a file of format 4 that replaces one with this header; it says this number of workers
abbrev pub resumed_header : (cutoff salt workers : ℕ) → Header → Header
resumed_header cutoff salt workers header = record header { salt = salt; workers = workers; from = min header.from cutoff }

-- The bytes before are a file of format 4. The bytes after are one too, with this salt, this number of workers, and no torn end, whose text is the encoding of what replaces the log.
pub record IsSealedAgain (cutoff salt workers : ℕ) (before after : List ℕ) : Type 0 where
  pub header : Header
  pub bodies : List (List ℕ)
  pub end : List ℕ
  pub is_file : IsFile before header bodies end
  pub new : List (List ℕ)
  pub replaces : IsFile after (resumed_header cutoff salt workers header) new []
  pub is_resumed : IsResumed cutoff (text_of header bodies) (text_of (resumed_header cutoff salt workers header) new)

-- The bytes after are a file that replaces the log, of the format of the bytes before. If they are of format 4, it has this salt, and says this number of workers.
abbrev pub Replaces : (cutoff salt workers : ℕ) (before after : List ℕ) → Type 0
Replaces cutoff salt workers before after = ((IsSealed before → ⊥) × IsResumed cutoff before after) ⊎ IsSealedAgain cutoff salt workers before after
