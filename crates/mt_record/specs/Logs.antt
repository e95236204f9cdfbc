-- Which bytes are a log, what the log contains, and its last timestamp.
use Rattle.std.specs.Prelude.{◌≡◌, ℕ, ◌+◌, ◌-◌, ◌≤◌, ◌<◌, ◌^◌, ◌↔◌, ◌⊎◌, min, Bool, IsTrue, List, [], ◌∷◌, ◌++◌, length, map, Contains, All}
use Rattle.std.specs.List.{flat_map}
use Rattle.byteorder.specs.Endian.{big_bytes}
use Rattle.mt_words.specs.declared.limits.Limits.{Limits}
use Rattle.mt_words.specs.Limits.{limits_of}
use Rattle.mt_words.specs.Changes.{Logged, IsLawful}
use Rattle.mt_record.specs.Spelling.{spelling, IsRecordLength}
use Rattle.mt_record.specs.declared.feed.head.Head.{Head}
use Rattle.mt_record.specs.Heads.{IsHead, head_bytes}
use Rattle.mt_record.specs.Opening.{Opens}

-- lawful records whose timestamps are at least `low` and never fall
abbrev pub AreRecords : Limits → ℕ → List Logged → Type 0
AreRecords limits low [] = Unit {0}
AreRecords limits low (r ∷ rs) = IsLawful limits r × (low ≤ r.timestamp) × AreRecords limits r.timestamp rs

-- the timestamp of the last record, or `low` if there is none
abbrev pub latest : ℕ → List Logged → ℕ
latest low [] = low
latest low (r ∷ rs) = latest r.timestamp rs

-- an allowed length, followed by fewer bytes than the body and the second length need
pub record IsUnfinishedFrame (IsLength : ℕ → Type 0) (rest : List ℕ) : Type 0 where
  pub number : ℕ
  pub more : List ℕ
  pub is_length : IsLength number
  pub spelled : rest ≡ big_bytes 4 number ++ more
  pub short : length more < number + 4

-- the beginning of a frame: one to three bytes, or an allowed length and too few bytes after it
abbrev pub IsUnfinished : (ℕ → Type 0) → List ℕ → Type 0
IsUnfinished IsLength rest = ((0 < length rest) × (length rest < 4)) ⊎ IsUnfinishedFrame IsLength rest

-- a torn tail: the beginning of a record; only its length is checked
abbrev pub IsTorn : Limits → List ℕ → Type 0
IsTorn limits rest = IsUnfinished (IsRecordLength limits) rest

-- the bytes of a header and these records
abbrev pub log_bytes : Head → List Logged → List ℕ
log_bytes head records = head_bytes head ++ flat_map spelling records

-- a text that is a log: its header, its records, and a tail that is empty or torn
pub record IsLog (bytes : List ℕ) (head : Head) (records : List Logged) (tail : List ℕ) : Type 0 where
  pub spelled : bytes ≡ head_bytes head ++ (flat_map spelling records ++ tail)
  pub is_head : IsHead head
  pub lawful : AreRecords (limits_of head.format) 0 records
  pub ends : (tail ≡ []) ⊎ IsTorn (limits_of head.format) tail

-- what a log contains, and whether its tail is torn
pub record LogReading : Type 0 where
  pub head : Head
  pub records : List Logged
  pub torn : Bool

-- The bytes are a file whose text is this log. The tail is torn, or the text is whole and a torn block follows it.
pub record IsReading (bytes : List ℕ) (log : LogReading) : Type 0 where
  pub text : List ℕ
  pub ended : Bool
  pub opens : Opens bytes text ended
  pub tail : List ℕ
  pub is_log : IsLog text log.head log.records tail
  pub torn : IsTrue log.torn ↔ (IsTrue ended ⊎ IsTorn (limits_of log.head.format) tail)

-- `from`, and the timestamps of the records, marks included
abbrev pub times_of : LogReading → List ℕ
times_of log = log.head.from ∷ map (λ r. r.timestamp) log.records

-- the greatest of these times
abbrev pub IsGreatestOf : List ℕ → ℕ → Type 0
IsGreatestOf times n = Contains times n × All (λ time. time ≤ n) times

-- the number of items, or 2^64 - 1 if there are more
abbrev pub count_of : {T : Type 0} → List T → ℕ
count_of items = min (length items) (2 ^ 64 - 1)
