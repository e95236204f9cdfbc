-- Logs in memory: their numbers, and the texts that agree with them.
use Rattle.std.specs.Prelude.{◌≡◌, ℕ, max, Bool, true, false, List, [], ◌∷◌, ◌++◌, map, Option, Some, None, Vec}
use Rattle.std.specs.Global.{Global}
use Rattle.mt_words.specs.declared.record.Change.{Change}
use Rattle.mt_words.specs.Changes.{Logged}
use Rattle.mt_record.specs.declared.feed.head.Head.{Head}
use Rattle.mt_record.specs.declared.front.Rest.{Rest}
use Rattle.mt_record.specs.declared.front.Rest.TheVariants.{Nothing, Torn}
use Rattle.mt_record.specs.declared.front.LogFront.{LogFront}
use Rattle.mt_record.specs.declared.read.LogText.{LogText}
use Rattle.mt_record.specs.Logs.{latest, log_bytes, LogReading, IsReading, times_of, IsGreatestOf, count_of}

-- the last timestamp of a log by itself: the greatest of its times
abbrev pub IsLast : LogReading → ℕ → Type 0
IsLast log n = IsGreatestOf (times_of log) n

-- the version of a record's change; a mark has no change, and counts as 0
abbrev pub version_of : Option Change → ℕ
version_of None = 0
version_of (Some change) = change.version

-- the versions of records
abbrev pub versions_of : List Logged → List ℕ
versions_of records = map (λ r. version_of r.change) records

-- the greatest of numbers, or 0 if there are none
abbrev pub greatest : List ℕ → ℕ
greatest [] = 0
greatest (n ∷ ns) = max n (greatest ns)

-- the front of a log with this header and these records, before this rest
abbrev pub front_of : Head → List Logged → Rest → LogFront
front_of head records rest =
    record { head = head; count = count_of records; latest = latest 0 records; version = greatest (versions_of records); bytes = count_of (log_bytes head records); rest = rest }

-- what follows the records of a log
abbrev pub tail_rest : Bool → Rest
tail_rest false = Nothing
tail_rest true = Torn

-- the front of this log
abbrev pub front_in : LogReading → LogFront
front_in log = front_of log.head log.records (tail_rest log.torn)

-- the `LogText` agrees with the log; its own records, as `listed` gives them, come after those taken before
pub record ShowsIn {R : Type 0} (listed : R → List Logged) (taken : List Logged) (text : LogText R) (log : LogReading) : Type 0 where
  pub front : text.front ≡ front_in log
  pub records : taken ++ listed text.records ≡ log.records

-- the bytes are a log, and the `LogText` agrees with it, after the records taken before
pub record IsTextIn {R : Type 0} (listed : R → List Logged) (taken : List Logged) (bytes : List ℕ) (text : LogText R) : Type 0 where
  pub log : LogReading
  pub is_reading : IsReading bytes log
  pub shows : ShowsIn listed taken text log

-- the same for a `LogText` with a vector of records
abbrev pub IsTextAfter : List Logged → List ℕ → LogText (Vec Logged Global) → Type 0
IsTextAfter taken bytes text = IsTextIn (λ records. records.items) taken bytes text

-- the same if no records were taken before
abbrev pub IsTextOf : List ℕ → LogText (Vec Logged Global) → Type 0
IsTextOf bytes text = IsTextAfter [] bytes text

-- the bytes are a log, and the `LogText`, whose records are kept as bodies, agrees with it
abbrev pub IsKeptTextOf : List ℕ → LogText (List Logged) → Type 0
IsKeptTextOf bytes text = IsTextIn (λ records. records) [] bytes text
