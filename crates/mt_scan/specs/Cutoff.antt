-- The cutoff of logs, some of which come in several files.
use Rattle.std.specs.Prelude.{ℕ, ◌≤◌, ◌==◌, Bool, false, Option, Some, None, List, [], ◌∷◌, filter, Contains}
use Rattle.std.specs.List.{flat_map}
use Rattle.mt_record.specs.declared.feed.head.Segment.{Segment}
use Rattle.mt_record.specs.Logs.{LogReading, times_of, IsGreatestOf}

-- whether this is a segment of this worker's log
abbrev pub is_segment_of : ℕ → Option Segment → Bool
is_segment_of worker None = false
is_segment_of worker (Some segment) = segment.worker == worker

-- the files of the log that this file belongs to: all segments of its worker, or, if it is no segment, the file alone
abbrev pub files_of : Option Segment → LogReading → List LogReading → List LogReading
files_of None file files = file ∷ []
files_of (Some segment) file files = filter (λ other. is_segment_of segment.worker other.head.segment) files

-- the last timestamp of the log that this file belongs to: the greatest of the times of all its files
abbrev pub IsLastOf : List LogReading → LogReading → ℕ → Type 0
IsLastOf files file n = IsGreatestOf (flat_map times_of (files_of file.head.segment file files)) n

-- one of the logs has this last timestamp
pub record HasLast (logs : List LogReading) (last : ℕ) : Type 0 where
  pub log : LogReading
  pub stands : Contains logs log
  pub is_last : IsLastOf logs log last

-- the cutoff: the last timestamp of some log, and at most that of every log
pub record IsCutoff (logs : List LogReading) (cutoff : ℕ) : Type 0 where
  pub has : HasLast logs cutoff
  pub least : (last : ℕ) → HasLast logs last → cutoff ≤ last
