-- The last timestamps of logs, from their fronts.
use Rattle.std.specs.Prelude.{ℕ, Option, Some, None, List, filter, map}
use Rattle.mt_record.specs.declared.feed.head.Segment.{Segment}
use Rattle.mt_record.specs.LogTexts.{greatest}
use Rattle.mt_record.specs.declared.front.LogFront.{LogFront}
use Rattle.mt_scan.specs.Cutoff.{is_segment_of}
use Rattle.mt_scan.specs.Scans.{last_in}

-- the greatest last timestamp of a worker's segments
abbrev pub last_of_segments : ℕ → List LogFront → ℕ
last_of_segments worker fronts = greatest (map (λ front. last_in front) (filter (λ front. is_segment_of worker front.head.segment) fronts))

-- the last timestamp of the log that a scanned file, which is this segment, belongs to
abbrev pub last_by : Option Segment → LogFront → List LogFront → ℕ
last_by None front fronts = last_in front
last_by (Some segment) front fronts = last_of_segments segment.worker fronts

-- the last timestamp of the log that a scanned file belongs to
unfoldable pub last_of : List LogFront → LogFront → ℕ
last_of fronts front = last_by front.head.segment front fronts
