-- Holes: updates that may be missing between two segments of a worker's log, though both are there.
use Rattle.std.specs.Prelude.{ℕ, ◌&&◌, Bool, min, Option, None, List, find, is_some, nat_lt, if◌then◌else◌}
use Rattle.std.specs.Option.{option_map}
use Rattle.mt_record.specs.Logs.{LogReading, times_of}
use Rattle.mt_record.specs.LogTexts.{greatest}
use Rattle.mt_scan.specs.Segments.{is_just_before}
use Rattle.mt_replay.specs.declared.window.Window.{Window}

-- the last timestamp of a file by itself: the greatest of its times
abbrev pub last_of : LogReading → ℕ
last_of file = greatest (times_of file)

-- whether the other file is the segment directly before this one, and ends below this one's `from` and below the cutoff
abbrev pub ends_short : ℕ → LogReading → LogReading → Bool
ends_short cutoff file other = is_just_before other.head.segment file.head.segment && nat_lt (last_of other) (min file.head.from cutoff)

-- Where the hole before this file begins: at the last timestamp of the segment directly before it, if that ends short. The log may lack updates from there
-- up to this file's `from`. There is a hole only if such updates would survive: not if `from` is at most `begin`.
abbrev pub hole_before : Window → List LogReading → LogReading → Option ℕ
hole_before window files file = if nat_lt window.begin file.head.from then option_map last_of (find (ends_short window.cutoff file) files) else None

-- whether there is a hole before this file
abbrev pub has_hole : Window → List LogReading → LogReading → Bool
has_hole window files file = is_some (hole_before window files file)
