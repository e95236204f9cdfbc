-- Holes before files, from their fronts.
use Rattle.std.specs.Prelude.{ℕ, ◌&&◌, Bool, min, Option, None, List, find, nat_lt, if◌then◌else◌}
use Rattle.std.specs.Option.{option_map}
use Rattle.mt_record.specs.declared.front.LogFront.{LogFront}
use Rattle.mt_scan.specs.Scans.{last_in}
use Rattle.mt_scan.specs.Segments.{is_just_before}
use Rattle.mt_replay.specs.declared.window.Window.{Window}

-- whether the other file is the segment directly before this one, and ends below this one's `from` and below the cutoff
abbrev pub ends_short : ℕ → LogFront → LogFront → Bool
ends_short cutoff file other = is_just_before other.head.segment file.head.segment && nat_lt (last_in other) (min file.head.from cutoff)

-- the last timestamp of the segment directly before the file, if that ends short
abbrev pub short_end : ℕ → LogFront → List LogFront → Option ℕ
short_end cutoff file fronts = option_map last_in (find (ends_short cutoff file) fronts)

-- the same, if there is a hole
abbrev pub front_hole : Window → List LogFront → LogFront → Option ℕ
front_hole window fronts file = if nat_lt window.begin file.head.from then short_end window.cutoff file fronts else None
