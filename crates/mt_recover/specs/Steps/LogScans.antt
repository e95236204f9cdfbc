-- The scans of logs, and the updates that they kept.
use Rattle.std.specs.Prelude.{ℕ, suc, Bool, nat_le, nat_lt, ◌||◌, if◌then◌else◌, false, List, [], ◌∷◌, filter}
use Rattle.std.specs.List.{flat_map}
use Rattle.mt_words.specs.declared.update.Update.{Update}
use Rattle.mt_words.specs.OneLog.{kept_updates}
use Rattle.mt_record.specs.Logs.{LogReading}
use Rattle.mt_record.specs.LogTexts.{greatest}
use Rattle.mt_scan.specs.declared.log_scan.LogScan.{LogScan}
use Rattle.mt_scan.specs.Dropping.{ShowsAllBelow}
use Rattle.mt_replay.specs.declared.window.Window.{Window}
use Rattle.mt_replay.specs.Survivors.{in_window}
use Rattle.mt_recover.specs.Report.{versions, is_below}

-- each scan shows what its log says, with all updates below `limit`; the logs are numbered from `number` on
abbrev pub ShowAll : ℕ → ℕ → List LogScan → List LogReading → Type 0
ShowAll limit number [] [] = Unit {0}
ShowAll limit number (scan ∷ scans) (log ∷ readings) = ShowsAllBelow limit number scan log × ShowAll limit (suc number) scans readings
ShowAll limit number [] (log ∷ readings) = ⊥
ShowAll limit number (scan ∷ scans) [] = ⊥

-- the updates that a scan kept
abbrev pub kept_by : LogScan → List Update
kept_by scan = kept_updates scan.updates

-- the updates that the scans kept
abbrev pub kept : List LogScan → List Update
kept scans = flat_map kept_by scans

-- the kept updates that lie in the window
abbrev pub kept_in_window : Window → List LogScan → List Update
kept_in_window window scans = filter (in_window window) (kept scans)

-- whether the last of the updates is at or after the cutoff, or `without` if there is none
abbrev pub last_is_late : ℕ → Bool → List Update → Bool
last_is_late cutoff without [] = without
last_is_late cutoff without (u ∷ us) = last_is_late cutoff (nat_le cutoff u.timestamp) us

-- whether the scan has seen updates at or after the cutoff, if timestamps never fall
abbrev pub has_late : ℕ → LogScan → Bool
has_late cutoff scan = nat_lt 0 scan.dropped || last_is_late cutoff false (kept_by scan)

-- the greatest version of the updates below the cutoff: that of the front if there are no others, and else that of the kept ones
abbrev pub version_in : ℕ → LogScan → ℕ
version_in cutoff scan = if has_late cutoff scan then greatest (versions (filter (is_below cutoff) (kept_by scan))) else scan.front.version
