-- What recovery reports: the counts of what it found, and of what became of it.
use Rattle.std.specs.Prelude.{◌≡◌, ℕ, Bool, nat_le, nat_lt, Option, List, ◌∷◌, ◌++◌, length, filter, map}
use Rattle.std.specs.List.{flat_map}
use Rattle.std.specs.Option.{option_map}
use Rattle.mt_words.specs.declared.update.Update.{Update}
use Rattle.mt_words.specs.Changes.{Logged, is_mark}
use Rattle.mt_words.specs.Walks.{Pair}
use Rattle.mt_record.specs.Logs.{LogReading, IsGreatestOf, times_of, count_of, log_bytes}
use Rattle.mt_scan.specs.Choice.{CheckpointReading, AreSkipped, AreNameless}
use Rattle.mt_replay.specs.Survivors.{log_updates, is_early}
use Rattle.mt_tree.specs.Layers.{CountsLayers}
use Rattle.mt_recover.specs.declared.report.Report.{Report}
use Rattle.mt_scan.specs.Segments.{is_first_file}
use Rattle.mt_recover.specs.Holes.{has_hole}
use Rattle.mt_recover.specs.Recovery.{Facts, IsStoreOf, records_of, begin_of, survivors, entry_updates}

-- the complete records of all logs
abbrev pub all_records : List LogReading → List Logged
all_records readings = flat_map (λ log. log.records) readings

-- the puts, removes and erases of all logs
abbrev pub logged_updates : List LogReading → List Update
logged_updates readings = log_updates (records_of readings)

-- the update's timestamp is at or after the cutoff
abbrev pub is_late : ℕ → Update → Bool
is_late cutoff update = nat_le cutoff update.timestamp

-- the update's timestamp is below the cutoff
abbrev pub is_below : ℕ → Update → Bool
is_below cutoff update = nat_lt update.timestamp cutoff

-- the versions of updates
abbrev pub versions : List Update → List ℕ
versions updates = map (λ update. update.stamp.version) updates

-- the versions of the puts, removes and erases of all logs, and of the entries of the chosen checkpoint
abbrev pub all_versions : List LogReading → Option CheckpointReading → List ℕ
all_versions readings chosen = versions (logged_updates readings ++ entry_updates chosen)

-- the same without what is at or after the cutoff
abbrev pub versions_below : ℕ → List LogReading → Option CheckpointReading → List ℕ
versions_below cutoff readings chosen = versions (filter (is_below cutoff) (logged_updates readings) ++ entry_updates chosen)

-- where the complete records of a log end: the number of bytes of its header and of these records, or 2^64 - 1 if there are more; in a file of format 4, those of its text
abbrev pub end_of : LogReading → ℕ
end_of log = count_of (log_bytes log.head log.records)

-- the report says what was found in these logs and parts, before replay
pub record IsFoundIn {log_bytes part_bytes : List (List ℕ)} (facts : Facts log_bytes part_bytes) (report : Report) : Type 0 where
  pub logs : report.logs ≡ length log_bytes
  pub writers : report.writers ≡ length (filter (is_first_file facts.readings) facts.readings)
  pub records : report.records ≡ length (all_records facts.readings)
  pub marks : report.marks ≡ length (filter is_mark (all_records facts.readings))
  pub torn : report.torn ≡ length (filter (λ log. log.torn) facts.readings)
  pub holes : report.holes ≡ length (filter (has_hole (record { begin = begin_of facts.chosen; cutoff = facts.cutoff }) facts.readings) facts.readings)
  pub ends : report.ends.items ≡ map end_of facts.readings
  pub last : IsGreatestOf (flat_map times_of facts.readings) report.last
  pub version : IsGreatestOf (0 ∷ all_versions facts.readings facts.chosen) report.version
  pub version_below_cutoff : IsGreatestOf (0 ∷ versions_below facts.cutoff facts.readings facts.chosen) report.version_below_cutoff
  pub cutoff : report.cutoff ≡ facts.cutoff
  pub checkpoint : report.checkpoint ≡ option_map (λ checkpoint. checkpoint.number) facts.chosen
  pub begin : report.begin ≡ begin_of facts.chosen
  pub skipped : AreSkipped facts.known report.skipped.items
  pub nameless : AreNameless facts.known report.nameless.items
  pub entries : report.entries ≡ length (entry_updates facts.chosen)

-- the report says what was found, counts what survives, comes early and comes late, and counts the keys and layers of a store of these pairs
pub record IsReportOf {logs parts : List (List ℕ)} (facts : Facts logs parts) (pairs : List Pair) (report : Report) : Type 0 where
  pub found : IsFoundIn facts report
  pub survivors : report.survivors ≡ length (survivors facts.cutoff facts.chosen (records_of facts.readings))
  pub early : report.early ≡ length (filter (is_early (begin_of facts.chosen)) (logged_updates facts.readings))
  pub late : report.late ≡ length (filter (is_late facts.cutoff) (logged_updates facts.readings))
  pub keys : report.keys ≡ length pairs
  pub layers : CountsLayers pairs report.layers

-- what recovery returns if it names no fault
pub record Outcome : Type 0 where
  pub store : List Pair
  pub report : Report

-- the outcome of logs and parts: their store, and the report of the facts from which that store was made
pub record IsRecoveredOf (logs parts : List (List ℕ)) (outcome : Outcome) : Type 0 where
  pub store : IsStoreOf logs parts outcome.store
  pub report : IsReportOf store.basis.facts outcome.store outcome.report
