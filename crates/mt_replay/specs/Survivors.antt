-- The updates of logs and of a checkpoint, and which of them survive.
use Rattle.std.specs.Prelude.{ℕ, suc, ◌&&◌, Bool, nat_lt, nat_le, List, [], ◌∷◌, ◌++◌, map, filter}
use Rattle.mt_words.specs.declared.record.Change.{Change}
use Rattle.mt_words.specs.declared.update.Origin.TheVariants as origins
use Rattle.mt_words.specs.declared.update.Update.{Update}
use Rattle.mt_words.specs.Changes.{Logged}
use Rattle.mt_words.specs.Updates.{update_at, updates_from}
use Rattle.mt_replay.specs.declared.window.Window.{Window}

-- the updates of these logs, numbered from `log` on
abbrev pub all_updates : ℕ → List (List Logged) → List Update
all_updates log [] = []
all_updates log (records ∷ later) = updates_from log 0 records ++ all_updates (suc log) later

-- the updates of the logs that have these records
abbrev pub log_updates : List (List Logged) → List Update
log_updates logs = all_updates 0 logs

-- the updates that entries make, each for its whole key
abbrev pub wholes : List Change → List Update
wholes entries = map (update_at origins.Checkpoint 0) entries

-- whether the timestamp is at or after the window's begin and below its cutoff
abbrev pub is_within : Window → ℕ → Bool
is_within window timestamp = nat_le window.begin timestamp && nat_lt timestamp window.cutoff

abbrev pub in_window : Window → Update → Bool
in_window window update = is_within window update.timestamp

-- whether the timestamp is below the begin of the window
abbrev pub is_early : ℕ → Update → Bool
is_early begin update = nat_lt update.timestamp begin

-- the log updates in the window
abbrev pub log_survivors : Window → List (List Logged) → List Update
log_survivors window logs = filter (in_window window) (log_updates logs)
