-- For callers that have updates in memory: which of them survive.
use Rattle.std.specs.Prelude.{◌&&◌, ◌||◌, Bool, true, false, not}
use Rattle.mt_words.specs.declared.update.Kind.{Kind}
use Rattle.mt_words.specs.declared.update.Kind.TheVariants.{Put, Remove, Whole, Erase}
use Rattle.mt_words.specs.declared.update.Update.{Update}
use Rattle.mt_replay.specs.declared.window.Window.{Window}
use Rattle.mt_replay.specs.Survivors.{in_window}

-- whether this is the entry of a checkpoint
abbrev pub is_whole : Kind → Bool
is_whole (Put columns) = false
is_whole Remove = false
is_whole (Whole columns) = true
is_whole (Erase numbers) = false

-- whether an update survives: a log update if it is in the window, and the entry of a checkpoint, which has no timestamp, always
abbrev pub survives : Window → Update → Bool
survives window update = is_whole update.kind || in_window window update

-- whether this is an update in the window, and no entry of a checkpoint
abbrev pub is_logged_in : Window → Update → Bool
is_logged_in window update = not (is_whole update.kind) && in_window window update

-- whether an update survives if entries do, or if they do not
abbrev pub survives_with : Bool → Window → Update → Bool
survives_with true window update = survives window update
survives_with false window update = is_logged_in window update
