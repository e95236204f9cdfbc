-- Names of logs in a folder: until it is synced, a crash may lose each new one, and each file that was deleted.
use Rattle.std.specs.Prelude.{◌⊎◌, ℕ, ◌≤◌, ◌<◌, List, length, Contains}
use Rattle.std.specs.List.{AllZip}
use Rattle.mt_scan.specs.Segments.{IsJustBefore}
use Rattle.mt_writer.specs.Files.{OpenFile, HasSynced}
use Rattle.mt_laws.specs.Lives.{IsBehind, IsSyncedAbove, LogOf, those_there, IsStillOrDeleted}

-- in the file, or in a later segment of its log before the new one, a record above the timestamp is synced
pub record IsSyncedBefore (time : ℕ) (files : List OpenFile) (new file : OpenFile) : Type 0 where
  pub above : IsSyncedAbove time files file
  pub earlier : IsBehind above.last new

-- A new file: the last of its log. It reaches no further than the segments before it, if there are any.
pub record IsNew (files : List OpenFile) (new : OpenFile) : Type 0 where
  pub last : (file : OpenFile) → Contains files file → IsBehind new file → ⊥
  pub reach : (time : ℕ) (file : OpenFile) → Contains files file → IsBehind file new → HasSynced (λ r. time < r.timestamp) new
      → IsSyncedBefore time files new file

-- A deleted file: the first of its log. The `from` of the next one, if there is one, is at most `begin`.
pub record IsLowest (begin : ℕ) (files : List OpenFile) (old : OpenFile) : Type 0 where
  pub first : (file : OpenFile) → Contains files file → IsBehind file old → ⊥
  pub next : (file : OpenFile) → Contains files file → IsJustBefore old.head.segment file.head.segment → file.head.from ≤ begin

-- What a crash leaves of the names of these logs. A file that it loses has no update from `begin` on, and was new or deleted since the folder was synced. Some
-- file is left.
pub record AreNamesLeft (begin : ℕ) (before after : List (LogOf OpenFile)) : Type 0 where
  pub each : AllZip (IsStillOrDeleted begin) before after
  pub lost : (file : OpenFile) → Contains (those_there before) file
      → Contains (those_there after) file ⊎ (IsNew (those_there before) file ⊎ IsLowest begin (those_there before) file)
  pub some : 0 < length (those_there after)
