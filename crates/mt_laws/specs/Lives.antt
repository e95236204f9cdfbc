-- Lives of a server: it writes, syncs, acknowledges, adds logs and segments, writes checkpoints, deletes old logs, crashes, recovers, and resumes or starts
-- afresh, as often as it may. A file is added when it is renamed: from then on acknowledgements wait for it. It is deleted when the folder is synced. If a crash
-- loses a new name or a deleted file before that, the life goes on (`a_crash_of_names`).
use Rattle.std.specs.Prelude.{◌≡◌, ℕ, ◌≤◌, ◌<◌, ◌⊎◌, Bool, true, false, Option, Some, None, IfSome, List, [], ◌∷◌, ◌++◌, length, map, Contains}
use Rattle.std.specs.List.{AllZip}
use Rattle.mt_words.specs.declared.record.Change.{Change}
use Rattle.mt_words.specs.declared.update.Origin.{Origin}
use Rattle.mt_words.specs.declared.update.Update.{Update}
use Rattle.mt_words.specs.Changes.{Logged, is_mark, IsLoggedChange}
use Rattle.mt_words.specs.Limits.{widest}
use Rattle.mt_words.specs.Updates.{update_at}
use Rattle.mt_words.specs.Walks.{Pair}
use Rattle.mt_record.specs.Opening.{Opens}
use Rattle.mt_record.specs.Logs.{LogReading, IsReading, times_of}
use Rattle.mt_record.specs.Resuming.{greatest_timestamp, below, resumed}
use Rattle.mt_checkpoint.specs.Checkpoints.{entries_with}
use Rattle.mt_scan.specs.PartScans.{KnownPart}
use Rattle.mt_scan.specs.Choice.{CheckpointReading, IsValid, IsNoBetter}
use Rattle.mt_scan.specs.Segments.{IsEarlier, IsDoubled, IsGap}
use Rattle.mt_replay.specs.Survivors.{log_updates}
use Rattle.mt_replay.specs.Walk.{IsWalk}
use Rattle.mt_recover.specs.Recovery.{AreKnown, Facts, begin_of, survivors, records_of}
use Rattle.mt_writer.specs.Files.{IsCutOf, OpenFile, file_bytes, file_reading, HasSynced, IsOpenFile, IsWritten, IsSynced}
use Rattle.mt_laws.specs.Crashes.{IsSound}
use Rattle.mt_laws.specs.Resuming.{IsOnTheWay}

-- ---- files

-- the first file is an earlier segment of the second one's log
abbrev pub IsBehind : OpenFile → OpenFile → Type 0
IsBehind a b = IsEarlier a.head.segment b.head.segment

-- Each file is open, none is there twice, and none has a gap at or after `begin`. A file that is behind another is synced whole, and the other has a synced
-- mark at or past each of its times.
pub record AreOpen (begin : ℕ) (files : List OpenFile) : Type 0 where
  pub each : (file : OpenFile) → Contains files file → IsOpenFile file
  pub once : (i : ℕ) → IsDoubled (map file_reading files) i → ⊥
  pub no_gap : (i : ℕ) → IsGap begin (map file_reading files) i → ⊥
  pub whole : (a b : OpenFile) → Contains files a → Contains files b → IsBehind a b → a.synced ≡ file_bytes a
  pub beyond : (a b : OpenFile) → Contains files a → Contains files b → IsBehind a b → (time : ℕ) → Contains (times_of (file_reading a)) time
      → HasSynced (λ r. (is_mark r ≡ true) × (time ≤ r.timestamp)) b

-- in the file, or in a later segment of its log, a record above the timestamp is synced
pub record IsSyncedAbove (time : ℕ) (files : List OpenFile) (file : OpenFile) : Type 0 where
  pub last : OpenFile
  pub stands : Contains files last
  pub of_log : (file ≡ last) ⊎ IsBehind file last
  pub above : HasSynced (λ r. time < r.timestamp) last

-- in each log a record above the timestamp is synced
abbrev pub AllSyncedAbove : ℕ → List OpenFile → Type 0
AllSyncedAbove time files = (file : OpenFile) → Contains files file → IsSyncedAbove time files file

-- ---- logs that are there, and logs that were deleted

-- a log of a life: it is there, or it was deleted, and had these records
pub data LogOf (A : Type 0) : Type 0 where
  there : A → LogOf A
  deleted : List Logged → LogOf A

-- the logs that are there
abbrev pub those_there : {A : Type 0} → List (LogOf A) → List A
those_there [] = []
those_there (there log ∷ logs) = log ∷ those_there logs
those_there (deleted records ∷ logs) = those_there logs

-- each log that is there still is, as the relation says, and the deleted ones are deleted
abbrev pub IsStill : {A B : Type 0} → (A → B → Type 0) → LogOf A → LogOf B → Type 0
IsStill R (there before) (there after) = R before after
IsStill R (deleted before) (deleted after) = after ≡ before
IsStill R before after = ⊥

-- the log with the records that were written to it
abbrev pub as_written : LogOf OpenFile → LogOf (List Logged)
as_written (there file) = there file.records
as_written (deleted records) = deleted records

-- the records of the logs, deleted or not
abbrev pub records_in : LogOf (List Logged) → List Logged
records_in (there records) = records
records_in (deleted records) = records

-- the history: the records of all logs
abbrev pub history_of : List (LogOf (List Logged)) → List (List Logged)
history_of logs = map records_in logs

-- the updates of the history of these logs
abbrev pub updates_in : List (LogOf OpenFile) → List Update
updates_in logs = log_updates (history_of (map as_written logs))

-- each update of the records is from before the timestamp
abbrev pub AreOld : ℕ → List Logged → Type 0
AreOld begin records = (r : Logged) → Contains records r → is_mark r ≡ false → r.timestamp < begin

-- ---- checkpoints

-- the checkpoints of which a crash may leave all parts, and the one that the server stands on, if any: its parts are synced
pub record Checkpoints : Type 0 where
  pub written : List CheckpointReading
  pub base : Option CheckpointReading

-- of two checkpoints the better one begins no earlier
abbrev pub BeginsRise : List CheckpointReading → Type 0
BeginsRise written = (a b : CheckpointReading) → Contains written a → Contains written b → IsNoBetter a b → a.begin ≤ b.begin

-- The update is from after the checkpoint's begin, and its version is above those of the updates of its key until now, and of the key's entry.
pub record IsNewOver (updates : List Update) (checkpoint : CheckpointReading) (u : Update) : Type 0 where
  pub late : checkpoint.begin ≤ u.timestamp
  pub newer : (before : Update) → Contains updates before → before.key ≡ u.key → before.stamp.version < u.stamp.version
  pub above_entry : (entry : Change) → Contains checkpoint.entries entry → entry.key ≡ u.key → entry.version < u.stamp.version

-- each update that was added is new over each checkpoint
abbrev pub AddNew : Checkpoints → List Update → List Update → Type 0
AddNew checkpoints before after = (u : Update) → Contains after u →
    Contains before u ⊎ ((checkpoint : CheckpointReading) → Contains checkpoints.written checkpoint → IsNewOver before checkpoint u)

-- an update that is later than those before it, and than the end of each checkpoint
pub record IsLater (updates : List Update) (checkpoints : Checkpoints) (u : Update) : Type 0 where
  pub after_updates : (before : Update) → Contains updates before → before.timestamp < u.timestamp
  pub after_ends : (checkpoint : CheckpointReading) → Contains checkpoints.written checkpoint → checkpoint.end < u.timestamp

-- The version of each update is its timestamp, and that of an entry is at most the end of its checkpoint.
pub record HaveTimestamps (updates : List Update) (checkpoints : Checkpoints) : Type 0 where
  pub versions : (u : Update) → Contains updates u → u.stamp.version ≡ u.timestamp
  pub ends : (checkpoint : CheckpointReading) → Contains checkpoints.written checkpoint → checkpoint.begin ≤ checkpoint.end
  pub entries : (checkpoint : CheckpointReading) (entry : Change) → Contains checkpoints.written checkpoint → Contains checkpoint.entries entry
      → entry.version ≤ checkpoint.end

-- The update of this timestamp and change may come next: it is new over each checkpoint. Neither an acknowledged update is later, nor the end of the checkpoint
-- that the server stands on. A timestamp is left for a mark above it.
pub record MayComeNext (acked updates : List Update) (checkpoints : Checkpoints) (time : ℕ) (change : Change) : Type 0 where
  pub lawful : IsLoggedChange widest change
  pub new : (origin : Origin) (checkpoint : CheckpointReading) → Contains checkpoints.written checkpoint
      → IsNewOver updates checkpoint (update_at origin time change)
  pub later : (u : Update) → Contains acked u → u.timestamp ≤ time
  pub base : IfSome checkpoints.base (λ base. base.end ≤ time)
  pub time_left : time < greatest_timestamp

-- What a crash leaves of the parts: a checkpoint that is valid was written, and the one that the server stands on is valid.
pub record AreLeftOf (checkpoints : Checkpoints) (parts : List (List ℕ)) : Type 0 where
  pub known : List KnownPart
  pub are_known : AreKnown parts known
  pub no_other : (checkpoint : CheckpointReading) → IsValid known checkpoint → Contains checkpoints.written checkpoint
  pub base_is : IfSome checkpoints.base (IsValid known)

-- the checkpoint, if any, as a list
abbrev pub listed : Option CheckpointReading → List CheckpointReading
listed None = []
listed (Some checkpoint) = checkpoint ∷ []

-- the checkpoints after a resume: the one that was chosen, if any
abbrev pub only : Option CheckpointReading → Checkpoints
only chosen = record { written = listed chosen; base = chosen }

-- ---- steps

-- What is left of one of these files: its text has at least what is synced, and no more than what was written. Anything may follow the text, unless a later segment
-- of the log is there.
pub record IsLeftOf (files : List OpenFile) (file : OpenFile) (left : List ℕ) : Type 0 where
  pub text : List ℕ
  pub torn : Bool
  pub opens : Opens left text torn
  pub synced : IsCutOf file.synced text
  pub written : IsCutOf text (file_bytes file)
  pub whole : (later : OpenFile) → Contains files later → IsBehind file later → torn ≡ false

-- the file is what replaces the one that was left, and all of it is synced
pub record IsResumedAs (cutoff : ℕ) (left : List ℕ) (file : OpenFile) : Type 0 where
  pub reading : LogReading
  pub is_reading : IsReading left reading
  pub replaces : file_reading file ≡ resumed cutoff reading
  pub synced : file.synced ≡ file_bytes file

-- Records were appended to logs. The files are open, and the updates are new over each checkpoint.
pub record AreWritten (checkpoints : Checkpoints) (before after : List (LogOf OpenFile)) : Type 0 where
  pub each : AllZip (IsStill IsWritten) before after
  pub opens : AreOpen (begin_of checkpoints.base) (those_there after)
  pub new : AddNew checkpoints (updates_in before) (updates_in after)

-- A file was added, of a new log or a new segment. The files are open, and its updates are new over each checkpoint. It has a synced record above each
-- acknowledged update, and one above the end of the checkpoint that the server stands on.
pub record IsAdded (acked : List Update) (checkpoints : Checkpoints) (before : List (LogOf OpenFile)) (file : OpenFile) : Type 0 where
  pub opens : AreOpen (begin_of checkpoints.base) (those_there (before ++ there file ∷ []))
  pub new : AddNew checkpoints (updates_in before) (updates_in (before ++ there file ∷ []))
  pub above : (u : Update) → Contains acked u → HasSynced (λ r. u.timestamp < r.timestamp) file
  pub above_base : IfSome checkpoints.base (λ base. HasSynced (λ r. base.end < r.timestamp) file)

-- The server may stand on a written checkpoint, all parts of which are synced: it begins no earlier than the one before, and in each log a record above its end
-- is synced.
pub record MayStandOn (checkpoints : Checkpoints) (logs : List (LogOf OpenFile)) (new : CheckpointReading) : Type 0 where
  pub written : Contains checkpoints.written new
  pub begins : begin_of checkpoints.base ≤ new.begin
  pub synced : AllSyncedAbove new.end (those_there logs)

-- the log is as it was, or it was deleted, and has only old updates
abbrev pub IsStillOrDeleted : ℕ → LogOf OpenFile → LogOf OpenFile → Type 0
IsStillOrDeleted begin (there before) (there after) = after ≡ before
IsStillOrDeleted begin (there before) (deleted records) = (records ≡ before.records) × AreOld begin records
IsStillOrDeleted begin (deleted before) (there after) = ⊥
IsStillOrDeleted begin (deleted before) (deleted after) = after ≡ before

-- Logs without updates from `begin` on were deleted, but not all logs. In each log that is left a record above a timestamp is synced if one was. The files that
-- are left are open.
pub record AreDeleted (begin : ℕ) (before after : List (LogOf OpenFile)) : Type 0 where
  pub each : AllZip (IsStillOrDeleted begin) before after
  pub some : 0 < length (those_there after)
  pub reach : (time : ℕ) → AllSyncedAbove time (those_there before) → AllSyncedAbove time (those_there after)
  pub opens : AreOpen begin (those_there after)

-- what a fresh start leaves behind of a log: its records below the cutoff, in the history alone
abbrev pub left_behind : ℕ → LogOf (List Logged) → LogOf OpenFile
left_behind cutoff (there records) = deleted (below cutoff records)
left_behind cutoff (deleted records) = deleted records

-- A fresh start in a new folder: the store that recovery finds as one checkpoint, which begins and ends at the cutoff and has an entry of one version for each
-- pair, and one file of marks, with a synced one above the cutoff. No update that survives is above the version.
pub record IsFreshStart {left parts : List (List ℕ)} (facts : Facts left parts) (file : OpenFile) (new : CheckpointReading) : Type 0 where
  pub pairs : List Pair
  pub walk : IsWalk (survivors facts.cutoff facts.chosen (records_of facts.readings)) pairs
  pub version : ℕ
  pub most : (u : Update) → Contains (survivors facts.cutoff facts.chosen (records_of facts.readings)) u → u.stamp.version ≤ version
  pub begins : new.begin ≡ facts.cutoff
  pub ends : new.end ≡ facts.cutoff
  pub entries : new.entries ≡ entries_with version pairs
  pub opens : AreOpen facts.cutoff (file ∷ [])
  pub marks : (r : Logged) → Contains file.records r → is_mark r ≡ true
  pub above : HasSynced (λ r. facts.cutoff < r.timestamp) file

-- A server, the updates that it has acknowledged, its logs and its checkpoints: it runs; or it is down, these records were written, and these bytes are left of
-- the logs and of the parts.
pub data State : Type 0 where
  running : List Update → List (LogOf OpenFile) → Checkpoints → State
  down : List Update → List (LogOf (List Logged)) → List (List ℕ) → List (List ℕ) → State

-- A step of a life. An update is acknowledged once a record above it is synced in each log. A checkpoint that is written is sound. A crash leaves of each file
-- at least what is synced. A resume may be stopped in any state on the way; after it the chosen checkpoint is the only one. In place of a resume the server may
-- start afresh in a new folder.
pub data IsStep : State → State → Type 0 where
  write : (acked : List Update) (before after : List (LogOf OpenFile)) (checkpoints : Checkpoints) → AreWritten checkpoints before after
      → IsStep (running acked before checkpoints) (running acked after checkpoints)
  sync : (acked : List Update) (before after : List (LogOf OpenFile)) (checkpoints : Checkpoints) → AllZip (IsStill IsSynced) before after
      → AreOpen (begin_of checkpoints.base) (those_there after) → IsStep (running acked before checkpoints) (running acked after checkpoints)
  acknowledge : (acked : List Update) (logs : List (LogOf OpenFile)) (checkpoints : Checkpoints) (u : Update) → Contains (updates_in logs) u
      → AllSyncedAbove u.timestamp (those_there logs) → IsStep (running acked logs checkpoints) (running (u ∷ acked) logs checkpoints)
  add_file : (acked : List Update) (logs : List (LogOf OpenFile)) (checkpoints : Checkpoints) (file : OpenFile) → IsAdded acked checkpoints logs file
      → IsStep (running acked logs checkpoints) (running acked (logs ++ there file ∷ []) checkpoints)
  write_checkpoint : (acked : List Update) (logs : List (LogOf OpenFile)) (checkpoints : Checkpoints) (new : CheckpointReading)
      → IsSound (updates_in logs) new → BeginsRise (new ∷ checkpoints.written)
      → IsStep (running acked logs checkpoints) (running acked logs (record checkpoints { written = new ∷ checkpoints.written }))
  stand : (acked : List Update) (logs : List (LogOf OpenFile)) (checkpoints : Checkpoints) (new : CheckpointReading) → MayStandOn checkpoints logs new
      → IsStep (running acked logs checkpoints) (running acked logs (record checkpoints { base = Some new }))
  delete : (acked : List Update) (before after : List (LogOf OpenFile)) (checkpoints : Checkpoints) → AreDeleted (begin_of checkpoints.base) before after
      → IsStep (running acked before checkpoints) (running acked after checkpoints)
  crash : (acked : List Update) (logs : List (LogOf OpenFile)) (checkpoints : Checkpoints) (left parts : List (List ℕ)) → AllZip (IsLeftOf (those_there logs)) (those_there logs) left
      → AreLeftOf checkpoints parts → IsStep (running acked logs checkpoints) (down acked (map as_written logs) left parts)
  stop : (acked : List Update) (logs : List (LogOf (List Logged))) (left parts now now_parts : List (List ℕ)) (facts : Facts left parts)
      → IsOnTheWay facts now now_parts → IsStep (down acked logs left parts) (down acked logs now now_parts)
  resume : (acked : List Update) (before : List (LogOf (List Logged))) (left parts : List (List ℕ)) (after : List (LogOf OpenFile)) (facts : Facts left parts)
      → AllZip (IsStill (λ records file. Unit {0})) before after → AllZip (IsResumedAs facts.cutoff) left (those_there after)
      → IsStep (down acked before left parts) (running acked after (only facts.chosen))
  start_afresh : (acked : List Update) (before : List (LogOf (List Logged))) (left parts : List (List ℕ)) (facts : Facts left parts) (file : OpenFile)
      (new : CheckpointReading) → IsFreshStart facts file new
      → IsStep (down acked before left parts) (running acked (map (left_behind facts.cutoff) before ++ there file ∷ []) (only (Some new)))

-- the states of a life that begins with at least one file, no checkpoint and nothing acknowledged
pub data Life : State → Type 0 where
  begun : (file : OpenFile) (files : List OpenFile) → AreOpen 0 (file ∷ files) → Life (running [] (map there (file ∷ files)) (only None))
  then : (before after : State) → Life before → IsStep before after → Life after
