-- What a crash leaves of logs. Which checkpoints stand for the updates before them, and which records may be deleted then.
use Rattle.std.specs.Prelude.{◌≡◌, ℕ, ◌≤◌, ◌<◌, ◌↔◌, ◌&&◌, Bool, true, false, nat_le, is_some, Some, None, IfSome, Option, List, [], ◌∷◌, ◌++◌, map, filter, All, Contains}
use Rattle.std.specs.List.{AllZip}
use Rattle.mt_words.specs.declared.record.Change.{Change}
use Rattle.mt_words.specs.declared.update.Update.{Update}
use Rattle.mt_words.specs.Changes.{Logged, Writes, IsWhole}
use Rattle.mt_words.specs.Stamps.{IsOlder}
use Rattle.mt_record.specs.Logs.{LogReading, IsReading}
use Rattle.mt_scan.specs.Cutoff.{HasLast}
use Rattle.mt_scan.specs.Choice.{CheckpointReading}
use Rattle.mt_replay.specs.KeyColumns.{HasColumn}
use Rattle.mt_replay.specs.Survivors.{log_updates}
use Rattle.mt_recover.specs.Recovery.{AreReadings, begin_of}
use Rattle.mt_writer.specs.Files.{IsCutFileOf}

-- ---- logs that a crash cut

-- the same header, and a beginning of the records
pub record IsBeginningOf (left written : LogReading) : Type 0 where
  pub head : left.head ≡ written.head
  pub lost : List Logged
  pub records : written.records ≡ left.records ++ lost

-- what the bytes say as a log is a beginning of what the written log says
pub record SaysBeginning (left : List ℕ) (written : LogReading) : Type 0 where
  pub log : LogReading
  pub is_reading : IsReading left log
  pub begins : IsBeginningOf log written

-- the log is no segment of a worker's log
abbrev pub IsAlone : LogReading → Type 0
IsAlone log = log.head.segment ≡ None

-- none of the logs is a segment of a worker's log
abbrev pub NoSegments : List LogReading → Type 0
NoSegments logs = All IsAlone logs

-- Logs were written that say this, and a crash left these beginnings of them, one for each log. None of the logs is a segment of a worker's log.
pub record IsCrash (left : List (List ℕ)) (histories : List LogReading) : Type 0 where
  pub written : List (List ℕ)
  pub cuts : AllZip IsCutFileOf left written
  pub read : AreReadings written histories
  pub no_segments : NoSegments histories

-- What was synced of each log reaches beyond a timestamp: it is a beginning of what is left, with a whole header, and its last timestamp is greater.
-- None of the logs is a segment of a worker's log.
pub record AreSyncedBeyond (time : ℕ) (left : List (List ℕ)) : Type 0 where
  pub synced : List (List ℕ)
  pub begin : AllZip IsCutFileOf synced left
  pub readings : List LogReading
  pub read : AreReadings synced readings
  pub no_segments : NoSegments readings
  pub beyond : (last : ℕ) → HasLast readings last → time < last

-- ---- checkpoints that were written while updates went on

-- the updates up to a version
abbrev pub up_to : ℕ → List Update → List Update
up_to version updates = filter (λ (u : Update). nat_le u.stamp.version version) updates

-- The checkpoint shows the key as it was at this version: the key's updates from before the checkpoint's begin have at most this version, and
-- those that have at most this version are from no later than its end.
pub record IsSeenAt (updates : List Update) (checkpoint : CheckpointReading) (key : List ℕ) (version : ℕ) : Type 0 where
  pub before : (u : Update) → Contains updates u → u.key ≡ key → u.timestamp < checkpoint.begin → u.stamp.version ≤ version
  pub by_end : (u : Update) → Contains updates u → u.key ≡ key → u.stamp.version ≤ version → u.timestamp ≤ checkpoint.end

-- the entry shows its key as it was at its version, with exactly the columns that the updates up to this version leave
pub record IsSoundEntry (updates : List Update) (checkpoint : CheckpointReading) (entry : Change) : Type 0 where
  pub whole : IsWhole entry.kind
  pub seen : IsSeenAt updates checkpoint entry.key entry.version
  pub columns : (number : ℕ) (bytes : List ℕ) → Writes entry.kind number (Some bytes) ↔ HasColumn (up_to entry.version updates) entry.key number bytes

-- the key rightly has no entry: at some version it had no column, and its updates from before the begin are older than those from the begin on
pub record IsSoundAbsence (updates : List Update) (checkpoint : CheckpointReading) (key : List ℕ) : Type 0 where
  pub version : ℕ
  pub seen : IsSeenAt updates checkpoint key version
  pub no_column : (number : ℕ) (bytes : List ℕ) → HasColumn (up_to version updates) key number bytes → ⊥
  pub rise : (u w : Update) → Contains updates u → Contains updates w → u.key ≡ key → w.key ≡ key → u.timestamp < checkpoint.begin →
      checkpoint.begin ≤ w.timestamp → IsOlder u.stamp w.stamp

-- a checkpoint that is right for these updates: each entry is, and each key without an entry rightly has none
pub record IsSound (updates : List Update) (checkpoint : CheckpointReading) : Type 0 where
  pub entries : (entry : Change) → Contains checkpoint.entries entry → IsSoundEntry updates checkpoint entry
  pub others : (key : List ℕ) → ((entry : Change) → Contains checkpoint.entries entry → entry.key ≡ key → ⊥) → IsSoundAbsence updates checkpoint key

-- ---- records that may be deleted

abbrev pub has_records : List Logged → Bool
has_records [] = false
has_records (r ∷ rs) = true

-- whether the record is an update from this timestamp on, and no mark
abbrev pub is_update_since : ℕ → Logged → Bool
is_update_since begin r = is_some r.change && nat_le begin r.timestamp

-- the updates from a timestamp on, log by log, without the logs that have none
abbrev pub since : ℕ → List (List Logged) → List (List Logged)
since begin logs = filter has_records (map (filter (is_update_since begin)) logs)

-- The kept logs and the chosen checkpoint stand for the full logs: both have the same updates from the begin on, and the checkpoint, if one is
-- chosen, is sound for the updates of the full logs.
pub record StandFor (chosen : Option CheckpointReading) (kept full : List (List Logged)) : Type 0 where
  pub same : since (begin_of chosen) kept ≡ since (begin_of chosen) full
  pub sound : IfSome chosen (IsSound (log_updates full))
