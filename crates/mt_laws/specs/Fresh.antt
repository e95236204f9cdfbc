-- Starting afresh: recovery from one checkpoint of a store, and from the logs after it.
use Rattle.std.specs.Prelude.{◌≡◌, ℕ, ◌+◌, ◌<◌, Some, List, length, Contains, IsPermutation}
use Rattle.std.specs.List.{range_with_len, AllZip}
use Rattle.mt_words.specs.declared.update.Update.{Update}
use Rattle.mt_words.specs.Walks.{Pair}
use Rattle.mt_record.specs.Logs.{LogReading, log_bytes}
use Rattle.mt_record.specs.Parts.{IsPartReading}
use Rattle.mt_checkpoint.specs.Checkpoints.{Checkpoint, entries_with, part_reading, log_reading}
use Rattle.mt_scan.specs.Choice.{CheckpointReading}
use Rattle.mt_scan.specs.Cutoff.{HasLast}
use Rattle.mt_scan.specs.Segments.{AreWriters, IsGap}
use Rattle.mt_replay.specs.Survivors.{log_survivors}
use Rattle.mt_recover.specs.Recovery.{Facts, survivors, records_of}
use Rattle.mt_recover.specs.Report.{Outcome}
use Rattle.mt_writer.specs.Files.{OpenFile}

-- The bytes are those of all parts of the checkpoint, in any order and format: `order` has the number of each.
pub record AreAllParts (checkpoint : Checkpoint) (parts : List (List ℕ)) : Type 0 where
  pub order : List ℕ
  pub all : IsPermutation (range_with_len 0 (length checkpoint.parts)) order
  pub are_read : AllZip (λ bytes part. IsPartReading bytes (part_reading checkpoint part)) parts order

-- what the checkpoint of these pairs says: it begins and ends at its cutoff, and has an entry for each pair
abbrev pub reading_with : Checkpoint → List Pair → CheckpointReading
reading_with checkpoint pairs =
    record { number = checkpoint.number; begin = checkpoint.cutoff; end = checkpoint.cutoff; entries = entries_with checkpoint.version pairs }

-- the text of the log that makes the checkpoint count, all of which is synced
abbrev pub log_file : Checkpoint → OpenFile
log_file checkpoint =
    let log = log_reading checkpoint in
    record { head = log.head; records = log.records; synced = log_bytes log.head log.records }

-- what recovery returns at a fresh start: the pairs, over this checkpoint, and a cutoff one above the checkpoint's
pub record IsFresh (pairs : List Pair) (checkpoint : Checkpoint) (outcome : Outcome) : Type 0 where
  pub store : outcome.store ≡ pairs
  pub chosen : outcome.report.checkpoint ≡ Some checkpoint.number
  pub cutoff : outcome.report.cutoff ≡ checkpoint.cutoff + 1

-- Logs with which a server goes on after a fresh start: there is one, none is doubled or torn before its last segment, none lacks updates from the checkpoint's
-- cutoff on, and each reaches beyond it.
pub record GoOnAfter (checkpoint : Checkpoint) (logs : List LogReading) : Type 0 where
  pub some : 0 < length logs
  pub writers : AreWriters logs
  pub no_gap : (i : ℕ) → IsGap checkpoint.cutoff logs i → ⊥
  pub beyond : (last : ℕ) → HasLast logs last → checkpoint.cutoff < last

-- what survives of what recovery finds
abbrev pub surviving : {logs parts : List (List ℕ)} → Facts logs parts → List Update
surviving facts = survivors facts.cutoff facts.chosen (records_of facts.readings)

-- the updates of the logs from the checkpoint's cutoff on, below the cutoff now
abbrev pub updates_after : {logs parts : List (List ℕ)} → Checkpoint → Facts logs parts → List Update
updates_after checkpoint facts = log_survivors (record { begin = checkpoint.cutoff; cutoff = facts.cutoff }) (records_of facts.readings)

-- each update of these has a version above the checkpoint's
abbrev pub AreAbove : Checkpoint → List Update → Type 0
AreAbove checkpoint updates = (u : Update) → Contains updates u → checkpoint.version < u.stamp.version
