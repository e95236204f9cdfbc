-- What recovery makes of logs and checkpoint parts.
use Rattle.std.specs.Prelude.{ℕ, Option, Some, None, List, [], ◌++◌, map}
use Rattle.std.specs.List.{AllZip}
use Rattle.mt_words.specs.declared.update.Update.{Update}
use Rattle.mt_words.specs.Changes.{Logged}
use Rattle.mt_words.specs.Walks.{Pair}
use Rattle.mt_record.specs.Logs.{LogReading, IsReading}
use Rattle.mt_scan.specs.Cutoff.{IsCutoff}
use Rattle.mt_scan.specs.PartScans.{KnownPart, IsKnown}
use Rattle.mt_scan.specs.Choice.{CheckpointReading, IsChosenOf}
use Rattle.mt_replay.specs.Survivors.{wholes, log_survivors}
use Rattle.mt_replay.specs.Walk.{IsWalk}
use Rattle.mt_scan.specs.Segments.{AreWriters, IsGap}

-- the updates of the entries of the chosen checkpoint, if there is one
abbrev pub entry_updates : Option CheckpointReading → List Update
entry_updates None = []
entry_updates (Some checkpoint) = wholes checkpoint.entries

-- the timestamp from which logs are replayed: where the chosen checkpoint begins, or 0 without one
abbrev pub begin_of : Option CheckpointReading → ℕ
begin_of None = 0
begin_of (Some checkpoint) = checkpoint.begin

-- what survives: the log updates in the window, and all updates of the chosen checkpoint
abbrev pub survivors : ℕ → Option CheckpointReading → List (List Logged) → List Update
survivors cutoff chosen logs = log_survivors (record { begin = begin_of chosen; cutoff = cutoff }) logs ++ entry_updates chosen

-- the readings are what the logs say, one reading for each log
abbrev pub AreReadings : List (List ℕ) → List LogReading → Type 0
AreReadings logs readings = AllZip IsReading logs readings

-- what is known of the parts, one item for each part
abbrev pub AreKnown : List (List ℕ) → List KnownPart → Type 0
AreKnown parts known = AllZip IsKnown parts known

-- what recovery finds: what the logs say, where no segment is there twice or torn before the last one, their cutoff, what is known of the parts, and the checkpoint that is chosen among them
pub record Facts (logs parts : List (List ℕ)) : Type 0 where
  pub readings : List LogReading
  pub read : AreReadings logs readings
  pub writers : AreWriters readings
  pub cutoff : ℕ
  pub is_cutoff : IsCutoff readings cutoff
  pub known : List KnownPart
  pub are_known : AreKnown parts known
  pub chosen : Option CheckpointReading
  pub is_chosen : IsChosenOf known cutoff chosen

abbrev pub records_of : List LogReading → List (List Logged)
records_of readings = map (λ log. log.records) readings

-- what recovery stands on: what it finds, where no log has a gap
pub record Basis (logs parts : List (List ℕ)) : Type 0 where
  pub facts : Facts logs parts
  pub no_gap : (i : ℕ) → IsGap (begin_of facts.chosen) facts.readings i → ⊥

-- the store of logs and parts: the pairs are the walk of the survivors
pub record IsStoreOf (logs parts : List (List ℕ)) (pairs : List Pair) : Type 0 where
  pub basis : Basis logs parts
  pub walk : IsWalk (survivors basis.facts.cutoff basis.facts.chosen (records_of basis.facts.readings)) pairs
