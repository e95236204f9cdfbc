-- Resuming after a crash: every state on the way, and what comes after.
use Rattle.std.specs.Prelude.{◌≡◌, ℕ, ◌<◌, ◌≤◌, ◌↔◌, ◌⊎◌, Bool, Option, Some, IfSome, Contains, IsPermutation, List, [], ◌++◌, length}
use Rattle.std.specs.List.{AllZip}
use Rattle.mt_words.specs.declared.update.Update.{Update}
use Rattle.mt_words.specs.Changes.{Logged}
use Rattle.mt_record.specs.Logs.{LogReading, IsReading}
use Rattle.mt_record.specs.Parts.{PartReading}
use Rattle.mt_record.specs.Resuming.{resumed}
use Rattle.mt_scan.specs.PartScans.{KnownPart, whole, broken}
use Rattle.mt_scan.specs.Choice.{CheckpointReading, parts_of, IsValid}
use Rattle.mt_replay.specs.Survivors.{log_updates}
use Rattle.mt_scan.specs.Segments.{IsGap}
use Rattle.mt_recover.specs.Recovery.{AreKnown, Facts, begin_of, survivors, records_of}

-- the file after says what replaces the log of the file before; either has any format
pub record IsReplaced (cutoff : ℕ) (before after : List ℕ) : Type 0 where
  pub log : LogReading
  pub is_reading : IsReading before log
  pub says : IsReading after (resumed cutoff log)

-- the log is as it was, or it is replaced
abbrev pub IsSameOrResumed : ℕ → List ℕ → List ℕ → Type 0
IsSameOrResumed cutoff before after = (after ≡ before) ⊎ IsReplaced cutoff before after

-- ---- every state on the way

-- the chosen checkpoint is valid still, and no checkpoint is that was not
pub record NoneBecomesValid (chosen : Option CheckpointReading) (before after : List KnownPart) : Type 0 where
  pub stays : IfSome chosen (IsValid after)
  pub none_new : (checkpoint : CheckpointReading) → IsValid after checkpoint → IsValid before checkpoint

-- A state on the way, of the logs and of the parts: each log is as it was, or replaced at the cutoff that recovery found. Parts may be gone, but the chosen
-- checkpoint is valid still, and no checkpoint is that was not.
pub record IsOnTheWay {logs parts : List (List ℕ)} (facts : Facts logs parts) (now left : List (List ℕ)) : Type 0 where
  pub each : AllZip (IsSameOrResumed facts.cutoff) logs now
  pub known : List KnownPart
  pub are_known : AreKnown left known
  pub checkpoints : NoneBecomesValid facts.chosen facts.known known

-- recovery finds the same cutoff and the same checkpoint, and the same updates survive
pub record FindTheSame {logs parts now left : List (List ℕ)} (before : Facts logs parts) (after : Facts now left) : Type 0 where
  pub cutoff : after.cutoff ≡ before.cutoff
  pub chosen : after.chosen ≡ before.chosen
  pub survivors : survivors after.cutoff after.chosen (records_of after.readings) ≡ survivors before.cutoff before.chosen (records_of before.readings)

-- ---- deleting checkpoints

-- How far the deletion of the parts with one number may be: none of them is gone; or some are, and there were not too many, so that each complete part names
-- at least as many as there were; or a broken part with the number is left; or none is left.
pub data IsDeleting (number : ℕ) (before after : List KnownPart) : Type 0 where
  none_gone : IsPermutation (parts_of number before) (parts_of number after) → IsDeleting number before after
  some_gone : (gone : List KnownPart) → ((part : PartReading) → Contains (parts_of number before) (whole part) → length (parts_of number before) ≤ part.parts)
      → IsPermutation (parts_of number before) (parts_of number after ++ gone) → IsDeleting number before after
  over_broken : (entries : ℕ) → Contains after (broken number entries) → IsDeleting number before after
  all_gone : parts_of number after ≡ [] → IsDeleting number before after

-- The parts of the chosen checkpoint are kept, with no other part of its number. Those of each other number are deleted by the rule.
pub record AreDeleting (chosen : Option CheckpointReading) (before after : List KnownPart) : Type 0 where
  pub kept : IfSome chosen (λ checkpoint. IsPermutation (parts_of checkpoint.number before) (parts_of checkpoint.number after))
  pub others : (number : ℕ) → IsDeleting number before after

-- ---- after a resume

-- The whole resume, of the logs and of the parts: each log is replaced, and the chosen checkpoint is the only valid one.
pub record IsResume {logs parts : List (List ℕ)} (facts : Facts logs parts) (replaced left : List (List ℕ)) : Type 0 where
  pub each : AllZip (IsReplaced facts.cutoff) logs replaced
  pub known : List KnownPart
  pub are_known : AreKnown left known
  pub stays : IfSome facts.chosen (IsValid known)
  pub no_other : (checkpoint : CheckpointReading) → IsValid known checkpoint → facts.chosen ≡ Some checkpoint

-- the bytes after are those of the log before, of further records, and perhaps of a torn tail
pub record IsContinued (before after : List ℕ) : Type 0 where
  pub log : LogReading
  pub is_reading : IsReading before log
  pub new : List Logged
  pub torn : Bool
  pub is_after : IsReading after (record log { records = log.records ++ new; torn = torn })

-- an update of these logs, at or past the first timestamp and below the second
abbrev pub IsUpdateWithin : ℕ → ℕ → List LogReading → Update → Type 0
IsUpdateWithin low high logs u = Contains (log_updates (records_of logs)) u × (low ≤ u.timestamp) × (u.timestamp < high)

-- Recovery goes on from what it found before: the cutoff does not fall, the same checkpoint is chosen, and no log has a gap. Exactly those updates survive
-- that did before, and those of the logs from the cutoff before on, below the cutoff now.
pub record GoesOnFrom {logs parts later left : List (List ℕ)} (before : Facts logs parts) (now : Facts later left) : Type 0 where
  pub cutoff : before.cutoff ≤ now.cutoff
  pub chosen : now.chosen ≡ before.chosen
  pub no_gap : (i : ℕ) → IsGap (begin_of now.chosen) now.readings i → ⊥
  pub survivors : (u : Update) → Contains (survivors now.cutoff now.chosen (records_of now.readings)) u
      ↔ Contains (survivors before.cutoff before.chosen (records_of before.readings)) u ⊎ IsUpdateWithin before.cutoff now.cutoff now.readings u
