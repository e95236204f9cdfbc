-- What replaces a log if a server resumes, and what C is told of it.
use Rattle.std.specs.Prelude.{◌≡◌, ◌≢◌, ◌↔◌, ◌⊎◌, ℕ, List, IsTrue}
use Rattle.mt_record.specs.Opening.{IsSealed}
use Rattle.mt_record.specs.Logs.{LogReading, IsReading, count_of}
use Rattle.mt_record.specs.Resuming.{is_ended, updates_past, marks_past, resumed, Replaces}
use Rattle.mt_c.specs.declared.resuming.Resumed.{Resumed}
use Rattle.mt_c.specs.Buffers.{Writes}
use Rattle.mt_c.specs.Formats.{IsFormatOf}

-- What a function with this status did that writes to a buffer what replaces the log after a recovery with this cutoff. A log
-- of format 4 counts as changed: its blocks begin anew, with the salt.
pub record Resumes (cutoff salt workers : ℕ) (log : List ℕ) (told : Resumed) (before after : List ℕ) (count status : ℕ) : Type 0 where
  pub bytes : List ℕ
  pub is_resumed : Replaces cutoff salt workers log bytes
  pub dropped : (reading : LogReading) → IsReading log reading → told.dropped ≡ count_of (updates_past cutoff reading.records)
  pub late_marks : (reading : LogReading) → IsReading log reading → told.late_marks ≡ count_of (marks_past cutoff reading.records)
  pub format : (reading : LogReading) → IsReading log reading → IsFormatOf log reading.head told.format
  pub changed : IsTrue told.changed ↔ (IsSealed log ⊎ (bytes ≢ log))
  pub ended : (reading : LogReading) → IsReading log reading → told.ended ≡ is_ended (resumed cutoff reading).records
  pub written : Writes bytes before after count status
