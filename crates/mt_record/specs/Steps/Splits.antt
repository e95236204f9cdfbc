-- Splitting the records of a log at a cutoff.
use Rattle.std.specs.Prelude.{◌≡◌, ℕ, ◌⊎◌, List, [], ◌++◌, length}
use Rattle.std.specs.List.{flat_map}
use Rattle.mt_words.specs.declared.limits.Format.{Format}
use Rattle.mt_words.specs.Limits.{limits_of}
use Rattle.mt_words.specs.Changes.{Logged}
use Rattle.mt_record.specs.declared.resume.Split.{Split}
use Rattle.mt_record.specs.Spelling.{spelling}
use Rattle.mt_record.specs.Logs.{AreRecords, IsTorn, count_of}
use Rattle.mt_record.specs.Resuming.{is_ended, below, updates_past, marks_past}

-- the split has the number of bytes of the records below the cutoff, those of the updates and of the marks at or past it, and whether the log is ended
pub record IsSplitOf (cutoff : ℕ) (records : List Logged) (split : Split) : Type 0 where
  pub kept : split.kept ≡ length (flat_map spelling (below cutoff records))
  pub dropped : split.dropped ≡ count_of (updates_past cutoff records)
  pub late_marks : split.late_marks ≡ count_of (marks_past cutoff records)
  pub ended : split.ended ≡ is_ended records

-- the bytes are lawful records and perhaps a torn tail, and this is their split
pub record IsSplitIn (format : Format) (cutoff : ℕ) (bytes : List ℕ) (split : Split) : Type 0 where
  pub records : List Logged
  pub tail : List ℕ
  pub spelled : bytes ≡ flat_map spelling records ++ tail
  pub lawful : AreRecords (limits_of format) 0 records
  pub ends : (tail ≡ []) ⊎ IsTorn (limits_of format) tail
  pub is_split : IsSplitOf cutoff records split
