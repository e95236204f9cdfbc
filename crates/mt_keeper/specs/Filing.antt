-- The bytes of the files of logs, and the headers of new ones.
use Rattle.std.specs.Prelude.{◌≡◌, ℕ, ◌+◌, ◌-◌, ◌%◌, ◌^◌, min, nat_lt, Bool, true, false, Option, Some, None, List, length, filter}
use Rattle.mt_record.specs.declared.feed.head.Segment.{Segment}
use Rattle.mt_writer.specs.Journals.{Journal, Writer, NewFile, IsFileOf}
use Rattle.mt_keeper.specs.declared.keeper.Stage.{Stage}
use Rattle.mt_keeper.specs.declared.keeper.Stage.TheVariants.{Coming, Writing, Followed, Going, Gone}
use Rattle.mt_keeper.specs.declared.keeper.Log.{Log}
use Rattle.mt_keeper.specs.Keeping.{Keeping}
use Rattle.mt_keeper.specs.Refusals.{IsAt}

-- the log of this number is written, and these are the bytes of its file, as far as it was taken
pub record HasFile (keeper : Keeping) (number : ℕ) (j : Journal) (file : List ℕ) : Type 0 where
  pub writer : Writer
  pub stands : IsAt keeper number (Writing writer)
  pub is_file : IsFileOf writer j file

-- the salt of the file after one with this salt
abbrev pub next_salt : ℕ → ℕ
next_salt salt = (salt + 1) % 2 ^ 64

-- whether this is the newest file of a worker of which a file was created: it is written, or it is to follow a segment that was
abbrev pub has_created : Log → Bool
has_created log = by log.stage log.segment
  where
    by : Stage → Option Segment → Bool
    by (Writing writer) segment = true
    by (Coming new) (Some segment) = nat_lt 0 segment.number
    by (Coming new) None = false
    by (Followed last) segment = false
    by Going segment = false
    by Gone segment = false

-- the number of workers of which a file was created
abbrev pub workers_created : List Log → ℕ
workers_created logs = length (filter has_created logs)

-- The file of this number is to be created, with the salt that was the next one, and this number of workers, or 2 ^ 32 - 1 if that is less. The next salt is another.
pub record BeginsFile (before after : Keeping) (count number : ℕ) : Type 0 where
  pub new : NewFile
  pub stands : IsAt after number (Coming new)
  pub salt : new.header.salt ≡ before.salt
  pub workers : new.header.workers ≡ min count (2 ^ 32 - 1)
  pub next : after.salt ≡ next_salt before.salt
