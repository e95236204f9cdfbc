-- Why a log takes no record.
use Rattle.std.specs.Prelude.{◌≡◌, ◌<◌, ◌≤◌, ◌+◌, ◌⊎◌, ℕ, true, None, length, max}
use Rattle.mt_words.specs.declared.limits.TheConstants.{LONGEST_KEY}
use Rattle.mt_words.specs.declared.record.Change.{Change}
use Rattle.mt_words.specs.Limits.{widest}
use Rattle.mt_words.specs.Changes.{Logged, AllowsKind}
use Rattle.mt_block.specs.declared.block.TheConstants.{SMALL_BODY, FRAME_BYTES}
use Rattle.mt_record.specs.declared.read.TheConstants.{MOST_BYTES}
use Rattle.mt_record.specs.Resuming.{greatest_timestamp}
use Rattle.mt_record.specs.Spelling.{spelling}
use Rattle.mt_writer.specs.declared.log_writer.TheConstants.{LONGEST_RECORD}
use Rattle.mt_writer.specs.declared.writer_fault.WriterFault.{WriterFault}
use Rattle.mt_writer.specs.declared.writer_fault.WriterFault.TheVariants as faults
use Rattle.mt_writer.specs.Journals.{Writer}

-- the log was ended, or the time is the greatest
abbrev pub HasEnded : Writer → ℕ → Type 0
HasEnded w now = greatest_timestamp ≤ max w.last now

-- the longest record still fits into the file
abbrev pub HasRoom : Writer → Type 0
HasRoom w = w.size + w.frames + FRAME_BYTES + LONGEST_RECORD ≤ MOST_BYTES

-- the writer takes no record, by this fault, where the first fact says that the log has ended
abbrev pub IsClosed : Writer → (ended : Type 0) → WriterFault → Type 0
IsClosed w ended faults.Failed = w.failed ≡ true
IsClosed w ended faults.Ended = ended
IsClosed w ended faults.Full = MOST_BYTES < w.size + w.frames + FRAME_BYTES + LONGEST_RECORD
IsClosed w ended faults.Untaken = ⊥
IsClosed w ended faults.Version = ⊥
IsClosed w ended faults.Key = ⊥
IsClosed w ended faults.Columns = ⊥
IsClosed w ended faults.Memory = ⊥

-- the writer does not take this record now, by this fault: some are held, and with it their block would not be small; or there is no memory
abbrev pub IsLeftOut : Writer → Logged → WriterFault → Type 0
IsLeftOut w r faults.Failed = ⊥
IsLeftOut w r faults.Ended = ⊥
IsLeftOut w r faults.Full = ⊥
IsLeftOut w r faults.Untaken = (0 < length w.buffer) × (SMALL_BODY < length w.buffer + length (spelling r))
IsLeftOut w r faults.Version = ⊥
IsLeftOut w r faults.Key = ⊥
IsLeftOut w r faults.Columns = ⊥
IsLeftOut w r faults.Memory = Unit {0}

-- the writer does not take the record, by this fault
abbrev pub IsRefused : Writer → (ended : Type 0) → Logged → WriterFault → Type 0
IsRefused w ended r fault = IsClosed w ended fault ⊎ IsLeftOut w r fault

-- the file may not be sealed: a write or a sync failed, or it is no segment, or it is not synced whole
abbrev pub MayNotSeal : Writer → Type 0
MayNotSeal w = (w.failed ≡ true) ⊎ ((w.segment ≡ None) ⊎ (w.synced_size ≡ w.size → ⊥))

-- no log may have the change, by this fault
abbrev pub IsUnlawful : Change → WriterFault → Type 0
IsUnlawful change faults.Failed = ⊥
IsUnlawful change faults.Ended = ⊥
IsUnlawful change faults.Full = ⊥
IsUnlawful change faults.Untaken = ⊥
IsUnlawful change faults.Version = change.version ≡ 0
IsUnlawful change faults.Key = LONGEST_KEY < length change.key
IsUnlawful change faults.Columns = AllowsKind widest change.kind → ⊥
IsUnlawful change faults.Memory = ⊥
