-- When a keeper refuses a call.
use Rattle.std.specs.Prelude.{◌≡◌, ℕ, suc, ◌+◌, ◌≤◌, ◌⊎◌, ◌^◌, ◌%◌, ◌++◌, Option, Some, None, [], ◌∷◌, ◌<◌, false, length, max, IsSome, IsTrue, slice_get}
use Rattle.mt_words.specs.declared.record.Change.{Change}
use Rattle.mt_words.specs.Changes.{changed}
use Rattle.mt_words.specs.Built.{mark_of}
use Rattle.mt_shared.specs.declared.known.Act.{Act}
use Rattle.mt_shared.specs.Words.{act}
use Rattle.mt_record.specs.declared.feed.head.Segment.{Segment}
use Rattle.mt_record.specs.Resuming.{greatest_timestamp}
use Rattle.mt_writer.specs.declared.writer_fault.WriterFault.{WriterFault}
use Rattle.mt_writer.specs.declared.writer_fault.WriterFault.TheVariants.{Failed, Ended, Full, Memory}
use Rattle.mt_writer.specs.Journals.{Journal, Writer, NewFile, Keeps}
use Rattle.mt_writer.specs.Refusing.{HasEnded, IsRefused, IsUnlawful, MayNotSeal}
use Rattle.mt_laws.specs.Writing.{writing, Server}
use Rattle.mt_keeper.specs.declared.keeper.Stage.{Stage}
use Rattle.mt_keeper.specs.declared.keeper.Stage.TheVariants.{Coming, Writing, Going}
use Rattle.mt_keeper.specs.declared.keeper.Log.{Log}
use Rattle.mt_keeper.specs.Keeping.{Keeping, numbered, IsReading, HasRead, ArePast}
use Rattle.mt_keeper.specs.Crews.{LentView}
use Rattle.mt_keeper.specs.declared.crew.TheConstants.{MOST_LOGS, LATEST_LENT}
use Rattle.mt_keeper.specs.declared.keeper_fault.KeeperFault.{KeeperFault}
use Rattle.mt_keeper.specs.declared.keeper_fault.KeeperFault.TheVariants as faults

-- the log of this number is in this stage
pub record IsAt (keeper : Keeping) (number : ℕ) (stage : Stage) : Type 0 where
  pub log : Log
  pub stands : slice_get keeper.logs number ≡ Some log
  pub is : log.stage ≡ stage

-- a write or a sync failed before
abbrev pub HasFailed : Keeping → KeeperFault → Type 0
HasFailed keeper fault = (fault ≡ faults.Writer Failed) × IsTrue keeper.failed

-- no stamp is left
abbrev pub HasNoStamp : Keeping → KeeperFault → Type 0
HasNoStamp keeper fault = (fault ≡ faults.Writer Ended) × (greatest_timestamp ≤ suc keeper.clock)

-- there is no such log, or it is not written
abbrev pub IsNotWritten : Keeping → (number : ℕ) → KeeperFault → Type 0
IsNotWritten keeper number fault = (fault ≡ faults.Log) × ((w : Writer) → IsAt keeper number (Writing w) → ⊥)

-- there is no such log, or it is not to be created
abbrev pub IsNotComing : Keeping → (number : ℕ) → KeeperFault → Type 0
IsNotComing keeper number fault = (fault ≡ faults.Log) × ((new : NewFile) → IsAt keeper number (Coming new) → ⊥)

-- the log is written, and its writer refuses
abbrev pub HasRefused : Keeping → (number : ℕ) → (Writer → WriterFault → Type 0) → KeeperFault → Type 0
HasRefused keeper number Refuses fault = (w : Writer) × (reason : WriterFault) × IsAt keeper number (Writing w) × (fault ≡ faults.Writer reason) × Refuses w reason

-- why the log takes no record at the next stamp
abbrev pub TakesNot : Keeping → (number : ℕ) → (Writer → WriterFault → Type 0) → KeeperFault → Type 0
TakesNot keeper number Refuses fault = HasFailed keeper fault ⊎ (HasNoStamp keeper fault ⊎ (IsNotWritten keeper number fault ⊎ HasRefused keeper number Refuses fault))

-- the writer takes no mark at this time
abbrev pub NoMark : ℕ → Writer → WriterFault → Type 0
NoMark time w reason = IsRefused w (HasEnded w time) (mark_of (max w.last time)) reason

-- the writer takes no such change at this time
abbrev pub NoChange : ℕ → Change → Writer → WriterFault → Type 0
NoChange time change w reason = IsRefused w (HasEnded w time) (changed (max w.last time) change) reason ⊎ IsUnlawful change reason

-- a write of the log was not told to be synced
abbrev pub IsInFlight : Server → (number : ℕ) → KeeperFault → Type 0
IsInFlight s number fault = (fault ≡ faults.Early) × (j : Journal) × (slice_get (numbered s) number ≡ Some (writing j)) × (j.taken ≡ [] → ⊥)

-- no log may be begun: no number is left for a worker, or there is no memory
abbrev pub BeginsNone : Keeping → KeeperFault → Type 0
BeginsNone keeper fault = HasFailed keeper fault ⊎ (HasNoStamp keeper fault
    ⊎ ((fault ≡ faults.Writer Full) × (keeper.workers + 1 ≡ 2 ^ 32) ⊎ (fault ≡ faults.Writer Memory)))

-- there is no such log, or it is not being deleted
abbrev pub IsNotGoing : Keeping → (number : ℕ) → KeeperFault → Type 0
IsNotGoing keeper number fault = (fault ≡ faults.Log) × (IsAt keeper number Going → ⊥)

-- the log is a segment that is written
abbrev pub IsWrittenSegment : Option Log → Writer → Segment → Type 0
IsWrittenSegment None w segment = ⊥
IsWrittenSegment (Some log) w segment = (log.stage ≡ Writing w) × (log.segment ≡ Some segment)

-- no segment may follow the log: it is no segment that is written, or no number is left, or there is no memory
abbrev pub HasNoNext : Option Log → KeeperFault → Type 0
HasNoNext log fault = (fault ≡ faults.Log) × ((w : Writer) (segment : Segment) → IsWrittenSegment log w segment → ⊥)
    ⊎ ((fault ≡ faults.Writer Full) × ((w : Writer) × (segment : Segment) × IsWrittenSegment log w segment × (segment.number + 1 ≡ 2 ^ 32))
    ⊎ (fault ≡ faults.Writer Memory))

-- the log's writer may not be sealed
abbrev pub IsUnsealable : Log → KeeperFault → Type 0
IsUnsealable log fault = (fault ≡ faults.Early) × (w : Writer) × (segment : Segment) × IsWrittenSegment (Some log) w segment × MayNotSeal w

-- not all records of the log are synced
abbrev pub IsNotWhole : Server → (number : ℕ) → KeeperFault → Type 0
IsNotWhole s number fault = (fault ≡ faults.Early) × (j : Journal) × (slice_get (numbered s) number ≡ Some (writing j)) × (j.taken ++ j.held ≡ [] → ⊥)

-- a checkpoint is being made
abbrev pub IsMaking : Keeping → KeeperFault → Type 0
IsMaking keeper fault = (fault ≡ faults.Early) × IsSome keeper.making

-- no number is left for a checkpoint
abbrev pub HasNoNumber : Keeping → KeeperFault → Type 0
HasNoNumber keeper fault = (fault ≡ faults.Writer Full) × (keeper.next + 1 ≡ 2 ^ 32)

-- no checkpoint is being read
abbrev pub ReadsNone : Keeping → KeeperFault → Type 0
ReadsNone keeper fault = (fault ≡ faults.Early) × ((begin : ℕ) → IsReading keeper.making begin → ⊥)

-- no checkpoint was read, or some log is not synced past its end
abbrev pub MayNotStand : Keeping → KeeperFault → Type 0
MayNotStand keeper fault = (fault ≡ faults.Early) × ((begin end : ℕ) → HasRead keeper.making begin end → ArePast end keeper.logs → ⊥)

-- ---- lent logs

-- why a keeper lends no logs: the last stamp is too late, or there are too many logs, or there is no memory
abbrev pub LendsNone : Keeping → KeeperFault → Type 0
LendsNone keeper fault = HasFailed keeper fault ⊎ ((fault ≡ faults.Writer Ended) × (LATEST_LENT ≤ keeper.clock)
    ⊎ ((fault ≡ faults.Writer Full) × (MOST_LOGS < length keeper.logs) ⊎ (fault ≡ faults.Writer Memory)))

-- a write or a sync of the log failed before
abbrev pub LentHasFailed : LentView → KeeperFault → Type 0
LentHasFailed lent fault = (fault ≡ faults.Writer Failed) × IsTrue lent.failed

-- the log has drawn all its stamps
abbrev pub DrawsNone : LentView → KeeperFault → Type 0
DrawsNone lent fault = (fault ≡ faults.Writer Ended) × (lent.left ≡ 0)

-- a stamp is drawn from this clock
abbrev pub draw : (clock : ℕ) → Act
draw clock = act 0 clock ((clock + 1) % 2 ^ 64)

-- this clock is read
abbrev pub look : (clock : ℕ) → Act
look clock = act 0 clock clock

-- the log's writer refuses, at the stamp after the clock that the log found just now
pub record LentRefuses (finds : ℕ → Act) (Refuses : ℕ → Writer → WriterFault → Type 0) (before after : LentView) (fault : KeeperFault) : Type 0 where
  pub clock : ℕ
  pub acts : after.acts ≡ before.acts ++ finds clock ∷ []
  pub reason : WriterFault
  pub fault_is : fault ≡ faults.Writer reason
  pub refuses : Refuses (clock + 1) before.writer reason

-- why a lent log takes no such change, which has its stamp as its version
abbrev pub LentTakesNot : (ℕ → Change) → (before after : LentView) → KeeperFault → Type 0
LentTakesNot change before after fault = LentHasFailed before fault ⊎ (DrawsNone before fault ⊎ LentRefuses draw (λ stamp. NoChange stamp (change stamp)) before after fault)

-- why a lent log takes no mark
abbrev pub LentMarksNot : (before after : LentView) → KeeperFault → Type 0
LentMarksNot before after fault = LentHasFailed before fault ⊎ LentRefuses look NoMark before after fault

-- a write of the log was not told to be synced
abbrev pub IsLentInFlight : LentView → KeeperFault → Type 0
IsLentInFlight lent fault = (fault ≡ faults.Early) × ((j : Journal) → Keeps lent.writer j → lent.writer.failed ≡ false → j.taken ≡ [] → ⊥)

-- the keeper has no log of this number
abbrev pub IsNoLog : (logs : ℕ) → LentView → KeeperFault → Type 0
IsNoLog logs lent fault = (fault ≡ faults.Log) × (logs ≤ lent.number)
