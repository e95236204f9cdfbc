-- Logs that are lent to threads, what the threads do with them, and the order of all that they did.
use Rattle.std.specs.Prelude.{◌≡◌, ℕ, zero, suc, ◌+◌, ◌-◌, ◌⊎◌, ◌<◌, ◌%◌, ◌^◌, ◌==◌, ◌||◌, Bool, false, min, max, Option, Some, None, List, [], ◌∷◌, length, map, sum_by, slice_get, slice_index, if◌then◌else◌}
use Rattle.atomic_table.specs.Seated.{TableId}
use Rattle.mt_shared.specs.declared.known.Act.{Act}
use Rattle.mt_words.specs.declared.record.Change.{Change}
use Rattle.mt_words.specs.Changes.{changed}
use Rattle.mt_words.specs.Built.{mark_of}
use Rattle.mt_record.specs.declared.feed.head.Segment.{Segment}
use Rattle.mt_writer.specs.Journals.{Journal, Writer, Keeps, holding, taking, syncing}
use Rattle.mt_laws.specs.Writing.{Server, files_there, AllReached, IsCall, Called}
use Rattle.mt_keeper.specs.declared.keeper.Stage.TheVariants.{Coming, Writing, Followed, Going, Gone}
use Rattle.mt_keeper.specs.declared.keeper.Stage.{Stage}
use Rattle.mt_keeper.specs.declared.keeper.Log.{Log}
use Rattle.mt_keeper.specs.declared.crew.TheConstants.{MOST_STAMPS}
use Rattle.mt_keeper.specs.Keeping.{Keeping, Holds, reach_in}
use Rattle.mt_keeper.specs.Calling.{appended, counted_up, with_taken, with_synced}

-- ---- lent logs

-- a crew: its shared words, and the keeper that lent it logs
pub record CrewView : Type 0 where
  pub table : TableId
  pub before : Keeping
  -- the numbers of the lent logs
  pub numbers : List ℕ

-- a lent log: of which crew it is, its place among the lent ones, its number, its file, what was done at the shared words, and how many stamps are left
pub record LentView : Type 0 where
  pub table : TableId
  pub place : ℕ
  pub number : ℕ
  pub segment : Option Segment
  pub from : ℕ
  pub writer : Writer
  pub acts : List Act
  pub left : ℕ
  pub failed : Bool

-- the log, with this writer
abbrev pub log_with : LentView → Writer → Log
log_with lent writer = record { segment = lent.segment; from = lent.from; stage = Writing writer }

-- how far a log is synced, or the greatest number if it is not its newest file
abbrev pub or_most : Option ℕ → ℕ
or_most (Some reach) = reach
or_most None = 2 ^ 64 - 1

abbrev pub reach_of : Log → ℕ
reach_of log = or_most (reach_in log.stage)

-- the shared words: the clock, and then how far each log is synced
abbrev pub words_of : Keeping → List ℕ
words_of keeper = keeper.clock ∷ map reach_of keeper.logs

-- ---- what a thread does

-- What a thread does with its log. A change is appended at a stamp that it drew, which is its version; or the stamp is spent, and nothing is appended. A mark is appended. Bytes
-- are taken, and synced. A shared word is read. The clock is read after how far each log is synced, and so it is known what may be acknowledged.
pub data Deed : Type 0 where
  wrote : Change → Deed
  spent : Deed
  marked : (time : ℕ) → Deed
  took : Deed
  synced : Deed
  looked : Deed
  asked : (below : ℕ) → Deed

-- a log while a thread has it: its writer; and how many reaches were read since the last answer, and the least of them
pub record Held : Type 0 where
  pub writer : Writer
  pub seen : ℕ
  pub least : ℕ

abbrev pub resting : Writer → Held
resting writer = record { writer = writer; seen = 0; least = 2 ^ 64 - 1 }

-- a stamp is drawn: the clock goes on by one
pub record IsDraw (a : Act) : Type 0 where
  pub word : a.word ≡ 0
  pub left : a.left ≡ (a.found + 1) % 2 ^ 64

-- this word is read
pub record IsLook (at : ℕ) (a : Act) : Type 0 where
  pub word : a.word ≡ at
  pub left : a.left ≡ a.found

-- another writer has the log: whatever journal the one keeps, the other keeps it changed like this
pub record Goes (change : Journal → Journal) (before after : Held) : Type 0 where
  pub kept : (j : Journal) → Keeps before.writer j → before.writer.failed ≡ false → Keeps after.writer (change j)
  pub failed : after.writer.failed ≡ before.writer.failed
  pub same : after ≡ record before { writer = after.writer }

-- the next reach is read
pub record Sees (logs : ℕ) (before : Held) (a : Act) (after : Held) : Type 0 where
  pub word : a.word ≡ before.seen + 1
  pub more : before.seen < logs
  pub after_is : after ≡ record before { seen = before.seen + 1; least = min before.least a.found }

-- the deed of a log of this number, of so many logs, with its act on the shared words
abbrev pub Does : (logs number : ℕ) → Held → Deed → Act → Held → Type 0
Does logs number before (wrote change) a after = IsDraw a × (change.version ≡ a.found + 1) × Goes (λ j. holding j (changed (max before.writer.last change.version) change)) before after
Does logs number before spent a after = IsDraw a × (after ≡ before)
Does logs number before (marked time) a after = IsLook 0 a × (time ≡ max before.writer.last (a.found + 1)) × Goes (λ j. holding j (mark_of time)) before after
Does logs number before took a after = IsLook 0 a × Goes taking before after
Does logs number before synced a after = (a.word ≡ number + 1) × (a.left ≡ after.writer.reach) × Goes syncing before after
Does logs number before looked a after = (a.left ≡ a.found) × ((after ≡ before) ⊎ Sees logs before a after)
Does logs number before (asked below) a after = IsLook 0 a × (before.seen ≡ logs) × (below ≡ min before.least (min (a.found + 1) (2 ^ 64 - 1))) × (after ≡ resting before.writer)

-- the deeds, one after the other, each with its act
abbrev pub Works : (logs number : ℕ) → Held → List Deed → List Act → Held → Type 0
Works logs number before [] [] after = after ≡ before
Works logs number before (d ∷ deeds) (a ∷ acts) after = (next : Held) × Does logs number before d a next × Works logs number next deeds acts after
Works logs number before deeds acts after = ⊥

-- 1 if the deed draws a stamp
abbrev pub draws : Deed → ℕ
draws (wrote change) = 1
draws spent = 1
draws (marked time) = 0
draws took = 0
draws synced = 0
draws looked = 0
draws (asked below) = 0

-- with this log, lent by this keeper, its thread has done these deeds, and holds it like this
pub record IsDoing (before : Keeping) (lent : LentView) (deeds : List Deed) (held : Held) : Type 0 where
  pub start : Writer
  pub was : slice_get before.logs lent.number ≡ Some (log_with lent start)
  pub works : Works (length before.logs) lent.number (resting start) deeds lent.acts held
  pub few : sum_by draws deeds + lent.left ≡ MOST_STAMPS

-- with this log, its thread has done these deeds
abbrev pub HasDone : Keeping → LentView → List Deed → Type 0
HasDone before lent deeds = IsDoing before lent deeds (resting lent.writer)

-- ---- the order of all that threads did

-- the server after a deed of the log of this number
abbrev pub after_deed : ℕ → Deed → Server → Server
after_deed number (wrote change) s = appended s number (changed change.version change)
after_deed number spent s = counted_up s
after_deed number (marked time) s = appended s number (mark_of time)
after_deed number took s = with_taken s number
after_deed number synced s = with_synced s number
after_deed number looked s = s
after_deed number (asked below) s = s

-- The deed is a call of the server. An answer is a reach that is true of each log, so an update below it may be acknowledged then.
abbrev pub IsDeed : ℕ → Deed → Server → Type 0
IsDeed number looked s = Unit {0}
IsDeed number (asked below) s = AllReached below (files_there s)
IsDeed number deed s = IsCall s (after_deed number deed s)

-- the deeds, each of the log at this place, lead from the one server to the other, as these numbers of the logs say
abbrev pub AreDeeds : List ℕ → List (ℕ × Deed) → Server → Server → Type 0
AreDeeds numbers [] s after = after ≡ s
AreDeeds numbers (d ∷ order) s after = IsDeed (slice_index numbers d.0) d.1 s × AreDeeds numbers order (after_deed (slice_index numbers d.0) d.1 s) after

-- the deeds of the log at this place
abbrev pub deeds_by : ℕ → List (ℕ × Deed) → List Deed
deeds_by k [] = []
deeds_by k (d ∷ order) = if d.0 == k then d.1 ∷ deeds_by k order else deeds_by k order

-- the k-th deeds, or none
abbrev pub deeds_at : ℕ → List (List Deed) → List Deed
deeds_at k [] = []
deeds_at zero (deeds ∷ more) = deeds
deeds_at (suc k) (deeds ∷ more) = deeds_at k more

-- All that threads did with logs has one order: it leads, by calls, from this server to one that the keeper holds, and has the deeds of each log in their order. So the one is a
-- server after any calls if the other is.
pub record HaveOneOrder (numbers : List ℕ) (deeds : List (List Deed)) (s : Server) (keeper : Keeping) : Type 0 where
  pub order : List (ℕ × Deed)
  pub after : Server
  pub calls : AreDeeds numbers order s after
  pub called : Called s → Called after
  pub holds : Holds keeper after
  pub each : (k : ℕ) → deeds_by k order ≡ deeds_at k deeds

-- whether a write or a sync of one of the logs failed
abbrev pub have_failed : List LentView → Bool
have_failed [] = false
have_failed (lent ∷ lents) = lent.failed || have_failed lents

-- the numbers of the logs that are written, from this number on
abbrev pub if_writing : Stage → ℕ → List ℕ → List ℕ
if_writing (Writing writer) number rest = number ∷ rest
if_writing (Coming new) number rest = rest
if_writing (Followed last) number rest = rest
if_writing Going number rest = rest
if_writing Gone number rest = rest

abbrev pub written_from : ℕ → List Log → List ℕ
written_from number [] = []
written_from number (log ∷ logs) = if_writing log.stage number (written_from (suc number) logs)
