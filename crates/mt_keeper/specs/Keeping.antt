-- The server that a keeper holds: its clock, and a slot for each log.
use Rattle.std.specs.Prelude.{◌≡◌, ℕ, ◌+◌, ◌≤◌, ◌<◌, Bool, true, false, Option, Some, None, IfSome, List, [], length, map, All, Contains, slice_get, slice_index_or, nat_eq}
use Rattle.std.specs.List.{AllZip, IsDistinct}
use Rattle.mt_words.specs.declared.update.Update.{Update}
use Rattle.mt_record.specs.declared.feed.head.Segment.{Segment}
use Rattle.mt_record.specs.declared.feed.head.Head.{Head}
use Rattle.mt_record.specs.Encoding.{segment_head}
use Rattle.mt_scan.specs.Segments.{IsEarlier, IsJustBefore}
use Rattle.mt_writer.specs.Files.{OpenFile}
use Rattle.mt_writer.specs.Journals.{Journal, Writer, NewFile, Keeps, begun, Begins, IsSealed}
use Rattle.mt_scan.specs.Choice.{CheckpointReading}
use Rattle.mt_recover.specs.Recovery.{begin_of}
use Rattle.mt_laws.specs.Lives.{Checkpoints, there}
use Rattle.mt_laws.specs.Writing.{Slot, coming, writing, sealed, going, gone, log_of, Server}
use Rattle.mt_keeper.specs.declared.keeper.Stage.{Stage}
use Rattle.mt_keeper.specs.declared.keeper.Stage.TheVariants.{Coming, Writing, Followed, Going, Gone}
use Rattle.mt_keeper.specs.declared.keeper.Log.{Log}
use Rattle.mt_keeper.specs.declared.keeper.Making.{Making}

-- what a contract sees of a keeper
pub record Keeping : Type 0 where
  -- the last stamp
  pub clock : ℕ
  pub logs : List Log
  -- the number of the next worker
  pub workers : ℕ
  -- the begin of the checkpoint that the server stands on, or 0
  pub base : ℕ
  pub making : Option Making
  -- the number of the next checkpoint
  pub next : ℕ
  -- the salt of the next file
  pub salt : ℕ
  -- whether a write or a sync failed
  pub failed : Bool

-- the slot at this place
abbrev pub slot_in : List Slot → ℕ → Slot
slot_in slots place = slice_index_or slots place (gone [])

-- the files that calls name by a number, in the order of the numbers
abbrev pub numbered : Server → List Slot
numbered s = map (slot_in s.slots) s.places

-- each number has a place of its own, where a slot is, and each file that is there has a number
pub record AreNumbered (slots : List Slot) (places : List ℕ) : Type 0 where
  pub apart : IsDistinct nat_eq places
  pub within : (place : ℕ) → Contains places place → place < length slots
  pub all : (place : ℕ) (file : OpenFile) → place < length slots → log_of (slot_in slots place) ≡ there file → Contains places place

-- the file is a sealed segment with this last timestamp
abbrev pub IsWhole : ℕ → Journal → Type 0
IsWhole last j = (worker : ℕ) × (number : ℕ) × IsSealed last worker number j

-- the slot is in this stage, and its file is what is kept of it
abbrev pub IsInStage : Stage → Slot → Type 0
IsInStage (Coming new) (coming j) = (head : Head) × Begins new head × (j ≡ begun head new.mark)
IsInStage (Writing writer) (writing j) = Keeps writer j × (writer.failed ≡ false)
IsInStage (Followed last) (sealed j) = IsWhole last j
IsInStage Going (going j) = (last : ℕ) × IsWhole last j
IsInStage Gone (gone records) = Unit {0}
IsInStage stage slot = ⊥

-- the last timestamp of the file
abbrev pub latest_in : Stage → ℕ
latest_in (Coming new) = new.mark
latest_in (Writing writer) = writer.last
latest_in (Followed last) = last
latest_in Going = 0
latest_in Gone = 0

-- the segment that the file is, if it is there and is one
abbrev pub segment_in : Slot → Option Segment
segment_in (coming j) = j.head.segment
segment_in (writing j) = j.head.segment
segment_in (sealed j) = j.head.segment
segment_in (going j) = j.head.segment
segment_in (gone records) = None

-- the `from` of the file, if it is there
abbrev pub from_in : Slot → ℕ
from_in (coming j) = j.head.from
from_in (writing j) = j.head.from
from_in (sealed j) = j.head.from
from_in (going j) = j.head.from
from_in (gone records) = 0

-- the log keeps the slot, and has no timestamp above the next stamp
pub record IsLogOf (clock : ℕ) (log : Log) (slot : Slot) : Type 0 where
  pub stage : IsInStage log.stage slot
  pub segment : log.segment ≡ segment_in slot
  pub from : log.from ≡ from_in slot
  pub latest : latest_in log.stage ≤ clock + 1

-- The file is sealed, and its next segment is to be created. It is a segment with the last timestamp at which the next one begins.
pub record IsFollowedBy (before after next : Log) : Type 0 where
  pub writer : Writer
  pub new : NewFile
  pub segment : Segment
  pub written : before.stage ≡ Writing writer
  pub was : before.segment ≡ Some segment
  pub whole : (j : Journal) → Keeps writer j → j.head.segment ≡ Some segment → IsSealed new.mark segment.worker segment.number j
  pub last : new.mark ≡ writer.last
  pub begins : Begins new (segment_head new.mark segment.worker (segment.number + 1))
  pub after_is : after ≡ record before { stage = Followed new.mark }
  pub next_is : next ≡ record { segment = Some (record { worker = segment.worker; number = segment.number + 1 }); from = new.mark; stage = Coming new }

-- whether the file is the newest of its log
abbrev pub is_newest : Stage → Bool
is_newest (Coming new) = true
is_newest (Writing writer) = true
is_newest (Followed last) = false
is_newest Going = false
is_newest Gone = false

abbrev pub Place : Type 0
Place = Bool × Option Segment

abbrev pub place_of : Log → Place
place_of log = (is_newest log.stage, log.segment)

-- the worker of each segment is below `workers`, and an older segment has a newest one
pub record AreInPlace (workers : ℕ) (places : List Place) : Type 0 where
  pub known : (place : Place) → Contains places place → IfSome place.1 (λ segment. segment.worker < workers)
  pub followed : (segment : Segment) → Contains places (false, Some segment) → (later : Option Segment) × Contains places (true, later) × IsEarlier (Some segment) later

-- the keys of a checkpoint with this begin are being read
abbrev pub IsReading : Option Making → (begin : ℕ) → Type 0
IsReading making begin = making ≡ Some (record { begin = begin; end = None })

-- the keys of a checkpoint with this begin and end were read
abbrev pub HasRead : Option Making → (begin end : ℕ) → Type 0
HasRead making begin end = making ≡ Some (record { begin = begin; end = Some end })

-- A checkpoint that is being made began no earlier than the base, and until the last stamp. While its keys are read, each written one ended before its begin.
pub record AreKept (clock base : ℕ) (making : Option Making) (checkpoints : Checkpoints) : Type 0 where
  pub of_base : begin_of checkpoints.base ≡ base
  pub begun : IfSome making (λ making. (base ≤ making.begin) × (making.begin ≤ clock))
  pub later : (begin : ℕ) (c : CheckpointReading) → IsReading making begin → Contains checkpoints.written c → c.end < begin

-- the keeper holds the server; nothing after the last stamp is acknowledged, or in the checkpoint that the server stands on
pub record Holds (keeper : Keeping) (s : Server) : Type 0 where
  pub clock : s.clock ≡ keeper.clock
  pub acked : (u : Update) → Contains s.acked u → u.timestamp ≤ keeper.clock
  pub base : IfSome s.checkpoints.base (λ base. base.end ≤ keeper.clock)
  pub numbers : AreNumbered s.slots s.places
  pub logs : AllZip (IsLogOf keeper.clock) keeper.logs (numbered s)
  pub places : AreInPlace keeper.workers (map place_of keeper.logs)
  pub checkpoints : AreKept keeper.clock keeper.base keeper.making s.checkpoints

-- how far the newest file of a log is synced
abbrev pub reach_in : Stage → Option ℕ
reach_in (Coming new) = Some new.mark
reach_in (Writing writer) = Some writer.reach
reach_in (Followed last) = None
reach_in Going = None
reach_in Gone = None

-- each log is synced past this timestamp
abbrev pub ArePast : ℕ → List Log → Type 0
ArePast time logs = All (λ log. IfSome (reach_in log.stage) (λ reach. time < reach)) logs

-- The other file lets this segment go: it is no earlier segment of its log. If it is a later one, it is created, and if it is the next one, its `from` is at most `begin`.
pub record LetsGo (begin : ℕ) (old : Segment) (other : Log) : Type 0 where
  pub first : IsEarlier other.segment (Some old) → ⊥
  pub created : (new : NewFile) → IsEarlier (Some old) other.segment → other.stage ≡ Coming new → ⊥
  pub next : IsJustBefore (Some old) other.segment → other.from ≤ begin

-- the file of this number may be deleted: a later segment of its log is there, it has no timestamp from the base's begin on, and each file lets it go
pub record MayGo (keeper : Keeping) (number : ℕ) : Type 0 where
  pub log : Log
  pub stands : slice_get keeper.logs number ≡ Some log
  pub segment : Segment
  pub is : log.segment ≡ Some segment
  pub last : ℕ
  pub stage : log.stage ≡ Followed last
  pub old : last < keeper.base
  pub lowest : All (LetsGo keeper.base segment) keeper.logs
