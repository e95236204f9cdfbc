-- Calls of a server that keeps its logs by writers, and stamps their records by one clock: a stamp is a timestamp and a version at once.
use Rattle.std.specs.Prelude.{◌≡◌, ℕ, suc, ◌+◌, ◌≤◌, ◌<◌, ◌⊎◌, ◌↔◌, IfSome, Option, Some, None, List, [], ◌∷◌, ◌++◌, length, map, Contains}
use Rattle.std.specs.List.{AllZip}
use Rattle.mt_words.specs.declared.record.Change.{Change}
use Rattle.mt_words.specs.declared.update.Update.{Update}
use Rattle.mt_words.specs.Changes.{Logged, Writes, IsWhole}
use Rattle.mt_record.specs.declared.feed.head.Segment.{Segment}
use Rattle.mt_record.specs.declared.feed.head.Head.{Head}
use Rattle.mt_record.specs.Encoding.{segment_head}
use Rattle.mt_scan.specs.Choice.{CheckpointReading}
use Rattle.mt_replay.specs.KeyColumns.{HasColumn}
use Rattle.mt_record.specs.Resuming.{below}
use Rattle.mt_recover.specs.Recovery.{Facts, begin_of}
use Rattle.mt_writer.specs.Framing.{IsFileOfBlocks}
use Rattle.mt_writer.specs.Files.{OpenFile, file_bytes}
use Rattle.mt_writer.specs.Journals.{Journal, Writer, Keeps, file_of, handed_out, records_of, begun, holding, taking, syncing, NewFile, Begins, IsReached, IsSealed}
use Rattle.mt_laws.specs.Crashes.{up_to}
use Rattle.mt_laws.specs.Resuming.{IsOnTheWay}
use Rattle.mt_laws.specs.Lives.{IsBehind, AreOpen, AllSyncedAbove, LogOf, there, deleted, those_there, as_written, updates_in, AreOld, Checkpoints, only, IsStill, IsLeftOf, AreLeftOf, IsResumedAs, IsFreshStart, State, running}
use Rattle.mt_laws.specs.Names.{IsNew, IsLowest}

-- ---- logs

-- A file of a server. It was renamed, and the folder was not synced since: so nothing is written to it, and a crash may lose it. Or it is written. Or it is
-- sealed: synced whole, and not written any more. Or it is being deleted: a crash may leave it until the folder is synced. Or it is gone, and had these records.
pub data Slot : Type 0 where
  coming : Journal → Slot
  writing : Journal → Slot
  sealed : Journal → Slot
  going : Journal → Slot
  gone : List Logged → Slot

abbrev pub log_of : Slot → LogOf OpenFile
log_of (coming j) = there (file_of j)
log_of (writing j) = there (file_of j)
log_of (sealed j) = there (file_of j)
log_of (going j) = there (file_of j)
log_of (gone records) = deleted records

abbrev pub logs_of : List Slot → List (LogOf OpenFile)
logs_of slots = map log_of slots

-- the files that are there
abbrev pub files_of : List Slot → List OpenFile
files_of slots = those_there (logs_of slots)

abbrev pub updates_of : List Slot → List Update
updates_of slots = updates_in (logs_of slots)

-- no later segment of the file's log is there
abbrev pub IsNewest : List OpenFile → OpenFile → Type 0
IsNewest files file = (other : OpenFile) → Contains files other → IsBehind file other → ⊥

-- both are segments of one worker's log
abbrev pub IsOneWorkers : Option Segment → Option Segment → Type 0
IsOneWorkers (Some a) (Some b) = a.worker ≡ b.worker
IsOneWorkers a b = ⊥

-- no segment of the header's log is there
abbrev pub IsFresh : List OpenFile → Head → Type 0
IsFresh files head = (other : OpenFile) → Contains files other → IsOneWorkers other.head.segment head.segment → ⊥

-- the file, or a later segment of its log, is reached
pub record IsLogReached (reach : ℕ) (files : List OpenFile) (file : OpenFile) : Type 0 where
  pub last : OpenFile
  pub stands : Contains files last
  pub of_log : (file ≡ last) ⊎ IsBehind file last
  pub reached : IsReached reach last

-- this reach is true of each log
abbrev pub AllReached : ℕ → List OpenFile → Type 0
AllReached reach files = (file : OpenFile) → Contains files file → IsLogReached reach files file

-- What a crash leaves of a name: a file that is coming or going may be there, or not.
abbrev pub IsNameLeft : Slot → LogOf OpenFile → Type 0
IsNameLeft (coming j) log = (log ≡ there (file_of j)) ⊎ (log ≡ deleted (records_of j))
IsNameLeft (writing j) log = log ≡ there (file_of j)
IsNameLeft (sealed j) log = log ≡ there (file_of j)
IsNameLeft (going j) log = (log ≡ there (file_of j)) ⊎ (log ≡ deleted (records_of j))
IsNameLeft (gone records) log = log ≡ deleted records

-- ---- stamps

-- the clock stamped the record: its change, if it has one, has the record's timestamp as its version, above the clock
abbrev pub IsStamped : ℕ → Logged → Type 0
IsStamped clock r = IfSome r.change (λ change. (change.version ≡ r.timestamp) × (clock < r.timestamp))

-- the timestamp, if there is a change, and else the clock
abbrev pub stamp_or : ℕ → ℕ → Option Change → ℕ
stamp_or clock time None = clock
stamp_or clock time (Some change) = time

-- the clock after the record: the stamp of its change, if it has one; a mark leaves the clock as it is
abbrev pub clock_after : ℕ → Logged → ℕ
clock_after clock r = stamp_or clock r.timestamp r.change

-- ---- checkpoints

-- at this version the updates of the key from before the begin have been made
abbrev pub HasSeen : List Update → (begin : ℕ) → (key : List ℕ) → (version : ℕ) → Type 0
HasSeen updates begin key version = (u : Update) → Contains updates u → u.key ≡ key → u.timestamp < begin → u.stamp.version ≤ version

-- an entry as its key was read, in one step: by then the updates from before the begin have been made, and the columns are those that the updates up to its
-- version leave
pub record IsReadEntry (updates : List Update) (begin end : ℕ) (entry : Change) : Type 0 where
  pub whole : IsWhole entry.kind
  pub seen : HasSeen updates begin entry.key entry.version
  pub by_end : entry.version ≤ end
  pub columns : (number : ℕ) (bytes : List ℕ) → Writes entry.kind number (Some bytes) ↔ HasColumn (up_to entry.version updates) entry.key number bytes

-- a key that had no column when it was read
pub record IsReadAbsence (updates : List Update) (begin end : ℕ) (key : List ℕ) : Type 0 where
  pub version : ℕ
  pub seen : HasSeen updates begin key version
  pub by_end : version ≤ end
  pub no_column : (number : ℕ) (bytes : List ℕ) → HasColumn (up_to version updates) key number bytes → ⊥

-- What the host owes of a checkpoint: each key was read in one step, after its begin and before its end.
pub record IsRead (updates : List Update) (checkpoint : CheckpointReading) : Type 0 where
  pub entries : (entry : Change) → Contains checkpoint.entries entry → IsReadEntry updates checkpoint.begin checkpoint.end entry
  pub others : (key : List ℕ) → ((entry : Change) → Contains checkpoint.entries entry → entry.key ≡ key → ⊥)
      → IsReadAbsence updates checkpoint.begin checkpoint.end key

-- the checkpoint begins at its end at the latest, and no entry has a later version
pub record IsWithin (checkpoint : CheckpointReading) : Type 0 where
  pub begins : checkpoint.begin ≤ checkpoint.end
  pub entries : (entry : Change) → Contains checkpoint.entries entry → entry.version ≤ checkpoint.end

-- ---- a server

-- a server: the last stamp, the updates that it acknowledged, its files, the place of each file that calls name by a number, in the order of the numbers, and its checkpoints
pub record Server : Type 0 where
  pub clock : ℕ
  pub acked : List Update
  pub slots : List Slot
  pub places : List ℕ
  pub checkpoints : Checkpoints

-- the state of a life that the server is in
abbrev pub state_of : Server → State
state_of s = running s.acked (logs_of s.slots) s.checkpoints

abbrev pub files_there : Server → List OpenFile
files_there s = files_of s.slots

abbrev pub begin_now : Server → ℕ
begin_now s = begin_of s.checkpoints.base

-- the server with another slot in place of one
abbrev pub with_slot : Server → List Slot → Slot → List Slot → Server
with_slot s front slot back = record s { slots = front ++ slot ∷ back }

-- the server with one more file, which has the next number
abbrev pub with_more : Server → Slot → Server
with_more s slot = record s { slots = s.slots ++ slot ∷ []; places = s.places ++ length s.slots ∷ [] }

-- The files are open. Those that are written or coming are the newest of their logs. Those that are sealed or going are synced whole. A crash may lose those
-- that are coming or going, and leaves another. The clock has reached all that was stamped. In each log a record is synced above each acknowledged update, and above
-- the end of the checkpoint that the server stands on.
pub record Stands (s : Server) : Type 0 where
  pub opens : AreOpen (begin_now s) (files_there s)
  pub newest : (j : Journal) → Contains s.slots (writing j) → IsNewest (files_there s) (file_of j)
  pub whole : (j : Journal) → Contains s.slots (sealed j) ⊎ Contains s.slots (going j) → (file_of j).synced ≡ file_bytes (file_of j)
  pub new : (j : Journal) → Contains s.slots (coming j) → AreOld (begin_now s) (records_of j) × IsNew (files_there s) (file_of j)
  pub lowest : (j : Journal) → Contains s.slots (going j) → AreOld (begin_now s) (records_of j) × IsLowest (begin_now s) (files_there s) (file_of j)
  pub firm : (j : Journal) × (Contains s.slots (writing j) ⊎ Contains s.slots (sealed j))
  pub stamped : (u : Update) → Contains (updates_of s.slots) u → (u.stamp.version ≡ u.timestamp) × (u.timestamp ≤ s.clock)
  pub written : (c : CheckpointReading) → Contains s.checkpoints.written c → IsWithin c × (c.end ≤ s.clock)
  pub acked : (u : Update) → Contains s.acked u → (u.timestamp ≤ s.clock) × AllSyncedAbove u.timestamp (files_there s)
  pub base : IfSome s.checkpoints.base (λ base. Contains s.checkpoints.written base × AllSyncedAbove base.end (files_there s))

-- A call, with what its caller reports.
-- A writer appends a record that the clock stamped; its bytes are taken; they are synced.
-- A stamp was taken for no record, as for the begin of a checkpoint.
-- A new log is renamed, with a mark above all that is acknowledged and above the end of the checkpoint that the server stands on. The next segment of a sealed one is
-- renamed; its `from` and its mark are the last timestamp of that one. The folder was synced, so the file may be written. A file that is synced whole is sealed.
-- An update below a reach of all logs is acknowledged.
-- A checkpoint was read, from after the end of each earlier one; from then on its parts may be renamed. The server stands on it: its parts and the folder are synced, and its
-- end is below a reach of all logs.
-- A sealed file with no update from the base's begin on, the lowest of its log, is being deleted; then the folder was synced.
pub data IsCall : Server → Server → Type 0 where
  append : (s : Server) (front back : List Slot) (w : Writer) (j : Journal) (r : Logged) → Keeps w (holding j r) → IsStamped s.clock r
      → IsCall (with_slot s front (writing j) back) (record (with_slot s front (writing (holding j r)) back) { clock = clock_after s.clock r })
  hand_out : (s : Server) (front back : List Slot) (w : Writer) (j : Journal) → Keeps w (taking j)
      → IsCall (with_slot s front (writing j) back) (with_slot s front (writing (taking j)) back)
  told_synced : (s : Server) (front back : List Slot) (w later : Writer) (j : Journal) → Keeps w j → Keeps later (syncing j)
      → IsCall (with_slot s front (writing j) back) (with_slot s front (writing (syncing j)) back)
  count_up : (s : Server) → IsCall s (record s { clock = suc s.clock })
  begin_log : (s : Server) (w : Writer) (new : NewFile) (head : Head) → Keeps w (begun head new.mark) → Begins new head
      → ((u : Update) → Contains s.acked u → u.timestamp < new.mark) → IfSome s.checkpoints.base (λ base. base.end < new.mark)
      → head.from ≤ begin_now s → IsFresh (files_there s) head → IsCall s (with_more s (coming (begun head new.mark)))
  begin_segment : (s : Server) (w : Writer) (new : NewFile) (j : Journal) (last worker number : ℕ) → Contains s.slots (sealed j) → IsSealed last worker number j
      → IsNewest (files_there s) (file_of j) → Keeps w (begun (segment_head last worker (number + 1)) last) → Begins new (segment_head last worker (number + 1)) → new.mark ≡ last
      → IsCall s (with_more s (coming (begun (segment_head last worker (number + 1)) last)))
  told_created : (s : Server) (front back : List Slot) (j : Journal) → IsCall (with_slot s front (coming j) back) (with_slot s front (writing j) back)
  seal : (s : Server) (front back : List Slot) (j : Journal) → (file_of j).synced ≡ file_bytes (file_of j)
      → IsCall (with_slot s front (writing j) back) (with_slot s front (sealed j) back)
  tell_client : (s : Server) (u : Update) (reach : ℕ) → Contains (updates_of s.slots) u → AllReached reach (files_there s) → u.timestamp < reach
      → IsCall s (record s { acked = u ∷ s.acked })
  checkpoint : (s : Server) (new : CheckpointReading) → IsRead (updates_of s.slots) new → new.begin ≤ new.end → new.end ≤ s.clock
      → ((c : CheckpointReading) → Contains s.checkpoints.written c → c.end < new.begin)
      → IsCall s (record s { checkpoints = record s.checkpoints { written = new ∷ s.checkpoints.written } })
  stand_on : (s : Server) (new : CheckpointReading) (reach : ℕ) → Contains s.checkpoints.written new → begin_now s ≤ new.begin → AllReached reach (files_there s)
      → new.end < reach → IsCall s (record s { checkpoints = record s.checkpoints { base = Some new } })
  delete : (s : Server) (front back : List Slot) (j other : Journal) → AreOld (begin_now s) (records_of j)
      → IsLowest (begin_now s) (files_there (with_slot s front (sealed j) back)) (file_of j) → Contains (front ++ back) (writing other) ⊎ Contains (front ++ back) (sealed other)
      → IsCall (with_slot s front (sealed j) back) (with_slot s front (going j) back)
  told_deleted : (s : Server) (front back : List Slot) (j : Journal) → IsCall (with_slot s front (going j) back) (with_slot s front (gone (records_of j)) back)

-- ---- crashes

-- the file of blocks with the records that are synced, or with those that were taken too
abbrev pub HasBlocks : (mark : ℕ) → Journal → (file : List ℕ) → Type 0
HasBlocks mark j file = IsFileOfBlocks mark j.head j.synced file ⊎ IsFileOfBlocks mark j.head (handed_out j) file

-- A crash of the server left these names, these bytes of the files, and these parts.
pub record IsCrashOf (s : Server) (names : List (LogOf OpenFile)) (left parts : List (List ℕ)) : Type 0 where
  pub each : AllZip IsNameLeft s.slots names
  pub cuts : AllZip (IsLeftOf (those_there names)) (those_there names) left
  pub of_parts : AreLeftOf s.checkpoints parts

-- a resume was stopped, as often as it was, and left the later bytes and parts
pub data AreStops : (left parts now now_parts : List (List ℕ)) → Type 0 where
  none : (left parts : List (List ℕ)) → AreStops left parts left parts
  more : (left parts next next_parts now now_parts : List (List ℕ)) (facts : Facts left parts) → IsOnTheWay facts next next_parts
      → AreStops next next_parts now now_parts → AreStops left parts now now_parts

-- The files after a resume: each replaces what was left; it is written or sealed, and only the newest of a log is written.
pub record AreResumed (cutoff : ℕ) (names : List (LogOf OpenFile)) (left : List (List ℕ)) (slots : List Slot) : Type 0 where
  pub still : AllZip (IsStill (λ records file. Unit {0})) (map as_written names) (logs_of slots)
  pub each : AllZip (IsResumedAs cutoff) left (files_of slots)
  pub rest : (j : Journal) → Contains slots (coming j) ⊎ Contains slots (going j) → ⊥
  pub newest : (j : Journal) → Contains slots (writing j) → IsNewest (files_of slots) (file_of j)

-- what a fresh start leaves behind of a log: its records below the cutoff, in the history alone
abbrev pub left_slot : ℕ → LogOf OpenFile → Slot
left_slot cutoff (there file) = gone (below cutoff file.records)
left_slot cutoff (deleted records) = gone records

-- A server after any calls, crashes and restarts. It began with one new log. After a resume its next stamp is at least the cutoff. After a fresh start it goes on
-- in another folder, with one log and one checkpoint, and its next stamp is above the cutoff. After either the numbers may name other files.
pub data Called : Server → Type 0 where
  new_server : (w : Writer) (new : NewFile) (head : Head) → Keeps w (begun head new.mark) → head.from ≡ 0
      → Called (record { clock = new.mark; acked = []; slots = writing (begun head new.mark) ∷ []; places = 0 ∷ []; checkpoints = only None })
  called : (before after : Server) → Called before → IsCall before after → Called after
  restarted : (s : Server) (names : List (LogOf OpenFile)) (left parts now now_parts : List (List ℕ)) (facts : Facts now now_parts) (slots : List Slot) (clock : ℕ) (places : List ℕ)
      → Called s → IsCrashOf s names left parts → AreStops left parts now now_parts → AreResumed facts.cutoff names now slots → facts.cutoff ≤ suc clock
      → Called (record { clock = clock; acked = s.acked; slots = slots; places = places; checkpoints = only facts.chosen })
  started_afresh : (s : Server) (names : List (LogOf OpenFile)) (left parts now now_parts : List (List ℕ)) (facts : Facts now now_parts) (j : Journal)
      (new : CheckpointReading) (clock : ℕ) (places : List ℕ) → Called s → IsCrashOf s names left parts → AreStops left parts now now_parts → IsFreshStart facts (file_of j) new
      → IsWithin new → facts.cutoff ≤ clock
      → Called (record { clock = clock; acked = s.acked; slots = map (left_slot facts.cutoff) names ++ writing j ∷ []; places = places; checkpoints = only (Some new) })
