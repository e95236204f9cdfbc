-- A keeper that goes on with the logs that a crash left.
use Rattle.std.specs.Prelude.{◌≡◌, ℕ, ◌+◌, ◌-◌, ◌≤◌, ◌<◌, ◌⊎◌, ◌^◌, [], ◌∷◌, ◌++◌, min, max, Bool, false, Option, Some, None, IsSomeAnd, if◌then◌else◌, List, length, map}
use Rattle.std.specs.List.{Any, AllZip, list_any}
use Rattle.std.specs.List.Sorted.{IsPermutation}
use Rattle.mt_words.specs.Changes.{Logged}
use Rattle.mt_record.specs.declared.feed.head.Segment.{Segment}
use Rattle.mt_record.specs.declared.feed.head.Head.{Head}
use Rattle.mt_record.specs.declared.front.LogFront.{LogFront}
use Rattle.mt_record.specs.declared.read.FeedFault.{FeedFault}
use Rattle.mt_record.specs.LogFronts.{IsFrontOf}
use Rattle.mt_record.specs.LogFaults.{IsLogFault}
use Rattle.mt_record.specs.Resuming.{greatest_timestamp}
use Rattle.mt_scan.specs.Choice.{CheckpointReading}
use Rattle.mt_scan.specs.Segments.{IsSame, is_earlier}
use Rattle.mt_recover.specs.Recovery.{Facts, begin_of}
use Rattle.mt_writer.specs.Files.{OpenFile}
use Rattle.mt_writer.specs.Journals.{Writer, IsFileOf, read_back, MayGoOn}
use Rattle.mt_writer.specs.declared.writer_fault.WriterFault.TheVariants.{Full, Memory}
use Rattle.mt_laws.specs.Resuming.{IsReplaced}
use Rattle.mt_laws.specs.Lives.{LogOf, only}
use Rattle.mt_laws.specs.Writing.{Slot, writing, Server, IsCrashOf, AreStops, AreResumed, Called}
use Rattle.mt_keeper.specs.declared.keeper.Stage.TheVariants.{Writing, Followed}
use Rattle.mt_keeper.specs.declared.keeper.Log.{Log}
use Rattle.mt_keeper.specs.declared.resuming.Found.{Found}
use Rattle.mt_keeper.specs.declared.keeper_fault.KeeperFault.{KeeperFault}
use Rattle.mt_keeper.specs.declared.keeper_fault.KeeperFault.TheVariants as faults
use Rattle.mt_keeper.specs.Keeping.{Keeping, Holds, IsLogOf, latest_in}

-- ---- the files that are added

-- what a contract sees of a restart: what recovery found, and the keeper of the logs that were added, which counts from the cutoff
pub record Resuming : Type 0 where
  pub found : Found
  pub keeper : Keeping

-- the restart before a log is added
abbrev pub without_logs : Found → (number salt : ℕ) → Resuming
without_logs found number salt = record {
  found = found;
  keeper = record {
    clock = found.cutoff - 1;
    logs = [];
    workers = 0;
    base = found.begin;
    making = None;
    next = min (number + 1) (2 ^ 32 - 1);
    salt = salt;
    failed = false;
  };
}

-- a writer may go on with the log, which has no timestamp above the next stamp, and is not ended
pub record GoesOn (clock size : ℕ) (front : LogFront) : Type 0 where
  pub may : MayGoOn front size
  pub latest : front.latest ≤ clock + 1
  pub not_ended : front.latest < greatest_timestamp

-- the log is that of these bytes, all of which are synced, and may be written: what its writer hands out may be appended to them
pub record IsBack (clock : ℕ) (bytes : List ℕ) (log : Log) : Type 0 where
  pub head : Head
  pub records : List Logged
  pub writer : Writer
  pub written : log.stage ≡ Writing writer
  pub is_file : IsFileOf writer (read_back head records) bytes
  pub kept : IsLogOf clock log (writing (read_back head records))

-- one of the logs is this segment
abbrev pub HasSame : Option Segment → List Log → Type 0
HasSame segment logs = Any (λ other. IsSame other.segment segment) logs

-- the number of the next worker, with this segment
abbrev pub workers_with : ℕ → Option Segment → ℕ
workers_with workers None = workers
workers_with workers (Some segment) = max workers (segment.worker + 1)

-- the log of these bytes was added, which was not there
pub record IsAdded (before : Resuming) (bytes : List ℕ) (after : Resuming) : Type 0 where
  pub log : Log
  pub is_back : IsBack before.keeper.clock bytes log
  pub is_new : HasSame log.segment before.keeper.logs → ⊥
  pub after_is : after ≡ record before { keeper = record before.keeper { logs = before.keeper.logs ++ log ∷ []; workers = workers_with before.keeper.workers log.segment } }

-- the logs of these files were added, in this order
abbrev pub AreAdded : Resuming → List (List ℕ) → Resuming → Type 0
AreAdded before [] after = after ≡ before
AreAdded before (bytes ∷ files) after = (next : Resuming) × IsAdded before bytes next × AreAdded next files after

-- the bytes are no log that goes on
abbrev pub IsNoLog : ℕ → List ℕ → Type 0
IsNoLog clock bytes = ((what : FeedFault) × IsLogFault bytes what)
    ⊎ ((front : LogFront) × (records : List Logged) × IsFrontOf bytes records front × (GoesOn clock (length bytes) front → ⊥))

-- The log is not added: the bytes are no log that goes on, or a segment that was added; or no number is left for another worker, or there is no memory.
abbrev pub AddsNone : Keeping → List ℕ → KeeperFault → Type 0
AddsNone keeper bytes fault = (fault ≡ faults.Log) × (IsNoLog keeper.clock bytes ⊎ ((log : Log) × IsBack keeper.clock bytes log × HasSame log.segment keeper.logs))
    ⊎ ((fault ≡ faults.Writer Full) × ((log : Log) × IsBack keeper.clock bytes log × IsSomeAnd log.segment (λ segment. segment.worker + 1 ≡ 2 ^ 32))
    ⊎ (fault ≡ faults.Writer Memory))

-- ---- the keeper of these files

-- whether a later segment of the same log is there
abbrev pub has_later : Option Segment → List (Option Segment) → Bool
has_later segment others = list_any (is_earlier segment) others

abbrev pub segments_of : List Log → List (Option Segment)
segments_of logs = map (λ log. log.segment) logs

-- the log among these segments: one that a later one follows is written no more
abbrev pub among : List (Option Segment) → Log → Log
among segments log = if has_later log.segment segments then record log { stage = Followed (latest_in log.stage) } else log

-- The keeper of the logs that were added. It counts on above the greatest version that recovery found, too. Each log that a later segment follows is written no more.
abbrev pub going_with : Resuming → Keeping
going_with restart =
    let keeper = restart.keeper in record keeper { clock = max keeper.clock restart.found.version; logs = map (among (segments_of keeper.logs)) keeper.logs }

-- These files are those of the server after a crash and a resume, in any order, at this cutoff, over a chosen checkpoint with this begin, or 0 without one. The resume may
-- have been stopped.
pub record AreFilesAfter (s : Server) (cutoff begin : ℕ) (files : List (List ℕ)) : Type 0 where
  pub names : List (LogOf OpenFile)
  pub left : List (List ℕ)
  pub parts : List (List ℕ)
  pub crash : IsCrashOf s names left parts
  pub now : List (List ℕ)
  pub now_parts : List (List ℕ)
  pub stops : AreStops left parts now now_parts
  pub facts : Facts now now_parts
  pub at : facts.cutoff ≡ cutoff
  pub over : begin_of facts.chosen ≡ begin
  pub replaced : List (List ℕ)
  pub resumed : AllZip (IsReplaced cutoff) now replaced
  pub in_any_order : IsPermutation replaced files

-- the server that goes on from this clock with these slots, and with numbers for these places
abbrev pub going_on : Server → (clock : ℕ) → Option CheckpointReading → List Slot → (places : List ℕ) → Server
going_on s clock chosen slots places = record { clock = clock; acked = s.acked; slots = slots; places = places; checkpoints = only chosen }

-- The keeper holds a server that goes on after the crash as the law says: from the keeper's clock, with the same acknowledged updates, and the resumed files.
pub record Restarts (s : Server) (cutoff begin : ℕ) (files : List (List ℕ)) (of : AreFilesAfter s cutoff begin files) (keeper : Keeping) : Type 0 where
  pub slots : List Slot
  pub places : List ℕ
  pub resumed : AreResumed cutoff of.names of.now slots
  pub is_called : Called (going_on s keeper.clock of.facts.chosen slots places)
  pub holds : Holds keeper (going_on s keeper.clock of.facts.chosen slots places)
