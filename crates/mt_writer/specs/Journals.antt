-- What a writer of a log keeps: its file, and how far it was taken and synced.
use Rattle.std.specs.Prelude.{◌≡◌, ℕ, ◌+◌, Bool, ◌≤◌, ◌<◌, ◌^◌, Option, Some, List, [], ◌∷◌, ◌++◌, length, Contains}
use Rattle.std.specs.List.{flat_map}
use Rattle.mt_words.specs.Changes.{Logged}
use Rattle.mt_words.specs.Built.{mark_of}
use Rattle.mt_words.specs.Limits.{widest}
use Rattle.mt_words.specs.declared.limits.Format.TheVariants.{Two}
use Rattle.mt_block.specs.declared.header.Header.{Header}
use Rattle.mt_block.specs.Blocks.{IsHeader, header_bytes, mark_of as mark_in, block}
use Rattle.mt_record.specs.declared.feed.head.Segment.{Segment}
use Rattle.mt_record.specs.declared.feed.head.Head.{Head}
use Rattle.mt_record.specs.Heads.{IsHead}
use Rattle.mt_record.specs.Opening.{text_head}
use Rattle.mt_record.specs.Spelling.{spelling}
use Rattle.mt_record.specs.Logs.{AreRecords, latest, log_bytes, times_of}
use Rattle.mt_record.specs.declared.read.TheConstants.{MOST_BYTES}
use Rattle.mt_record.specs.declared.front.Rest.TheVariants.{Nothing}
use Rattle.mt_record.specs.declared.front.LogFront.{LogFront}
use Rattle.mt_writer.specs.Framing.{IsFileWith}
use Rattle.mt_writer.specs.Files.{OpenFile, file_bytes, file_reading, HasSynced}

-- A file of a log, as its writer knows it: the records that are synced, those that were taken to be appended, and those that are held in the buffer, in this order.
pub record Journal : Type 0 where
  pub head : Head
  pub synced : List Logged
  pub taken : List Logged
  pub held : List Logged

abbrev pub handed_out : Journal → List Logged
handed_out j = j.synced ++ j.taken

abbrev pub records_of : Journal → List Logged
records_of j = handed_out j ++ j.held

-- the file; only what was noted as synced counts as synced
abbrev pub file_of : Journal → OpenFile
file_of j = record { head = j.head; records = records_of j; synced = log_bytes j.head j.synced }

-- the journal of a new file, of which the one mark is synced
abbrev pub begun : Head → ℕ → Journal
begun head mark = record { head = head; synced = mark_of mark ∷ []; taken = []; held = [] }

-- the journal of a file that was read back, of which all records are synced
abbrev pub read_back : Head → List Logged → Journal
read_back head records = record { head = head; synced = records; taken = []; held = [] }

-- one more record is held
abbrev pub holding : Journal → Logged → Journal
holding j r = record j { held = j.held ++ r ∷ [] }

-- all held records are taken
abbrev pub taking : Journal → Journal
taking j = record j { taken = j.taken ++ j.held; held = [] }

-- all taken records are synced
abbrev pub syncing : Journal → Journal
syncing j = record j { synced = handed_out j; taken = [] }

-- what a contract sees of a writer
pub record Writer : Type 0 where
  -- the mark of the file, if it has blocks
  pub mark : Option ℕ
  -- the bytes of the held records
  pub buffer : List ℕ
  -- the timestamps of the last record, of the last that was taken, and of the last that is synced
  pub last : ℕ
  pub taken : ℕ
  pub reach : ℕ
  -- how many bytes the text has, with those of the buffer; how many were taken, and how many are synced
  pub size : ℕ
  pub taken_size : ℕ
  pub synced_size : ℕ
  -- how many more bytes the file has than its text, as far as it was taken
  pub frames : ℕ
  -- the segment that the file is, if it is one
  pub segment : Option Segment
  -- whether a write or a sync failed
  pub failed : Bool

-- The writer keeps this journal: the file is lawful, of format 2, has a synced record at or past its `from`, and the writer has its numbers.
pub record Keeps (w : Writer) (j : Journal) : Type 0 where
  pub format : j.head.format ≡ Two
  pub is_head : IsHead j.head
  pub lawful : AreRecords widest 0 (records_of j)
  pub buffer : w.buffer ≡ flat_map spelling j.held
  pub last : w.last ≡ latest 0 (records_of j)
  pub taken : w.taken ≡ latest 0 (handed_out j)
  pub reach : w.reach ≡ latest 0 j.synced
  pub some : 0 < length j.synced
  pub claim : j.head.from ≤ w.reach
  pub size : w.size ≡ length (file_bytes (file_of j))
  pub taken_size : w.taken_size ≡ length (log_bytes j.head (handed_out j))
  pub synced_size : w.synced_size ≡ length (log_bytes j.head j.synced)
  pub segment : w.segment ≡ j.head.segment

-- The bytes are those of the file, as far as it was taken.
pub record IsFileOf (w : Writer) (j : Journal) (bytes : List ℕ) : Type 0 where
  pub is_file : IsFileWith w.mark j.head (handed_out j) bytes
  pub size : length bytes ≡ w.taken_size + w.frames

-- nothing was taken between the two: bytes that are those of the file still are
pub record SameFile (before after : Writer) : Type 0 where
  pub mark : after.mark ≡ before.mark
  pub taken_size : after.taken_size ≡ before.taken_size
  pub frames : after.frames ≡ before.frames

-- above each timestamp below the reach the file has a synced record
abbrev pub IsReached : ℕ → OpenFile → Type 0
IsReached reach file = (time : ℕ) → time < reach → HasSynced (λ r. time < r.timestamp) file

-- A writer may go on with the log in a file of this size: it has the records of format 2, ends with a record, has one at or past its `from`, and the file is no larger than it may be.
pub record MayGoOn (front : LogFront) (size : ℕ) : Type 0 where
  pub format : front.head.format ≡ Two
  pub rest : front.rest ≡ Nothing
  pub some : 0 < front.count
  pub claim : front.head.from ≤ front.latest
  pub text : front.bytes ≤ size
  pub fits : size ≤ MOST_BYTES

-- what a contract sees of a file that is to be created: its bytes, its header, and the timestamp of its mark
pub record NewFile : Type 0 where
  pub bytes : List ℕ
  pub header : Header
  pub mark : ℕ

-- the new file has its header and one block, of a mark at or past the header's `from`; its text has this header
pub record Begins (new : NewFile) (head : Head) : Type 0 where
  pub text : head ≡ text_head new.header
  pub is_header : IsHeader new.header
  pub claim : new.header.from ≤ new.mark
  pub fits : new.mark < 2 ^ 64
  pub bytes : new.bytes ≡ header_bytes new.header ++ block (mark_in new.header) (spelling (mark_of new.mark))

-- the file is this segment, is synced whole, reaches `last`, and has no timestamp above it
pub record IsSealed (last worker number : ℕ) (j : Journal) : Type 0 where
  pub segment : j.head.segment ≡ Some (record { worker = worker; number = number })
  pub whole : (file_of j).synced ≡ file_bytes (file_of j)
  pub reached : IsReached last (file_of j)
  pub times : (time : ℕ) → Contains (times_of (file_reading (file_of j))) time → time ≤ last
