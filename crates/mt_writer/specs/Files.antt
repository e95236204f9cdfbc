-- Files of logs, as they are being written.
use Rattle.std.specs.Prelude.{◌≡◌, ℕ, ◌≤◌, Bool, false, List, ◌++◌, Contains}
use Rattle.mt_words.specs.Changes.{Logged}
use Rattle.mt_record.specs.declared.feed.head.Head.{Head}
use Rattle.mt_record.specs.Heads.{IsHead, head_bytes}
use Rattle.mt_record.specs.Opening.{Opens}
use Rattle.mt_record.specs.Logs.{log_bytes, LogReading, IsReading}

-- the bytes begin with a whole header
pub record HasHeader (bytes : List ℕ) : Type 0 where
  pub head : Head
  pub is_head : IsHead head
  pub more : List ℕ
  pub spelled : bytes ≡ head_bytes head ++ more

-- what is left of a text is a beginning of it, and has at least its whole header
pub record IsCutOf (left written : List ℕ) : Type 0 where
  pub lost : List ℕ
  pub begins : written ≡ left ++ lost
  pub header : HasHeader left

-- What is left of a file: its text is a beginning of the text that was written, and has at least the whole header. Anything may follow the text.
pub record IsCutFileOf (left written : List ℕ) : Type 0 where
  pub text : List ℕ
  pub torn : Bool
  pub opens : Opens left text torn
  pub whole : List ℕ
  pub ended : Bool
  pub opens_written : Opens written whole ended
  pub is_cut : IsCutOf text whole

-- a file of a log, as it is being written: the header of its text, its records, and the bytes of the text that are synced
pub record OpenFile : Type 0 where
  pub head : Head
  pub records : List Logged
  pub synced : List ℕ

abbrev pub file_bytes : OpenFile → List ℕ
file_bytes file = log_bytes file.head file.records

-- what the file says
abbrev pub file_reading : OpenFile → LogReading
file_reading file = record { head = file.head; records = file.records; torn = false }

-- a record for which `P` holds is synced
pub record HasSynced (P : Logged → Type 0) (file : OpenFile) : Type 0 where
  pub reading : LogReading
  pub is_reading : IsReading file.synced reading
  pub at : Logged
  pub stands : Contains reading.records at
  pub holds : P at

-- the file is lawful; what is synced is a beginning of it, with a whole header and a record at or past its `from`
pub record IsOpenFile (file : OpenFile) : Type 0 where
  pub is_reading : IsReading (file_bytes file) (file_reading file)
  pub synced : IsCutOf file.synced (file_bytes file)
  pub claim : HasSynced (λ r. file.head.from ≤ r.timestamp) file

-- records were appended, if any, and nothing more is synced
pub record IsWritten (before after : OpenFile) : Type 0 where
  pub new : List Logged
  pub head : after.head ≡ before.head
  pub records : after.records ≡ before.records ++ new
  pub synced : after.synced ≡ before.synced

-- nothing was appended, and more is synced, if any
pub record IsSynced (before after : OpenFile) : Type 0 where
  pub head : after.head ≡ before.head
  pub records : after.records ≡ before.records
  pub more : IsCutOf before.synced after.synced
