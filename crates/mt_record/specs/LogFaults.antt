-- The one fault of a file that is not a log. Nothing is claimed about running out of memory.
use Rattle.std.specs.Prelude.{◌≡◌, ◌≢◌, ℕ, ◌≤◌, ◌<◌, ◌^◌, ◌⊎◌, List, ◌++◌, length, slice_index}
use Rattle.std.specs.List.{flat_map}
use Rattle.byteorder.specs.Endian.{big_bytes}
use Rattle.mt_words.specs.declared.record.Change.{Change}
use Rattle.mt_words.specs.declared.fault.What.{What}
use Rattle.mt_words.specs.declared.fault.What.TheVariants.{Length, Trailer, Kind, Frame, Version, Key, Columns, Clock, Checksum}
use Rattle.mt_words.specs.declared.limits.Limits.{Limits}
use Rattle.mt_words.specs.Limits.{limits_of}
use Rattle.mt_words.specs.Words.{IsKey}
use Rattle.mt_words.specs.Changes.{Logged, changed, IsLawful, AllowsKind}
use Rattle.mt_record.specs.declared.read.FeedFault.{FeedFault}
use Rattle.mt_record.specs.declared.read.FeedFault.TheVariants as faults
use Rattle.mt_record.specs.Spelling.{body, framed, spelling, Fits, IsRecordLength}
use Rattle.mt_record.specs.declared.feed.head.Head.{Head}
use Rattle.mt_record.specs.Heads.{IsHead, head_bytes, HasNoHeader}
use Rattle.mt_record.specs.Logs.{AreRecords, latest, IsLog, count_of}
use Rattle.mt_record.specs.Opening.{HasNoSeal, OpensSoFar, IsDamagedAfter}

-- the byte is that of a kind of record that the format has
abbrev pub IsKindByte : Limits → ℕ → Type 0
IsKindByte limits byte = (1 ≤ byte) × (byte ≤ limits.kind)

-- The first of version, key and columns that the format does not allow.
abbrev pub HasVersionFault : Change → Type 0
HasVersionFault change = change.version ≡ 0

abbrev pub HasKeyFault : Limits → Change → Type 0
HasKeyFault limits change = (0 < change.version) × (IsKey limits change.key → ⊥)

pub record HasColumnsFault (limits : Limits) (change : Change) : Type 0 where
  pub version : 0 < change.version
  pub key : IsKey limits change.key
  pub refused : AllowsKind limits change.kind → ⊥

-- the bytes are the body of a record, lawful or not, with a change for which `P` holds
pub record IsBodyOfChange (bytes : List ℕ) (P : Change → Type 0) : Type 0 where
  pub timestamp : ℕ
  pub change : Change
  pub fits : Fits (changed timestamp change)
  pub spelled : bytes ≡ body (changed timestamp change)
  pub holds : P change

-- the bytes are the body of a lawful record whose timestamp is below `low`, that of the record before it
pub record IsBodyOfEarlier (limits : Limits) (low : ℕ) (bytes : List ℕ) : Type 0 where
  pub logged : Logged
  pub lawful : IsLawful limits logged
  pub spelled : bytes ≡ body logged
  pub earlier : logged.timestamp < low

-- The first fault of a body after a record with timestamp `low`. For all but `Kind`, the format has the kind of the first byte.
-- `Frame`: the bytes are not the body of any record, lawful or not.
abbrev pub BodyFault : What → Limits → ℕ → List ℕ → Type 0
BodyFault Length limits low bytes = ⊥
BodyFault Trailer limits low bytes = ⊥
BodyFault Checksum limits low bytes = ⊥
BodyFault Kind limits low bytes = IsKindByte limits (slice_index bytes 0) → ⊥
BodyFault Frame limits low bytes = IsKindByte limits (slice_index bytes 0) × ((r : Logged) → Fits r → bytes ≢ body r)
BodyFault Version limits low bytes = IsKindByte limits (slice_index bytes 0) × IsBodyOfChange bytes HasVersionFault
BodyFault Key limits low bytes = IsKindByte limits (slice_index bytes 0) × IsBodyOfChange bytes (HasKeyFault limits)
BodyFault Columns limits low bytes = IsKindByte limits (slice_index bytes 0) × IsBodyOfChange bytes (HasColumnsFault limits)
BodyFault Clock limits low bytes = IsKindByte limits (slice_index bytes 0) × IsBodyOfEarlier limits low bytes

-- the bytes begin with a length that is not allowed
pub record HasLengthFault (IsLength : ℕ → Type 0) (rest : List ℕ) : Type 0 where
  pub number : ℕ
  pub more : List ℕ
  pub fits : number < 2 ^ 32
  pub spelled : rest ≡ big_bytes 4 number ++ more
  pub wrong : IsLength number → ⊥

-- the bytes begin with an allowed length, that many bytes, and a number
pub record HasFrame (IsLength : ℕ → Type 0) (rest : List ℕ) : Type 0 where
  pub body : List ℕ
  pub number : ℕ
  pub more : List ℕ
  pub is_length : IsLength (length body)
  pub fits : number < 2 ^ 32
  pub spelled : rest ≡ big_bytes 4 (length body) ++ (body ++ (big_bytes 4 number ++ more))

-- the bytes begin with such a length, bytes and number, but the number is not the length
abbrev pub HasTrailerFault : (ℕ → Type 0) → List ℕ → Type 0
HasTrailerFault IsLength rest = (frame : HasFrame IsLength rest) × (frame.number ≢ length frame.body)

-- the bytes begin with a framed body of an allowed length, and the body has this fault
pub record HasBodyFault (what : What) (limits : Limits) (low : ℕ) (rest : List ℕ) : Type 0 where
  pub body : List ℕ
  pub more : List ℕ
  pub is_length : IsRecordLength limits (length body)
  pub spelled : rest ≡ framed body ++ more
  pub fault : BodyFault what limits low body

-- the first fault of the bytes after the records
abbrev pub RestFault : What → Limits → ℕ → List ℕ → Type 0
RestFault Length limits low rest = HasLengthFault (IsRecordLength limits) rest
RestFault Trailer limits low rest = HasTrailerFault (IsRecordLength limits) rest
RestFault what limits low rest = HasBodyFault what limits low rest

-- the bytes begin with a header and these records, and what follows has this fault
pub record HasFault (bytes : List ℕ) (records : List Logged) (what : What) : Type 0 where
  pub head : Head
  pub rest : List ℕ
  pub spelled : bytes ≡ head_bytes head ++ (flat_map spelling records ++ rest)
  pub is_head : IsHead head
  pub lawful : AreRecords (limits_of head.format) 0 records
  pub fault : RestFault what (limits_of head.format) (latest 0 records) rest

-- the bytes begin with a header and `nth` records, as far as a u64 counts, and what follows has this fault
pub record IsRecordFault (bytes : List ℕ) (nth : ℕ) (what : What) : Type 0 where
  pub records : List Logged
  pub fault : HasFault bytes records what
  pub number : nth ≡ count_of records

-- the fault of a text that is not a log, which is never `Memory`
abbrev pub IsTextFault : List ℕ → FeedFault → Type 0
IsTextFault text faults.Header = HasNoHeader text
IsTextFault text (faults.Record nth what) = IsRecordFault text nth what
IsTextFault text faults.Memory = ⊥

-- a file of format 4 is damaged, after blocks whose text is a log with `nth` records
pub record IsDamagedLog (bytes : List ℕ) (nth : ℕ) : Type 0 where
  pub text : List ℕ
  pub is_damaged : IsDamagedAfter bytes text
  pub head : Head
  pub records : List Logged
  pub tail : List ℕ
  pub is_log : IsLog text head records tail
  pub number : nth ≡ count_of records

-- the text of a file so far has this fault
pub record HasTextFault (bytes : List ℕ) (nth : ℕ) (what : What) : Type 0 where
  pub text : List ℕ
  pub opens : OpensSoFar bytes text
  pub fault : IsRecordFault text nth what

-- the fault of a file that is not a log, which is never `Memory`
abbrev pub IsLogFault : List ℕ → FeedFault → Type 0
IsLogFault bytes faults.Header = HasNoHeader bytes × HasNoSeal bytes
IsLogFault bytes (faults.Record nth what) = HasTextFault bytes nth what ⊎ ((what ≡ Checksum) × IsDamagedLog bytes nth)
IsLogFault bytes faults.Memory = ⊥

-- `P` holds for the fault, unless the fault is `memory`, that is out of memory; then nothing is claimed
abbrev pub OrMemory : {F : Type 0} → F → (F → Type 0) → F → Type 0
OrMemory memory P fault = fault ≢ memory → P fault
