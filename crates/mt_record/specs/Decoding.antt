-- Decoding: what record the bytes of a body encode.
use Rattle.std.specs.Prelude.{◌≡◌, ◌≤◌, ◌<◌, ◌^◌, ℕ, Bool, true, false, eqb, List, [], length, map, take, drop, slice_index, Option, Some, None, IfSome}
use Rattle.std.specs.List.{AllByRecursion}
use Rattle.byteorder.specs.Endian.{big_from}
use Rattle.mt_words.specs.declared.code.Code.{Code}
use Rattle.mt_words.specs.declared.code.Code.TheVariants as codes
use Rattle.mt_words.specs.declared.code.Payload.{Payload}
use Rattle.mt_words.specs.declared.code.Payload.TheVariants as payloads
use Rattle.mt_words.specs.declared.record.Change.{Change}
use Rattle.mt_words.specs.declared.update.Origin.{Origin}
use Rattle.mt_words.specs.declared.update.Kind.{Kind}
use Rattle.mt_words.specs.declared.update.Kind.TheVariants.{Put, Remove, Whole, Erase}
use Rattle.mt_words.specs.declared.update.Update.{Update}
use Rattle.mt_words.specs.Limits.{widest}
use Rattle.mt_words.specs.Codes.{byte_of}
use Rattle.mt_words.specs.Words.{IsKey}
use Rattle.mt_words.specs.Changes.{Logged, Write, set, erased, writes_of}
use Rattle.mt_words.specs.Writes.{AreWrites}
use Rattle.mt_words.specs.Updates.{update_at}
pub use Rattle.mt_words.specs.Packed.{columns_from, columns_counted, AreLentColumns}
use Rattle.mt_record.specs.Spelling.{body}

-- ---- fields at the front of bytes

-- decodes a count, then that many column numbers
abbrev pub numbers_counted : List ℕ → List ℕ
numbers_counted bytes = take (slice_index bytes 0) (drop 1 bytes)

-- the code with this byte; any byte but those of `Whole`, `Put` and `Erase` gives `Remove`, unchecked
abbrev pub code_from : ℕ → Code
code_from byte = by (eqb byte (byte_of codes.Whole)) (eqb byte (byte_of codes.Put)) (eqb byte (byte_of codes.Erase))
  where
    by : Bool → Bool → Bool → Code
    by true put erase = codes.Whole
    by false true erase = codes.Put
    by false false true = codes.Erase
    by false false false = codes.Remove

-- the kind with this code that carries the bytes
abbrev pub kind_from : Code → List ℕ → Kind
kind_from codes.Whole bytes = Whole (columns_counted bytes)
kind_from codes.Put bytes = Put (columns_counted bytes)
kind_from codes.Remove bytes = Remove
kind_from codes.Erase bytes = Erase (numbers_counted bytes)

-- decodes `count` writes from the front
abbrev pub writes_from : Payload → ℕ → List ℕ → List Write
writes_from payloads.Nothing count bytes = []
writes_from payloads.Columns count bytes = map set (columns_from count bytes)
writes_from payloads.Numbers count bytes = map erased (take count bytes)

-- the writes of a change that carries the bytes: a count, then that many writes
abbrev pub writes_carried : Payload → List ℕ → List Write
writes_carried payload bytes = writes_from payload (slice_index bytes 0) (drop 1 bytes)

-- ---- the fields of a body

-- whether the body is that of a mark
unfoldable pub is_mark_in : List ℕ → Bool
is_mark_in bytes = eqb (slice_index bytes 0) 3

-- the code of the body's change
unfoldable pub code_in : List ℕ → Code
code_in bytes = code_from (slice_index bytes 0)

unfoldable pub time_in : List ℕ → ℕ
time_in bytes = big_from 0 8 (drop 1 bytes)

unfoldable pub version_in : List ℕ → ℕ
version_in bytes = big_from 0 8 (drop 9 bytes)

unfoldable pub key_length_in : List ℕ → ℕ
key_length_in bytes = big_from 0 2 (drop 17 bytes)

unfoldable pub key_in : List ℕ → List ℕ
unfolding key_length_in
key_in bytes = take (key_length_in bytes) (drop 19 bytes)

-- the bytes that the change's kind carries: all bytes after the key
unfoldable pub carried_in : List ℕ → List ℕ
unfolding key_length_in
carried_in bytes = drop (key_length_in bytes) (drop 19 bytes)

abbrev pub kind_in : List ℕ → Kind
kind_in bytes = kind_from (code_in bytes) (carried_in bytes)

-- ---- the record

-- the change that the body of a change encodes
abbrev pub change_in : List ℕ → Change
change_in bytes = record { version = version_in bytes; key = key_in bytes; kind = kind_in bytes }

-- the update that the body of a change encodes, with this origin
abbrev pub update_in : Origin → List ℕ → Update
update_in origin bytes = update_at origin (time_in bytes) (change_in bytes)

-- `None` if this is true, else the change
abbrev pub change_unless : Bool → Change → Option Change
change_unless true change = None
change_unless false change = Some change

-- the record that the bytes encode
abbrev pub decode : List ℕ → Logged
decode bytes = record { timestamp = time_in bytes; change = change_unless (is_mark_in bytes) (change_in bytes) }

-- a sound change, which an update in memory may have: like a lawful one, but its version may be 0, and it may write no column
pub record IsSoundChange (change : Change) : Type 0 where
  pub version : change.version < 2 ^ 64
  pub key : IsKey widest change.key
  pub writes : AreWrites widest (writes_of change.kind)

-- The bytes are the body of a mark or of a sound change. The body of an entry is encoded as a record of its kind would be.
pub record IsBody (bytes : List ℕ) : Type 0 where
  pub time : time_in bytes < 2 ^ 64
  pub change : IfSome (decode bytes).change IsSoundChange
  pub spelled : bytes ≡ body (decode bytes)

-- the bytes are the body of a change, not of a mark
abbrev pub IsChangeBody : List ℕ → Type 0
IsChangeBody bytes = IsBody bytes × (is_mark_in bytes ≡ false)

-- the bytes are the body of a change with timestamp 0, as the body of an entry is
pub record IsEntryBody (bytes : List ℕ) : Type 0 where
  pub change : IsChangeBody bytes
  pub no_time : time_in bytes ≡ 0

-- ---- borrowed writes

-- the bytes are `count` column numbers, each lawful in the widest format
pub record AreLentNumbers (count : ℕ) (bytes : List ℕ) : Type 0 where
  pub number : length bytes ≡ count
  pub lawful : AllByRecursion (λ number. number ≤ widest.column) bytes

-- the bytes are `count` such writes of this payload; if the payload is `Nothing`, they may be any bytes
abbrev pub AreLent : Payload → ℕ → List ℕ → Type 0
AreLent payloads.Nothing count bytes = Unit {0}
AreLent payloads.Columns count bytes = AreLentColumns count bytes
AreLent payloads.Numbers count bytes = AreLentNumbers count bytes

-- the bytes are a count, then that many such writes
pub record AreCounted (payload : Payload) (bytes : List ℕ) : Type 0 where
  pub some : 0 < length bytes
  pub writes : AreLent payload (slice_index bytes 0) (drop 1 bytes)

-- what a change with this payload carries: nothing, or a count and that many such writes
abbrev pub IsCarried : Payload → List ℕ → Type 0
IsCarried payloads.Nothing bytes = (bytes ≡ [])
IsCarried payloads.Columns bytes = AreCounted payloads.Columns bytes
IsCarried payloads.Numbers bytes = AreCounted payloads.Numbers bytes
