-- What the steps of reading a record or an entry return.
use Rattle.std.specs.Prelude.{◌≡◌, ◌≢◌, ◌↔◌, IsTrue, Bool, ℕ, ◌≤◌, ◌<◌, ◌^◌, List, ◌++◌, length}
use Rattle.byteorder.specs.Endian.{big_bytes}
use Rattle.mt_words.specs.declared.fault.What.{What}
use Rattle.mt_words.specs.declared.fault.What.TheVariants.{Length, Trailer, Frame, Version, Key, Columns}
use Rattle.mt_words.specs.declared.record.Change.{Change}
use Rattle.mt_words.specs.declared.update.Kind.{Kind}
use Rattle.mt_words.specs.declared.limits.Limits.{Limits}
use Rattle.mt_words.specs.Limits.{widest}
use Rattle.mt_words.specs.Words.{AreColumns}
use Rattle.mt_words.specs.Changes.{Logged, IsLawful, IsLawfulChange, AllowsKind, IsEntry}
pub use Rattle.mt_words.specs.Packed.{AreSpelled}
use Rattle.mt_record.specs.declared.body.ChangeFields.{ChangeFields}
use Rattle.mt_record.specs.Spelling.{with_length, kind_byte, kind_bytes, change_bytes, body, framed, FitsKind, FitsChange}
use Rattle.mt_record.specs.Fronts.{IsNext}
use Rattle.mt_record.specs.LogFaults.{HasLengthFault, HasTrailerFault, HasVersionFault, HasKeyFault, HasColumnsFault}

-- the bytes begin with a lawful record, with this timestamp and the body `found`, and `after` follows
pub record IsNextBody (limits : Limits) (low : ℕ) (bytes : List ℕ) (timestamp : ℕ) (found after : List ℕ) : Type 0 where
  pub next : Logged
  pub is_next : IsNext limits low bytes next after
  pub same_time : timestamp ≡ next.timestamp
  pub same_body : found ≡ body next

-- ---- frames

-- the length is between the shortest and the longest, both allowed
abbrev pub IsWithin : ℕ → ℕ → ℕ → Type 0
IsWithin shortest longest n = (shortest ≤ n) × (n ≤ longest)

-- the bytes are this body in its frame and then `after`, and the length of the body is allowed
pub record IsFrame (IsLength : ℕ → Type 0) (bytes body after : List ℕ) : Type 0 where
  pub fits : IsLength (length body)
  pub spelled : bytes ≡ framed body ++ after

-- why the bytes do not begin with a frame: the length is not allowed, or the number after the body is not the length
abbrev pub IsFrameFault : (ℕ → Type 0) → List ℕ → What → Type 0
IsFrameFault IsLength bytes Length = HasLengthFault IsLength bytes
IsFrameFault IsLength bytes Trailer = HasTrailerFault IsLength bytes
IsFrameFault IsLength bytes what = ⊥

-- ---- bodies

-- the bytes are the body of this lawful record, whose timestamp is at least `low`
pub record IsBodyOf (limits : Limits) (low : ℕ) (bytes : List ℕ) (r : Logged) : Type 0 where
  pub lawful : IsLawful limits r
  pub rises : low ≤ r.timestamp
  pub spelled : bytes ≡ body r

-- the bytes are the body of a lawful record with this timestamp, which is at least `low`
abbrev pub IsBodyAt : Limits → ℕ → List ℕ → ℕ → Type 0
IsBodyAt limits low bytes timestamp = (r : Logged) × IsBodyOf limits low bytes r × (timestamp ≡ r.timestamp)

-- the bytes are the body of a record that the widest format allows
abbrev pub IsLawfulBody : List ℕ → Type 0
IsLawfulBody bytes = (r : Logged) × IsBodyOf widest 0 bytes r

-- the bytes are the fields of this lawful entry
pub record AreFieldsOf (limits : Limits) (bytes : List ℕ) (entry : Change) : Type 0 where
  pub lawful : IsEntry limits entry
  pub spelled : bytes ≡ change_bytes entry

-- the bytes are the fields of an entry that the widest format allows
abbrev pub AreFields : List ℕ → Type 0
AreFields bytes = (entry : Change) × AreFieldsOf widest bytes entry

-- the bytes are not the fields of any lawful entry
abbrev pub AreNoFields : Limits → List ℕ → Type 0
AreNoFields limits bytes = (entry : Change) → IsEntry limits entry → bytes ≢ change_bytes entry

-- the bytes are `body` in its frame and then `after`, and `body` is the fields of a lawful entry
pub record IsNextEntry (limits : Limits) (bytes body after : List ℕ) : Type 0 where
  pub next : Change
  pub fields : AreFieldsOf limits body next
  pub spelled : bytes ≡ framed body ++ after

-- ---- changes

-- the bytes are the fields of this lawful change, whose kind has this byte
pub record IsChangeOf (limits : Limits) (byte : ℕ) (bytes : List ℕ) (change : Change) : Type 0 where
  pub lawful : IsLawfulChange limits change
  pub code : kind_byte change.kind ≡ byte
  pub spelled : bytes ≡ change_bytes change

-- the bytes are not the fields of any change, lawful or not, whose kind has this byte
abbrev pub IsNoChange : ℕ → List ℕ → Type 0
IsNoChange code bytes = (change : Change) → FitsChange change → kind_byte change.kind ≡ code → bytes ≢ change_bytes change

-- the bytes are the fields of a change, lawful or not, whose kind has this byte and for which `P` holds
pub record IsChangeWith (byte : ℕ) (bytes : List ℕ) (P : Change → Type 0) : Type 0 where
  pub change : Change
  pub fits : FitsChange change
  pub code : kind_byte change.kind ≡ byte
  pub spelled : bytes ≡ change_bytes change
  pub holds : P change

-- the first fault of bytes that should be the fields of a change whose kind has this byte
abbrev pub IsChangeFault : Limits → ℕ → List ℕ → What → Type 0
IsChangeFault limits code bytes Frame = IsNoChange code bytes
IsChangeFault limits code bytes Version = IsChangeWith code bytes HasVersionFault
IsChangeFault limits code bytes Key = IsChangeWith code bytes (HasKeyFault limits)
IsChangeFault limits code bytes Columns = IsChangeWith code bytes (HasColumnsFault limits)
IsChangeFault limits code bytes what = ⊥

-- ---- kinds

-- the kind has this byte, carries these bytes and fits its fields
pub record IsKindOf (byte : ℕ) (bytes : List ℕ) (kind : Kind) : Type 0 where
  pub code : kind_byte kind ≡ byte
  pub spelled : bytes ≡ kind_bytes kind
  pub fits : FitsKind kind

-- some kind with this byte carries the bytes
abbrev pub HasKind : ℕ → List ℕ → Type 0
HasKind code bytes = (kind : Kind) × IsKindOf code bytes kind

-- a kind has this byte and carries these bytes, and the flag says whether the format allows it
pub record IsJudgedKind (limits : Limits) (byte : ℕ) (bytes : List ℕ) (allowed : Bool) : Type 0 where
  pub kind : Kind
  pub is_kind : IsKindOf byte bytes kind
  pub judged : IsTrue allowed ↔ AllowsKind limits kind

-- the bytes are these fields, one after the other
pub record SpellFields (bytes : List ℕ) (fields : ChangeFields) : Type 0 where
  pub spelled : bytes ≡ big_bytes 8 fields.version ++ (with_length fields.key.now ++ fields.carried.now)
  pub version_fits : fields.version < 2 ^ 64
  pub key_fits : length fields.key.now < 2 ^ 16

-- the bytes are the fields of some change, lawful or not
abbrev pub HasFields : List ℕ → Type 0
HasFields bytes = (change : Change) × FitsChange change × (bytes ≡ change_bytes change)

-- these are the fields of the change
pub record AreFieldsIn (change : Change) (fields : ChangeFields) : Type 0 where
  pub version : fields.version ≡ change.version
  pub key : fields.key.now ≡ change.key
  pub carried : fields.carried.now ≡ kind_bytes change.kind

-- the bytes are not the fields of any change, whatever bytes its kind carries
abbrev pub HasNoFields : List ℕ → Type 0
HasNoFields bytes = (version : ℕ) (key carried : List ℕ) → version < 2 ^ 64 → length key < 2 ^ 16 → bytes ≢ big_bytes 8 version ++ (with_length key ++ carried)

-- ---- columns

abbrev pub HasColumns : ℕ → List ℕ → Type 0
HasColumns count bytes = (columns : List (ℕ × List ℕ)) × AreSpelled count bytes columns

-- the bytes are the encodings of `count` columns, and the flag says whether there is a column and the format allows them
pub record AreJudgedColumns (limits : Limits) (count : ℕ) (bytes : List ℕ) (allowed : Bool) : Type 0 where
  pub columns : List (ℕ × List ℕ)
  pub spelled : AreSpelled count bytes columns
  pub judged : IsTrue allowed ↔ (AreColumns limits columns × (0 < length columns))
