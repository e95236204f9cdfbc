-- How records are encoded.
use Rattle.std.specs.Prelude.{ℕ, suc, ◌+◌, ◌*◌, ◌≤◌, ◌<◌, ◌^◌, List, [], ◌∷◌, ◌++◌, length, Option, Some, None, IfSome}
use Rattle.std.specs.List.{AllByRecursion}
use Rattle.byteorder.specs.Endian.{big_bytes}
use Rattle.mt_words.specs.declared.limits.TheConstants.{LONGEST_VALUE}
use Rattle.mt_words.specs.declared.record.Change.{Change}
use Rattle.mt_words.specs.declared.update.Kind.{Kind}
use Rattle.mt_words.specs.declared.update.Kind.TheVariants.{Put, Remove, Whole, Erase}
use Rattle.mt_words.specs.declared.limits.Limits.{Limits}
use Rattle.mt_words.specs.Codes.{code_of, byte_of}
use Rattle.mt_words.specs.Changes.{Logged, IsLogged}
use Rattle.mt_words.specs.Packed.{packed}
pub use Rattle.mt_words.specs.Packed.{with_length, column_bytes, FitsColumn}

-- the byte of a kind
abbrev pub kind_byte : Kind → ℕ
kind_byte kind = byte_of (code_of kind)

-- what a kind carries: for a put or a `Whole` a count and the columns, for an erase a count and the column numbers, for a remove nothing
abbrev pub kind_bytes : Kind → List ℕ
kind_bytes (Put columns) = packed columns
kind_bytes Remove = []
kind_bytes (Whole columns) = packed columns
kind_bytes (Erase numbers) = length numbers ∷ numbers

-- the fields of a change: its version, its with_length key, and what its kind carries
abbrev pub change_bytes : Change → List ℕ
change_bytes change = big_bytes 8 change.version ++ (with_length change.key ++ kind_bytes change.kind)

-- the body of a record: the byte of its kind, its timestamp, and the fields of its change; a mark has byte 3 and no change
abbrev pub body_of : ℕ → Option Change → List ℕ
body_of timestamp None = 3 ∷ big_bytes 8 timestamp
body_of timestamp (Some change) = kind_byte change.kind ∷ (big_bytes 8 timestamp ++ change_bytes change)

abbrev pub body : Logged → List ℕ
body r = body_of r.timestamp r.change

-- a frame: the bytes between two copies of their four-byte length
abbrev pub framed : List ℕ → List ℕ
framed bytes = big_bytes 4 (length bytes) ++ (bytes ++ big_bytes 4 (length bytes))

-- the encoding of a record: its body in a frame
abbrev pub spelling : Logged → List ℕ
spelling r = framed (body r)

-- the length of the longest change: a put with the longest key and all columns, each with the longest value
abbrev pub longest_change : Limits → ℕ
longest_change limits = 11 + limits.key + suc limits.column * (3 + LONGEST_VALUE)

-- the length of the longest body: the byte of the kind and the timestamp come before the change
abbrev pub longest_record : Limits → ℕ
longest_record limits = 9 + longest_change limits

-- a body may have this length: from that of a mark to that of the longest body
abbrev pub IsRecordLength : Limits → ℕ → Type 0
IsRecordLength limits n = (9 ≤ n) × (n ≤ longest_record limits)

-- ---- what the fields of a change and of a record can hold, lawful or not

abbrev pub FitsKind : Kind → Type 0
FitsKind (Put columns) = (length columns < 2 ^ 8) × AllByRecursion FitsColumn columns
FitsKind Remove = Unit {0}
FitsKind (Whole columns) = (length columns < 2 ^ 8) × AllByRecursion FitsColumn columns
FitsKind (Erase numbers) = (length numbers < 2 ^ 8) × AllByRecursion (λ number. number < 2 ^ 8) numbers

pub record FitsChange (change : Change) : Type 0 where
  pub version : change.version < 2 ^ 64
  pub key : length change.key < 2 ^ 16
  pub kind : FitsKind change.kind

-- a change that fits its fields, of a kind that log records have
abbrev pub FitsLogged : Change → Type 0
FitsLogged change = FitsChange change × IsLogged change.kind

abbrev pub Fits : Logged → Type 0
Fits r = (r.timestamp < 2 ^ 64) × IfSome r.change FitsLogged
