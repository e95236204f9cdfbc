-- Records of logs and entries of checkpoints: what they say, what a format allows of them, and what they do to their key.
use Rattle.std.specs.Prelude.{ℕ, Bool, true, false, ◌≤◌, ◌<◌, ◌^◌, List, [], length, map, Contains, Option, Some, None, IfSome}
use Rattle.mt_words.specs.declared.record.Change.{Change}
use Rattle.mt_words.specs.declared.update.Kind.{Kind}
use Rattle.mt_words.specs.declared.update.Kind.TheVariants.{Put, Remove, Whole, Erase}
use Rattle.mt_words.specs.declared.code.Code.TheVariants as codes
use Rattle.mt_words.specs.declared.limits.Limits.{Limits}
use Rattle.mt_words.specs.Codes.{code_of, byte_of, Clears}
use Rattle.mt_words.specs.Words.{IsKey, AreColumns, AreNumbers}

-- a record, lawful or not: a timestamp and, unless it is a mark, a change
pub record Logged : Type 0 where
  pub timestamp : ℕ
  pub change : Option Change

abbrev pub changed : ℕ → Change → Logged
changed timestamp change = record { timestamp = timestamp; change = Some change }

-- whether the record is a mark: a record without a change
abbrev pub is_mark : Logged → Bool
is_mark r = by r.change
  where
    by : Option Change → Bool
    by None = true
    by (Some change) = false

-- The limits allow this kind. A put and a `Whole` need lawful columns, at least one. An erase needs a format that has erases, and lawful numbers, at
-- least one. A remove is always allowed.
abbrev pub AllowsKind : Limits → Kind → Type 0
AllowsKind limits (Put columns) = AreColumns limits columns × (0 < length columns)
AllowsKind limits Remove = Unit {0}
AllowsKind limits (Whole columns) = AreColumns limits columns × (0 < length columns)
AllowsKind limits (Erase numbers) = (byte_of codes.Erase ≤ limits.kind) × AreNumbers limits numbers × (0 < length numbers)

-- a lawful change: a version that is above 0 and fits in 64 bits, a lawful key, and a kind that the limits allow
pub record IsLawfulChange (limits : Limits) (change : Change) : Type 0 where
  pub version : 0 < change.version
  pub version_fits : change.version < 2 ^ 64
  pub key : IsKey limits change.key
  pub kind : AllowsKind limits change.kind

-- a kind that log records may have: a put, a remove or an erase
abbrev pub IsLogged : Kind → Type 0
IsLogged (Put columns) = Unit {0}
IsLogged Remove = Unit {0}
IsLogged (Whole columns) = ⊥
IsLogged (Erase numbers) = Unit {0}

-- a lawful change of a kind that log records may have
abbrev pub IsLoggedChange : Limits → Change → Type 0
IsLoggedChange limits change = IsLawfulChange limits change × IsLogged change.kind

-- a lawful record: a timestamp that fits in 64 bits and, if there is a change, a lawful one that a log record may carry
abbrev pub IsLawful : Limits → Logged → Type 0
IsLawful limits r = (r.timestamp < 2 ^ 64) × IfSome r.change (IsLoggedChange limits)

-- the kind that entries of a checkpoint have: `Whole`
abbrev pub IsWhole : Kind → Type 0
IsWhole (Put columns) = ⊥
IsWhole Remove = ⊥
IsWhole (Whole columns) = Unit {0}
IsWhole (Erase numbers) = ⊥

-- a lawful entry of a checkpoint: a lawful change whose kind is `Whole`
abbrev pub IsEntry : Limits → Change → Type 0
IsEntry limits change = IsLawfulChange limits change × IsWhole change.kind

-- a write of a column: its number and the bytes that it sets the column to, or None if it erases the column
abbrev pub Write : Type 0
Write = ℕ × Option (List ℕ)

abbrev pub set : ℕ × List ℕ → Write
set column = (column.0, Some column.1)

abbrev pub erased : ℕ → Write
erased number = (number, None)

-- the writes of a change of this kind
abbrev pub writes_of : Kind → List Write
writes_of (Put columns) = map set columns
writes_of Remove = []
writes_of (Whole columns) = map set columns
writes_of (Erase numbers) = map erased numbers

abbrev pub Writes : Kind → ℕ → Option (List ℕ) → Type 0
Writes kind number bytes = Contains (writes_of kind) (number, bytes)

-- a change of this kind clears all columns of its key
abbrev pub IsReset : Kind → Type 0
IsReset kind = Clears (code_of kind)
