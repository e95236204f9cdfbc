-- What a format allows fits the fields of a record.
use Rattle.std.proofs.Common.{ℕ, suc, ◌+◌, ◌*◌, ◌^◌, ◌<◌, ◌≤◌, List, [], ◌∷◌, length, Option, Some, None, arith}
use Rattle.std.proofs.lemmas.List.{length-append}
use Rattle.std.specs.Prelude.{IfSome}
use Rattle.std.specs.List.{flat_map, AllByRecursion}
use Rattle.mt_words.specs.declared.limits.Format.{Format}
use Rattle.mt_words.specs.declared.record.Change.{Change}
use Rattle.mt_words.specs.declared.update.Kind.{Kind}
use Rattle.mt_words.specs.declared.update.Kind.TheVariants.{Put, Remove, Whole, Erase}
use Rattle.mt_words.specs.declared.limits.Limits.{Limits}
use Rattle.mt_words.specs.Limits.{limits_of}
use Rattle.mt_words.specs.Words.{AreColumns, AreNumbers}
use Rattle.mt_words.specs.Changes.{Logged, IsLawful, IsLoggedChange, AllowsKind}
use Rattle.mt_words.proofs.Formats.{within}
use Rattle.mt_words.proofs.Rising.{numbers_room}
use Rattle.mt_words.proofs.ColumnBytes.{column_room, few_columns, columns_fit, columns_length}
use Rattle.mt_record.specs.Spelling.{column_bytes, kind_bytes, body_of, body, IsRecordLength, FitsKind, FitsLogged, Fits}

-- ---- the limits of the formats

-- the length of a key fits in two bytes
pub key_room : (format : Format) → (limits_of format).key < 2 ^ 16
key_room format = omega (arith, (within format).key)

-- the length of a body fits in four bytes
pub length_fits : (format : Format) (n : ℕ) → IsRecordLength (limits_of format) n → n < 2 ^ 32
length_fits format n is =
    let room = within format in
    omega (arith, is.1, room.key, room.column)

-- ---- records

-- lawful columns fit the fields of a put
pub put_fits : (format : Format) (cs : List (ℕ × List ℕ)) → AreColumns (limits_of format) cs → FitsKind (Put cs)
put_fits format cs are =
    let room = few_columns (limits_of format) cs are in
    let most = column_room format in
    (omega (arith, room, most), columns_fit format cs are.0)

-- lawful numbers fit the fields of an erase
pub erase_fits : (format : Format) (ns : List ℕ) → AreNumbers (limits_of format) ns → FitsKind (Erase ns)
erase_fits format ns are =
    let room = numbers_room (limits_of format) ns are in
    let most = column_room format in
    (omega (arith, room, most), bytes ns are.0)
  where
    bytes : (ms : List ℕ) → AllByRecursion (λ number. number ≤ (limits_of format).column) ms → AllByRecursion (λ number. number < 2 ^ 8) ms
    bytes [] all = tt
    bytes (m ∷ ms) all = (omega (arith, all.0, column_room format), bytes ms all.1)

-- what an allowed kind carries fits its fields
pub kind_fits : (format : Format) (kind : Kind) → AllowsKind (limits_of format) kind → FitsKind kind
kind_fits format (Put columns) allowed = put_fits format columns allowed.0
kind_fits format Remove allowed = tt
kind_fits format (Whole columns) allowed = put_fits format columns allowed.0
kind_fits format (Erase numbers) allowed = erase_fits format numbers allowed.1

-- a lawful change fits its fields
change_fits : (format : Format) (change : Option Change) → IfSome change (IsLoggedChange (limits_of format)) → IfSome change FitsLogged
change_fits format None lawful = tt
change_fits format (Some change) lawful =
    let key = key_room format in
    (record { version = lawful.0.version_fits; key = omega (arith, lawful.0.key, key); kind = kind_fits format change.kind lawful.0.kind }, lawful.1)

-- a lawful record fits its fields
pub lawful_fits : (format : Format) (r : Logged) → IsLawful (limits_of format) r → Fits r
lawful_fits format r lawful = (lawful.0, change_fits format r.change lawful.1)

-- a count and lawful columns take at most 1 byte, and 65538 for each column number
pub carried_length : (limits : Limits) (cs : List (ℕ × List ℕ)) → AreColumns limits cs → suc (length (flat_map column_bytes cs)) ≤ 1 + suc limits.column * 65538
carried_length limits cs are =
    let room = few_columns limits cs are in
    let columns = columns_length limits cs are.0 in
    omega (arith, columns, room)

-- so does what an allowed kind carries
pub kind_length : (limits : Limits) (kind : Kind) → AllowsKind limits kind → length (kind_bytes kind) ≤ 1 + suc limits.column * 65538
kind_length limits (Put columns) allowed = carried_length limits columns allowed.0
kind_length limits Remove allowed = omega arith
kind_length limits (Whole columns) allowed = carried_length limits columns allowed.0
kind_length limits (Erase numbers) allowed =
    let room = numbers_room limits numbers allowed.1 in
    omega (arith, room)

-- the body of a lawful record, by its timestamp and change, has an allowed length
body_length : (limits : Limits) (t : ℕ) (change : Option Change) → IfSome change (IsLoggedChange limits) → IsRecordLength limits (length (body_of t change))
body_length limits t None lawful = (omega arith, omega arith)
body_length limits t (Some change) lawful =
    let carried = kind_length limits change.kind lawful.0.kind in
    let all = length-append change.key (kind_bytes change.kind) in
    (omega (arith, all), omega (arith, all, carried, lawful.0.key))

-- the body of a lawful record has an allowed length
pub lawful_length : (limits : Limits) (r : Logged) → IsLawful limits r → IsRecordLength limits (length (body r))
lawful_length limits r lawful = body_length limits r.timestamp r.change lawful.1
