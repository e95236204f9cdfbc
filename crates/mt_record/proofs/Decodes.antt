-- Decoding a body gives the record that it encodes.
use Rattle.std.proofs.Common.{◌≡◌, ℕ, zero, suc, eqb, ◌^◌, ◌<◌, ◌≤◌, ◌-◌, List, [], ◌∷◌, ◌++◌, length, drop, map, Option, Some, None, Bool, true, false, ◌↔◌, refl, sym, ap, subst, ◌∙◌, arith}
use Rattle.std.proofs.lemmas.List.{take_all}
use Rattle.std.specs.Prelude.{IfSome, slice_index}
use Rattle.std.specs.List.{AllByRecursion}
use Rattle.byteorder.specs.Endian.{big_bytes}
use Rattle.byteorder.specs.Numbers.{big_number-reads_back}
use Rattle.mt_words.specs.declared.code.Code.{Code}
use Rattle.mt_words.specs.declared.code.Code.TheVariants as codes
use Rattle.mt_words.specs.declared.code.Payload.{Payload}
use Rattle.mt_words.specs.declared.code.Payload.TheVariants as payloads
use Rattle.mt_words.specs.declared.record.Change.{Change}
use Rattle.mt_words.specs.declared.update.Kind.{Kind}
use Rattle.mt_words.specs.declared.update.Kind.TheVariants.{Put, Remove, Whole, Erase}
use Rattle.mt_words.specs.declared.update.Update.{Update}
use Rattle.mt_words.specs.Limits.{widest, widest_format}
use Rattle.mt_words.specs.Codes.{code_of, byte_of, payload_of, Clears}
use Rattle.mt_words.specs.Words.{AreNumbers}
use Rattle.mt_words.specs.Changes.{Logged, changed, IsLawful, IsLawfulChange, IsLoggedChange, AllowsKind, IsReset, set, writes_of}
use Rattle.mt_words.specs.Writes.{AreWrites}
use Rattle.mt_words.proofs.WriteLemmas.{set_writes, set_columns, erase_writes, erase_numbers}
use Rattle.mt_words.specs.Updates.{update_at}
use Rattle.mt_words.specs.Packed.{ArePacked}
use Rattle.mt_words.proofs.ColumnBytes.{counted_front, take_front, drop_front, some_back, next_column, lent_columns}
use Rattle.mt_record.specs.Spelling.{with_length, column_bytes, kind_byte, kind_bytes, change_bytes, body_of, body, FitsColumn, FitsKind, FitsChange}
use Rattle.mt_record.proofs.Lawful.{key_room, put_fits, erase_fits}
use Rattle.mt_record.specs.Decoding.{columns_counted, numbers_counted, writes_from, writes_carried, kind_from, change_unless, is_mark_in, code_from, code_in, time_in, version_in, key_length_in, key_in, carried_in, kind_in, change_in, update_in, change_unless, decode, IsSoundChange, IsBody, IsChangeBody, IsEntryBody, IsCarried, AreLent, AreCounted}

-- ---- the fields of a body

-- the body of a change, field by field; each field is read back below
abbrev change_body : ℕ → ℕ → List ℕ → ℕ → List ℕ → List ℕ
change_body code t key v carried = code ∷ (big_bytes 8 t ++ (big_bytes 8 v ++ (with_length key ++ carried)))

time_back : (code t : ℕ) (rest : List ℕ) → t < 2 ^ 64 → time_in (code ∷ (big_bytes 8 t ++ rest)) ≡ t
unfolding time_in
time_back code t rest below = big_number-reads_back 8 t rest below

version_back : (code t v : ℕ) (key carried : List ℕ) → v < 2 ^ 64 → version_in (change_body code t key v carried) ≡ v
unfolding version_in
version_back code t v key carried below = big_number-reads_back 8 v (with_length key ++ carried) below

key_length_back : (code t v : ℕ) (key carried : List ℕ) → length key < 2 ^ 16 → key_length_in (change_body code t key v carried) ≡ length key
unfolding key_length_in
key_length_back code t v key carried below = counted_front key carried below

key_back : (code t v : ℕ) (key carried : List ℕ) → length key < 2 ^ 16 → key_in (change_body code t key v carried) ≡ key
unfolding key_in
key_back code t v key carried below = take_front (key_length_in (change_body code t key v carried)) key carried (key_length_back code t v key carried below)

carried_back : (code t v : ℕ) (key carried : List ℕ) → length key < 2 ^ 16 → carried_in (change_body code t key v carried) ≡ carried
unfolding carried_in
carried_back code t v key carried below = drop_front (key_length_in (change_body code t key v carried)) key carried (key_length_back code t v key carried below)

-- ---- the kind

pub mark_back : (t : ℕ) → t < 2 ^ 64 → decode (body_of t None) ≡ record { timestamp = t; change = None }
unfolding is_mark_in
mark_back t below = λ i. record { timestamp = time_back 3 t [] below i; change = None }

-- the body of a change decodes to that change if its byte and the bytes carried decode to its kind
changed_back : (byte t v : ℕ) (key carried : List ℕ) (kind : Kind) → eqb byte 3 ≡ false → kind_from (code_from byte) carried ≡ kind → t < 2 ^ 64 → v < 2 ^ 64 → length key < 2 ^ 16
    → decode (change_body byte t key v carried) ≡ changed t (record { version = v; key = key; kind = kind })
unfolding is_mark_in code_in
changed_back byte t v key carried kind no_mark is fits_t fits_v fits_key =
    let made = ap (kind_from (code_from byte)) (carried_back byte t v key carried fits_key) ∙ is in
    λ i. record {
      timestamp = time_back byte t (big_bytes 8 v ++ (with_length key ++ carried)) fits_t i;
      change = change_unless (no_mark i) (record { version = version_back byte t v key carried fits_v i; key = key_back byte t v key carried fits_key i; kind = made i });
    }

pub change_back : (t : ℕ) (change : Change) → t < 2 ^ 64 → FitsChange change → decode (body_of t (Some change)) ≡ changed t change
change_back t change fits_t fits = by_kind change.kind fits.kind
  where
    by_kind : (kind : Kind) → FitsKind kind
        → decode (body_of t (Some (record { version = change.version; key = change.key; kind = kind }))) ≡ changed t (record { version = change.version; key = change.key; kind = kind })
    by_kind (Put cs) fit = changed_back 1 t change.version change.key (kind_bytes (Put cs)) (Put cs) refl (ap Put (some_back cs fit.1)) fits_t fits.version fits.key
    by_kind Remove fit = changed_back 2 t change.version change.key [] Remove refl refl fits_t fits.version fits.key
    by_kind (Whole cs) fit = changed_back 0 t change.version change.key (kind_bytes (Whole cs)) (Whole cs) refl (ap Whole (some_back cs fit.1)) fits_t fits.version fits.key
    by_kind (Erase ns) fit = changed_back 4 t change.version change.key (kind_bytes (Erase ns)) (Erase ns) refl (ap Erase (take_all (length ns) ns (omega arith))) fits_t fits.version fits.key

-- ---- a record

-- a sound change fits its fields
fits_of : (change : Change) → IsSoundChange change → FitsChange change
fits_of change sound = record { version = sound.version; key = omega (arith, sound.key, key_room widest_format); kind = by_kind change.kind sound.writes }
  where
    by_kind : (kind : Kind) → AreWrites widest (writes_of kind) → FitsKind kind
    by_kind (Put cs) are = put_fits widest_format cs (set_columns widest cs are)
    by_kind Remove are = tt
    by_kind (Whole cs) are = put_fits widest_format cs (set_columns widest cs are)
    by_kind (Erase ns) are = erase_fits widest_format ns (erase_numbers widest ns are)

-- a lawful change is sound
pub lawful_sound : (change : Change) → IsLawfulChange widest change → IsSoundChange change
lawful_sound change lawful = record { version = lawful.version_fits; key = lawful.key; writes = by_kind change.kind lawful.kind }
  where
    by_kind : (kind : Kind) → AllowsKind widest kind → AreWrites widest (writes_of kind)
    by_kind (Put cs) allowed = set_writes widest cs allowed.0
    by_kind Remove allowed = (tt, tt)
    by_kind (Whole cs) allowed = set_writes widest cs allowed.0
    by_kind (Erase ns) allowed = erase_writes widest ns allowed.1

record_back : (t : ℕ) (change : Option Change) → t < 2 ^ 64 → IfSome change IsSoundChange → decode (body_of t change) ≡ record { timestamp = t; change = change }
record_back t None below sound = mark_back t below
record_back t (Some change) below sound = change_back t change below (fits_of change sound)

-- the body of a mark or of a sound change satisfies `IsBody` and decodes to its record
pub says : (bytes : List ℕ) (r : Logged) → r.timestamp < 2 ^ 64 → IfSome r.change IsSoundChange → bytes ≡ body r → (decode bytes ≡ r) × IsBody bytes
says bytes r below sound same =
    let back : decode bytes ≡ r = ap decode same ∙ record_back r.timestamp r.change below sound in (
      back,
      record {
        time = subst (λ (q : Logged). q.timestamp < 2 ^ 64) (sym back) below;
        change = subst (λ (q : Logged). IfSome q.change IsSoundChange) (sym back) sound;
        spelled = same ∙ ap body (sym back);
      },
    )

-- so does the body of a lawful record
pub body_says : (bytes : List ℕ) (r : Logged) → IsLawful widest r → bytes ≡ body r → (decode bytes ≡ r) × IsBody bytes
body_says bytes r lawful same = says bytes r lawful.0 (sound_change r.change lawful.1) same
  where
    sound_change : (change : Option Change) → IfSome change (IsLoggedChange widest) → IfSome change IsSoundChange
    sound_change None is = tt
    sound_change (Some change) is = lawful_sound change is.0

-- if `change_unless` gives a change, there is no mark, and it is the change that was passed
unmarked : (mark : Bool) (a b : Change) → change_unless mark a ≡ Some b → (mark ≡ false) × (a ≡ b)
unmarked true a b same = absurd cc
unmarked false a b same = (refl, cc)

-- the body of a lawful entry decodes to the entry
pub entry_says : (bytes : List ℕ) (entry : Change) → IsLawfulChange widest entry → bytes ≡ body_of 0 (Some entry) → (change_in bytes ≡ entry) × IsEntryBody bytes
entry_says bytes entry lawful same =
    let back = says bytes (changed 0 entry) (omega arith) (lawful_sound entry lawful) same in
    let change = unmarked (is_mark_in bytes) (change_in bytes) entry (ap (λ (r : Logged). r.change) back.0) in
    (change.1, record { change = (back.1, change.0); no_time = ap (λ (r : Logged). r.timestamp) back.0 })

-- the body of an update decodes to the update
pub update_says : (bytes : List ℕ) (u : Update) → u.timestamp < 2 ^ 64 → IsSoundChange (record { version = u.stamp.version; key = u.key; kind = u.kind })
    → bytes ≡ body_of u.timestamp (Some (record { version = u.stamp.version; key = u.key; kind = u.kind })) → IsChangeBody bytes × (update_in u.stamp.origin bytes ≡ u)
update_says bytes u below sound same =
    let back = says bytes (changed u.timestamp (record { version = u.stamp.version; key = u.key; kind = u.kind })) below sound same in
    let change = unmarked (is_mark_in bytes) (change_in bytes) (record { version = u.stamp.version; key = u.key; kind = u.kind }) (ap (λ (r : Logged). r.change) back.0) in
    let time = ap (λ (r : Logged). r.timestamp) back.0 in
    ((back.1, change.0), λ i. update_at u.stamp.origin (time i) (change.1 i))

-- ---- what a change carries

-- the body of a change is the encoding of its decoded fields
pub spelled_change : (bytes : List ℕ) → IsChangeBody bytes
    → bytes ≡ change_body (kind_byte (kind_in bytes)) (time_in bytes) (key_in bytes) (version_in bytes) (kind_bytes (kind_in bytes))
spelled_change bytes is = is.0.spelled ∙ ap (λ (mark : Bool). body_of (time_in bytes) (change_unless mark (change_in bytes))) is.1

pub change_sound : (bytes : List ℕ) → IsChangeBody bytes → IsSoundChange (change_in bytes)
change_sound bytes is = subst (λ (mark : Bool). IfSome (change_unless mark (change_in bytes)) IsSoundChange) is.1 is.0.change

change_fits : (bytes : List ℕ) → IsChangeBody bytes → FitsChange (change_in bytes)
change_fits bytes is = fits_of (change_in bytes) (change_sound bytes is)

-- after the first nine bytes of the body of a change come its fields
pub fields_there : (bytes : List ℕ) → IsChangeBody bytes → FitsChange (change_in bytes) × (drop 9 bytes ≡ change_bytes (change_in bytes))
fields_there bytes is = (change_fits bytes is, ap (drop 9) (spelled_change bytes is))

-- the bytes carried are those of the decoded kind, which fits its fields
pub carried_spelled : (bytes : List ℕ) → IsChangeBody bytes → (carried_in bytes ≡ kind_bytes (kind_in bytes)) × FitsKind (kind_in bytes)
carried_spelled bytes is =
    let same = spelled_change bytes is in
    let fit = change_fits bytes is in
    (ap carried_in same ∙ carried_back (kind_byte (kind_in bytes)) (time_in bytes) (version_in bytes) (key_in bytes) (kind_bytes (kind_in bytes)) fit.key, fit.kind)

-- the bytes carried are nothing, or a count and that many lawful writes
pub carried_is : (bytes : List ℕ) → IsChangeBody bytes → IsCarried (payload_of (code_in bytes)) (carried_in bytes)
carried_is bytes is =
    by_code (code_in bytes) (carried_spelled bytes is).0 (change_sound bytes is).writes
  where
    counted_are : (carried : List ℕ) → ArePacked carried → AreCounted payloads.Columns carried
    counted_are carried are = record { some = omega (arith, ap length are.spelled); writes = lent_columns carried are }

    numbers_are : (carried : List ℕ) → carried ≡ length (numbers_counted carried) ∷ numbers_counted carried → AreNumbers widest (numbers_counted carried) → AreCounted payloads.Numbers carried
    numbers_are carried same are =
        let rest : drop 1 carried ≡ numbers_counted carried = ap (drop 1) same in
        record {
          some = omega (arith, ap length same);
          writes = record {
            number = ap length rest ∙ ap (λ (xs : List ℕ). slice_index xs 0) (sym same);
            lawful = subst (AllByRecursion (λ number. number ≤ widest.column)) (sym rest) are.0;
          };
        }

    by_code : (code : Code) → carried_in bytes ≡ kind_bytes (kind_from code (carried_in bytes))
        → AreWrites widest (writes_of (kind_from code (carried_in bytes))) → IsCarried (payload_of code) (carried_in bytes)
    by_code codes.Whole same are = counted_are (carried_in bytes) (record { spelled = same; lawful = set_columns widest (columns_counted (carried_in bytes)) are })
    by_code codes.Put same are = counted_are (carried_in bytes) (record { spelled = same; lawful = set_columns widest (columns_counted (carried_in bytes)) are })
    by_code codes.Remove same are = same
    by_code codes.Erase same are = numbers_are (carried_in bytes) same (erase_numbers widest (numbers_counted (carried_in bytes)) are)

-- what a put or an entry carries is the block of the columns that it sets
pub carried_packed : (bytes : List ℕ) → IsChangeBody bytes → payload_of (code_in bytes) ≡ payloads.Columns
    → ArePacked (carried_in bytes) × (writes_of (kind_in bytes) ≡ map set (columns_counted (carried_in bytes)))
carried_packed bytes is = by_code (code_in bytes) (carried_spelled bytes is).0 (change_sound bytes is).writes
  where
    by_code : (code : Code) → carried_in bytes ≡ kind_bytes (kind_from code (carried_in bytes)) → AreWrites widest (writes_of (kind_from code (carried_in bytes)))
        → payload_of code ≡ payloads.Columns
        → ArePacked (carried_in bytes) × (writes_of (kind_from code (carried_in bytes)) ≡ map set (columns_counted (carried_in bytes)))
    by_code codes.Whole same are columns = (record { spelled = same; lawful = set_columns widest (columns_counted (carried_in bytes)) are }, refl)
    by_code codes.Put same are columns = (record { spelled = same; lawful = set_columns widest (columns_counted (carried_in bytes)) are }, refl)
    by_code codes.Remove same are columns = absurd cc
    by_code codes.Erase same are columns = absurd cc

-- the writes decoded from the bytes carried are those of the kind
pub carried_writes : (code : Code) (bytes : List ℕ) → writes_carried (payload_of code) bytes ≡ writes_of (kind_from code bytes)
carried_writes codes.Whole bytes = refl
carried_writes codes.Put bytes = refl
carried_writes codes.Remove bytes = refl
carried_writes codes.Erase bytes = refl

-- ---- codes

-- the kind decoded by a code has that code
same_code : (code : Code) (bytes : List ℕ) → code_of (kind_from code bytes) ≡ code
same_code codes.Whole bytes = refl
same_code codes.Put bytes = refl
same_code codes.Remove bytes = refl
same_code codes.Erase bytes = refl

pub code_clears : (bytes : List ℕ) → Clears (code_in bytes) ↔ IsReset (kind_in bytes)
code_clears bytes = rw (same_code (code_in bytes) (carried_in bytes)) (λ clears. clears, λ clears. clears)

-- the code whose byte is the body's first byte is the code of the body
pub code_read : (code : Code) (bytes : List ℕ) → byte_of code ≡ slice_index bytes 0 → code ≡ code_in bytes
unfolding code_in
code_read code bytes same = back code ∙ ap code_from same
  where
    back : (code : Code) → code ≡ code_from (byte_of code)
    back codes.Whole = refl
    back codes.Put = refl
    back codes.Remove = refl
    back codes.Erase = refl

-- the body of a change begins with the byte of its code
pub code_first : (bytes : List ℕ) → IsChangeBody bytes → byte_of (code_in bytes) ≡ slice_index bytes 0
code_first bytes is = ap byte_of (sym (same_code (code_in bytes) (carried_in bytes))) ∙ sym (ap (λ (xs : List ℕ). slice_index xs 0) (spelled_change bytes is))

-- ---- columns, one after the other

-- the first write sets the column at the front, and the other writes set the others
pub next_set : (payload : Payload) (left : ℕ) (bytes after : List ℕ) (c : ℕ × List ℕ) → payload ≡ payloads.Columns → AreLent payload left bytes → FitsColumn c → bytes ≡ column_bytes c ++ after
    → (writes_from payload left bytes ≡ set c ∷ writes_from payload (left - 1) after) × AreLent payload (left - 1) after
next_set payloads.Nothing left bytes after c is are fit same = absurd cc
next_set payloads.Numbers left bytes after c is are fit same = absurd cc
next_set payloads.Columns zero bytes after c is are fit same = absurd (omega (arith, ap length (sym are.spelled.spelled ∙ same)))
next_set payloads.Columns (suc n) bytes after c is are fit same =
    let next = next_column n (suc n) bytes after c refl fit same are in
    let one : suc n - 1 ≡ n = omega arith in
    rw one (ap (map set) next.0, next.2)
