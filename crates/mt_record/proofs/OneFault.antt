-- The bytes after the records have at most one fault, and none if they are empty, torn or begin with a record.
use Rattle.std.proofs.Common.{◌≡◌, ◌⊎◌, inl, inr, ℕ, ◌<◌, ◌≤◌, List, [], ◌++◌, length, Option, Some, None, refl, sym, ◌∙◌, subst, arith}
use Rattle.std.specs.Prelude.{slice_index, IfSome}
use Rattle.byteorder.specs.Endian.{big_bytes}
use Rattle.mt_words.specs.declared.limits.Format.{Format}
use Rattle.mt_words.specs.declared.record.Change.{Change}
use Rattle.mt_words.specs.declared.update.Kind.{Kind as AnyKind}
use Rattle.mt_words.specs.declared.update.Kind.TheVariants.{Put, Remove, Whole, Erase}
use Rattle.mt_words.specs.declared.fault.What.{What}
use Rattle.mt_words.specs.declared.fault.What.TheVariants.{Length, Trailer, Kind, Frame, Version, Key, Columns, Clock, Checksum}
use Rattle.mt_words.specs.declared.limits.Limits.{Limits}
use Rattle.mt_words.specs.Limits.{limits_of}
use Rattle.mt_words.specs.Words.{IsKey}
use Rattle.mt_words.specs.Changes.{Logged, changed, AllowsKind, IsLawful, IsLogged, IsLoggedChange}
use Rattle.mt_words.proofs.ColumnBytes.{same_split, same_number}
use Rattle.mt_record.specs.Spelling.{kind_byte, body_of, body, framed, Fits, IsRecordLength}
use Rattle.mt_record.specs.Logs.{IsTorn}
use Rattle.mt_record.specs.Fronts.{Stops}
use Rattle.mt_record.specs.LogFaults.{IsKindByte, HasLengthFault, HasFrame, BodyFault, RestFault}
use Rattle.mt_record.proofs.Unique.{same_body}
use Rattle.mt_words.proofs.Formats.{within}
use Rattle.mt_record.proofs.Frames.{body_frame, Begins, frame_begins, wrong_begins, none_begins}
use Rattle.mt_record.proofs.Lawful.{length_fits, lawful_fits, lawful_length}

-- ---- tests, one after the other

-- the first test fails, and the fault has its name; or it passes, and a later one fails
data Fails (what name : What) (Test : Type 0) (Behind : Test → Type 0) : Type 0 where
  here : what ≡ name → (Test → ⊥) → Fails what name Test Behind
  behind : (passed : Test) → Behind passed → Fails what name Test Behind

-- the same tests find only one fault, if the later tests do
one_name : {a b name : What} {Test : Type 0} {A B : Test → Type 0} → Fails a name Test A → Fails b name Test B → ((p q : Test) → A p → B q → a ≡ b) → a ≡ b
one_name (here x fails) (here y too) next = x ∙ sym y
one_name (here x fails) (behind q y) next = absurd (fails q)
one_name (behind p x) (here y fails) next = absurd (fails p)
one_name (behind p x) (behind q y) next = next p q x y

-- if the first test and the later ones pass, there is no fault
none_fails : {what name : What} {Test : Type 0} {Behind : Test → Type 0} → Test → ((p : Test) → Behind p → ⊥) → Fails what name Test Behind → ⊥
none_fails passed next (here x fails) = fails passed
none_fails passed next (behind p x) = next p x

-- ---- one fault of a body

-- what is wrong with the fields of a record
abbrev FieldFault : What → Limits → ℕ → Logged → Type 0
FieldFault what limits low r =
    Fails what Version (IfSome r.change (λ change. 0 < change.version)) (λ _. Fails what Key (IfSome r.change (λ change. IsKey limits change.key))
    (λ _. Fails what Columns (IfSome r.change (λ change. AllowsKind limits change.kind)) (λ _. (what ≡ Clock) × (r.timestamp < low))))

-- what is wrong with a body: the byte of its kind, its form as that of a record, or its fields
abbrev TestedBody : What → Limits → ℕ → List ℕ → Type 0
TestedBody what limits low bytes =
    Fails what Kind (IsKindByte limits (slice_index bytes 0)) (λ _. Fails what Frame ((r : Logged) × Fits r × (bytes ≡ body r)) (λ read. FieldFault what limits low read.0))

-- a lawful change passes these tests
passes : (limits : Limits) (change : Option Change) → IfSome change (IsLoggedChange limits)
    → IfSome change (λ c. 0 < c.version) × IfSome change (λ c. IsKey limits c.key) × IfSome change (λ c. AllowsKind limits c.kind)
passes limits None lawful = (tt, tt, tt)
passes limits (Some change) lawful = (lawful.0.version, lawful.0.key, lawful.0.kind)

-- a fault of a body is a failed test
tested_body : (what : What) (format : Format) (low : ℕ) (bytes : List ℕ) → BodyFault what (limits_of format) low bytes → TestedBody what (limits_of format) low bytes
tested_body Length format low bytes h = absurd h
tested_body Trailer format low bytes h = absurd h
tested_body Checksum format low bytes h = absurd h
tested_body Kind format low bytes h = here refl h
tested_body Frame format low bytes h = behind h.0 (here refl (λ read. h.1 read.0 read.1 read.2))
tested_body Version format low bytes (byte, h) = behind byte (behind (changed h.timestamp h.change, h.fits, h.spelled) (here refl (λ some. omega (arith, some, h.holds))))
tested_body Key format low bytes (byte, h) = behind byte (behind (changed h.timestamp h.change, h.fits, h.spelled) (behind h.holds.0 (here refl h.holds.1)))
tested_body Columns format low bytes (byte, h) = behind byte (behind (changed h.timestamp h.change, h.fits, h.spelled) (behind h.holds.version (behind h.holds.key (here refl h.holds.refused))))
tested_body Clock format low bytes (byte, h) =
    let lawful_change = passes (limits_of format) h.logged.change h.lawful.1 in
    behind byte (behind (h.logged, lawful_fits format h.logged h.lawful, h.spelled) (behind lawful_change.0 (behind lawful_change.1 (behind lawful_change.2 (refl, h.earlier)))))

-- a body has at most one fault
one_body : (limits : Limits) (low : ℕ) (bytes : List ℕ) (a b : What) → TestedBody a limits low bytes → TestedBody b limits low bytes → a ≡ b
one_body limits low bytes a b h k = one_name h k (λ _ _ f g. one_name f g one_read)
  where
    one_read : (x y : (r : Logged) × Fits r × (bytes ≡ body r)) → FieldFault a limits low x.0 → FieldFault b limits low y.0 → a ≡ b
    one_read x y f g =
        let there = subst (FieldFault a limits low) (same_body x.0 y.0 x.1 y.1 (sym x.2 ∙ y.2)) f in
        one_name there g (λ _ _ f g. one_name f g (λ _ _ f g. one_name f g (λ _ _ f g. f.0 ∙ sym g.0)))

-- if a format allows a kind of record, it has the kind's byte
has_kind_byte : (format : Format) (kind : AnyKind) → AllowsKind (limits_of format) kind → IsLogged kind → IsKindByte (limits_of format) (kind_byte kind)
has_kind_byte format (Put columns) allowed logged = (omega arith, omega (arith, (within format).kinds))
has_kind_byte format Remove allowed logged = (omega arith, omega (arith, (within format).kinds))
has_kind_byte format (Whole columns) allowed logged = absurd logged
has_kind_byte format (Erase numbers) allowed logged = (omega arith, allowed.0)

-- so the body of a lawful record begins with such a byte
body_byte : (format : Format) (t : ℕ) (change : Option Change) → IfSome change (IsLoggedChange (limits_of format)) → IsKindByte (limits_of format) (slice_index (body_of t change) 0)
body_byte format t None lawful = (omega arith, (within format).kinds)
body_byte format t (Some change) lawful = has_kind_byte format change.kind lawful.0.kind lawful.1

-- the body of a lawful record whose timestamp is at least `low` has no fault
no_body : (format : Format) (low : ℕ) (r : Logged) (a : What) → IsLawful (limits_of format) r → low ≤ r.timestamp → TestedBody a (limits_of format) low (body r) → ⊥
no_body format low r a is le h =
    let fits = lawful_fits format r is in
    let lawful_change = passes (limits_of format) r.change is.1 in
    none_fails (body_byte format r.timestamp r.change is.1) (λ _ f. none_fails (r, fits, refl) (λ x g.
    none_fails lawful_change.0 (λ _ g. none_fails lawful_change.1 (λ _ g. none_fails lawful_change.2 (λ _ late. omega (arith, late.1, le)) g) g)
    (subst (FieldFault a (limits_of format) low) (same_body x.0 r x.1 fits (sym x.2)) g)) f) h

-- ---- one fault of the rest

-- an allowed length, that many bytes, and a number
abbrev Frames : Limits → List ℕ → Type 0
Frames limits rest = HasFrame (IsRecordLength limits) rest

-- what is wrong with framed bytes: the number after them, or the body that they are
abbrev TestedFrame : What → Limits → ℕ → List ℕ → ℕ → Type 0
TestedFrame what limits low bytes n = Fails what Trailer (n ≡ length bytes) (λ _. TestedBody what limits low bytes)

-- what is wrong with the rest: its length, or what is in its frame
abbrev TestedRest : What → Limits → ℕ → List ℕ → Type 0
TestedRest what limits low rest = ((what ≡ Length) × HasLengthFault (IsRecordLength limits) rest) ⊎ ((f : Frames limits rest) × TestedFrame what limits low f.body f.number)

-- a body between two copies of its length is a frame
abbrev body_frames : (format : Format) (rest bytes more : List ℕ) → IsRecordLength (limits_of format) (length bytes) → rest ≡ framed bytes ++ more → Frames (limits_of format) rest
body_frames format rest bytes more is e = body_frame (IsRecordLength (limits_of format)) (length_fits format) rest bytes more is e

-- a fault of the rest is a failed test
tested_rest : (what : What) (format : Format) (low : ℕ) (rest : List ℕ) → RestFault what (limits_of format) low rest → TestedRest what (limits_of format) low rest
tested_rest what format low rest = by what
  where
    in_body : (w : What) (bytes more : List ℕ) → IsRecordLength (limits_of format) (length bytes) → rest ≡ framed bytes ++ more → BodyFault w (limits_of format) low bytes
        → TestedRest w (limits_of format) low rest
    in_body w bytes more is e h = inr (body_frames format rest bytes more is e, behind refl (tested_body w format low bytes h))

    by : (w : What) → RestFault w (limits_of format) low rest → TestedRest w (limits_of format) low rest
    by Length h = inl (refl, h)
    by Trailer h = inr (h.0, here refl h.1)
    by w h = in_body w h.body h.more h.is_length h.spelled h.fault

-- a frame has no fault of its length
no_length : (format : Format) (rest : List ℕ) → HasLengthFault (IsRecordLength (limits_of format)) rest → Frames (limits_of format) rest → ⊥
no_length format rest h f =
    let fits = length_fits format (length f.body) f.is_length in
    let same = same_number 4 h.number (length f.body) h.more (f.body ++ (big_bytes 4 f.number ++ f.more)) h.fits fits (sym h.spelled ∙ f.spelled) in
    h.wrong (subst (IsRecordLength (limits_of format)) (sym same.0) f.is_length)

-- the rest begins with only one frame
same_frame : (format : Format) (rest : List ℕ) (what : What) (low : ℕ) (f g : Frames (limits_of format) rest) → TestedFrame what (limits_of format) low f.body f.number
    → TestedFrame what (limits_of format) low g.body g.number
same_frame format rest what low f g h =
    let behind_f = big_bytes 4 f.number ++ f.more in
    let behind_g = big_bytes 4 g.number ++ g.more in
    let fits_f = length_fits format (length f.body) f.is_length in
    let fits_g = length_fits format (length g.body) g.is_length in
    let sizes = same_number 4 (length f.body) (length g.body) (f.body ++ behind_f) (g.body ++ behind_g) fits_f fits_g (sym f.spelled ∙ g.spelled) in
    let bodies = same_split f.body g.body behind_f behind_g sizes.0 sizes.1 in
    let numbers = same_number 4 f.number g.number f.more g.more f.fits g.fits bodies.1 in
    subst (λ (p : List ℕ × ℕ). TestedFrame what (limits_of format) low p.0 p.1) (λ i. (bodies.0 i, numbers.0 i)) h

-- the rest has at most one fault
pub one_rest : (format : Format) (low : ℕ) (rest : List ℕ) (a b : What) → RestFault a (limits_of format) low rest → RestFault b (limits_of format) low rest
    → a ≡ b
one_rest format low rest a b h k = both (tested_rest a format low rest h) (tested_rest b format low rest k)
  where
    both : TestedRest a (limits_of format) low rest → TestedRest b (limits_of format) low rest → a ≡ b
    both (inl x) (inl y) = x.0 ∙ sym y.0
    both (inl x) (inr y) = absurd (no_length format rest x.1 y.0)
    both (inr x) (inl y) = absurd (no_length format rest y.1 x.0)
    both (inr x) (inr y) = one_name (same_frame format rest a low x.0 y.0 x.1) y.1 (λ _ _ f g. one_body (limits_of format) low y.0.body a b f g)

-- ---- what ends the records

-- if the rest has a fault, it does not begin with such a record
pub fault_stops : (format : Format) (low : ℕ) (rest : List ℕ) (a : What) → RestFault a (limits_of format) low rest → Stops (limits_of format) low rest
fault_stops format low rest a h r after is le e =
    let own = body_frames format rest (body r) after (lawful_length (limits_of format) r is) e in
    elim (tested_rest a format low rest h) as (λ _. ⊥) [
      | inl x ↦ no_length format rest x.1 own
      | inr x ↦ none_fails refl (λ _ f. no_body format low r a is le f) (same_frame format rest a low x.0 own x.1)
    ]

-- an empty or torn tail has too few bytes for the length at its front
no_end : (format : Format) (rest : List ℕ) → (rest ≡ []) ⊎ IsTorn (limits_of format) rest → Begins (IsRecordLength (limits_of format)) (length_fits format) rest → ⊥
no_end format rest = none_begins (IsRecordLength (limits_of format)) (length_fits format) rest

-- so it does not begin with such a record
pub end_stops : (format : Format) (low : ℕ) (rest : List ℕ) → (rest ≡ []) ⊎ IsTorn (limits_of format) rest → Stops (limits_of format) low rest
end_stops format low rest ends r after is le e =
    no_end format rest ends (frame_begins (IsRecordLength (limits_of format)) (length_fits format) rest (body_frames format rest (body r) after (lawful_length (limits_of format) r is) e))

-- and it has no fault
pub fault_no_end : (format : Format) (low : ℕ) (rest : List ℕ) (a : What) → RestFault a (limits_of format) low rest
    → (rest ≡ []) ⊎ IsTorn (limits_of format) rest → ⊥
fault_no_end format low rest a h ends = elim (tested_rest a format low rest h) as (λ _. ⊥) [
  | inl x ↦ no_end format rest ends (wrong_begins (IsRecordLength (limits_of format)) (length_fits format) rest x.1)
  | inr x ↦ no_end format rest ends (frame_begins (IsRecordLength (limits_of format)) (length_fits format) rest x.0)
]
