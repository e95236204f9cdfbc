-- Bytes begin with at most one thing of each kind.
use Rattle.std.proofs.Common.{◌≡◌, ℕ, ◌+◌, ◌^◌, ◌<◌, List, [], ◌∷◌, ◌++◌, length, drop, Option, Some, None, refl, sym, ap, ◌∙◌, append_assoc, arith}
use Rattle.std.specs.Prelude.{slice_index, IfSome}
use Rattle.std.proofs.lemmas.List.{length-append}
use Rattle.std.specs.List.{flat_map, AllByRecursion}
use Rattle.byteorder.specs.Endian.{big_bytes}
use Rattle.byteorder.specs.Numbers.{length-bytes_high_first}
use Rattle.mt_words.specs.declared.record.Change.{Change}
use Rattle.mt_words.specs.declared.update.Kind.{Kind}
use Rattle.mt_words.specs.declared.update.Kind.TheVariants.{Put, Remove, Whole, Erase}
use Rattle.mt_words.specs.Changes.{Logged}
use Rattle.mt_words.proofs.ColumnBytes.{same_number, same_counted, same_column}
pub use Rattle.mt_words.proofs.ColumnBytes.{same_split}
use Rattle.mt_record.specs.Spelling.{with_length, column_bytes, kind_byte, kind_bytes, change_bytes, body_of, body, framed, FitsColumn, FitsKind, FitsChange, FitsLogged, Fits}

-- ---- columns

-- bytes are a given number of columns in only one way
same_columns : (cs ds : List (ℕ × List ℕ)) → AllByRecursion FitsColumn cs → AllByRecursion FitsColumn ds → length cs ≡ length ds
    → flat_map column_bytes cs ≡ flat_map column_bytes ds → cs ≡ ds
same_columns [] [] fits_c fits_d number e = refl
same_columns [] (d ∷ ds) fits_c fits_d number e = absurd (omega arith)
same_columns (c ∷ cs) [] fits_c fits_d number e = absurd (omega arith)
same_columns (c ∷ cs) (d ∷ ds) fits_c fits_d number e =
    let first = same_column c d (flat_map column_bytes cs) (flat_map column_bytes ds) fits_c.0 fits_d.0 e in
    let rest = same_columns cs ds fits_c.1 fits_d.1 (omega arith) first.1 in
    λ i. first.0 i ∷ rest i

-- bytes are a count and its columns in only one way
same_carried : (cs ds : List (ℕ × List ℕ)) → AllByRecursion FitsColumn cs → AllByRecursion FitsColumn ds
    → length cs ∷ flat_map column_bytes cs ≡ length ds ∷ flat_map column_bytes ds → cs ≡ ds
same_carried cs ds fits_c fits_d e =
    let number : length cs ≡ length ds = ap (λ (x : List ℕ). slice_index x 0) e in
    let columns : flat_map column_bytes cs ≡ flat_map column_bytes ds = ap (drop 1) e in
    same_columns cs ds fits_c fits_d number columns

-- ---- bodies

-- a number is not equal to a greater one
pub apart : (a b : ℕ) → a < b → a ≡ b → ⊥
apart a b below same = omega arith

-- the same bytes are carried by only one kind with the same byte
same_kind : (a b : Kind) → FitsKind a → FitsKind b → kind_byte a ≡ kind_byte b → kind_bytes a ≡ kind_bytes b → a ≡ b
same_kind (Put cs) (Put ds) fits_a fits_b code e = ap Put (same_carried cs ds fits_a.1 fits_b.1 e)
same_kind (Put cs) Remove fits_a fits_b code e = absurd (apart 1 2 (omega arith) code)
same_kind (Put cs) (Whole ds) fits_a fits_b code e = absurd (apart 0 1 (omega arith) (sym code))
same_kind (Put cs) (Erase ms) fits_a fits_b code e = absurd (apart 1 4 (omega arith) code)
same_kind Remove (Put ds) fits_a fits_b code e = absurd (apart 1 2 (omega arith) (sym code))
same_kind Remove Remove fits_a fits_b code e = refl
same_kind Remove (Whole ds) fits_a fits_b code e = absurd (apart 0 2 (omega arith) (sym code))
same_kind Remove (Erase ms) fits_a fits_b code e = absurd (apart 2 4 (omega arith) code)
same_kind (Whole cs) (Put ds) fits_a fits_b code e = absurd (apart 0 1 (omega arith) code)
same_kind (Whole cs) Remove fits_a fits_b code e = absurd (apart 0 2 (omega arith) code)
same_kind (Whole cs) (Whole ds) fits_a fits_b code e = ap Whole (same_carried cs ds fits_a.1 fits_b.1 e)
same_kind (Whole cs) (Erase ms) fits_a fits_b code e = absurd (apart 0 4 (omega arith) code)
same_kind (Erase ns) (Put ds) fits_a fits_b code e = absurd (apart 1 4 (omega arith) (sym code))
same_kind (Erase ns) Remove fits_a fits_b code e = absurd (apart 2 4 (omega arith) (sym code))
same_kind (Erase ns) (Whole ds) fits_a fits_b code e = absurd (apart 0 4 (omega arith) (sym code))
same_kind (Erase ns) (Erase ms) fits_a fits_b code e = ap Erase (ap (drop 1) e)

-- bytes are the fields of only one change whose kind has this byte
pub same_change : (a b : Change) → FitsChange a → FitsChange b → kind_byte a.kind ≡ kind_byte b.kind → change_bytes a ≡ change_bytes b → a ≡ b
same_change a b fits_a fits_b code e =
    let left = with_length a.key ++ kind_bytes a.kind in
    let right = with_length b.key ++ kind_bytes b.kind in
    let version = same_number 8 a.version b.version left right fits_a.version fits_b.version e in
    let key = same_counted a.key b.key (kind_bytes a.kind) (kind_bytes b.kind) fits_a.key fits_b.key version.1 in
    let kind = same_kind a.kind b.kind fits_a.kind fits_b.kind code key.1 in
    λ i. record { version = version.0 i; key = key.0 i; kind = kind i }

-- no kind has the byte of a mark
pub no_mark : (kind : Kind) → 3 ≡ kind_byte kind → ⊥
no_mark (Put columns) same = apart 1 3 (omega arith) (sym same)
no_mark Remove same = apart 2 3 (omega arith) (sym same)
no_mark (Whole columns) same = apart 0 3 (omega arith) (sym same)
no_mark (Erase numbers) same = apart 3 4 (omega arith) same

-- bytes are the body of only one timestamp and change
same_body_of : (t u : ℕ) (a b : Option Change) → t < 2 ^ 64 → u < 2 ^ 64 → IfSome a FitsLogged → IfSome b FitsLogged
    → body_of t a ≡ body_of u b → (t ≡ u) × (a ≡ b)
same_body_of t u None None fits_t fits_u fits_a fits_b e =
    let tails : big_bytes 8 t ++ [] ≡ big_bytes 8 u ++ [] = ap (drop 1) e in
    ((same_number 8 t u [] [] fits_t fits_u tails).0, refl)
same_body_of t u None (Some b) fits_t fits_u fits_a fits_b e = absurd (no_mark b.kind (ap (λ (x : List ℕ). slice_index x 0) e))
same_body_of t u (Some a) None fits_t fits_u fits_a fits_b e = absurd (no_mark a.kind (sym (ap (λ (x : List ℕ). slice_index x 0) e)))
same_body_of t u (Some a) (Some b) fits_t fits_u fits_a fits_b e =
    let code : kind_byte a.kind ≡ kind_byte b.kind = ap (λ (x : List ℕ). slice_index x 0) e in
    let tails : big_bytes 8 t ++ change_bytes a ≡ big_bytes 8 u ++ change_bytes b = ap (drop 1) e in
    let time = same_number 8 t u (change_bytes a) (change_bytes b) fits_t fits_u tails in
    (time.0, ap Some (same_change a b fits_a.0 fits_b.0 code time.1))

-- bytes are the body of only one record
pub same_body : (r s : Logged) → Fits r → Fits s → body r ≡ body s → r ≡ s
same_body r s fits_r fits_s e =
    let same = same_body_of r.timestamp s.timestamp r.change s.change fits_r.0 fits_s.0 fits_r.1 fits_s.1 e in
    λ i. record { timestamp = same.0 i; change = same.1 i }

-- ---- frames

-- a frame has eight bytes more than its body
pub length_framed : (bytes : List ℕ) → length (framed bytes) ≡ length bytes + 8
length_framed bytes =
    let number = big_bytes 4 (length bytes) in
    let four : length number ≡ 4 = length-bytes_high_first 4 (length bytes) in
    omega (arith, four, length-append number (bytes ++ number), length-append bytes number)

-- a frame is a length, the bytes and the length again
pub framed_apart : (bytes more : List ℕ) → framed bytes ++ more ≡ big_bytes 4 (length bytes) ++ (bytes ++ (big_bytes 4 (length bytes) ++ more))
framed_apart bytes more =
    append_assoc (big_bytes 4 (length bytes)) (bytes ++ big_bytes 4 (length bytes)) more
    ∙ ap (λ (x : List ℕ). big_bytes 4 (length bytes) ++ x) (append_assoc bytes (big_bytes 4 (length bytes)) more)

-- bytes begin with only one frame
pub same_framed : (a b x y : List ℕ) → length a < 2 ^ 32 → length b < 2 ^ 32 → framed a ++ x ≡ framed b ++ y → (a ≡ b) × (x ≡ y)
same_framed a b x y fits_a fits_b e =
    let apart = sym (framed_apart a x) ∙ e ∙ framed_apart b y in
    let number = same_number 4 (length a) (length b) (a ++ (big_bytes 4 (length a) ++ x)) (b ++ (big_bytes 4 (length b) ++ y)) fits_a fits_b apart in
    let bytes = same_split a b (big_bytes 4 (length a) ++ x) (big_bytes 4 (length b) ++ y) number.0 number.1 in
    let after = same_number 4 (length a) (length b) x y fits_a fits_b bytes.1 in
    (bytes.0, after.1)
