-- Columns as bytes, and back.
use Rattle.std.proofs.Common.{◌≡◌, ℕ, zero, suc, ◌-◌, ◌*◌, ◌^◌, ◌<◌, ◌≤◌, List, [], ◌∷◌, ◌++◌, length, take, drop, refl, sym, ap, ◌∙◌, subst, append_assoc, arith}
use Rattle.std.proofs.Math.Seq.{take-append_seam, drop-append_seam}
use Rattle.std.proofs.lemmas.List.{append-nil, length-append}
use Rattle.std.proofs.lemmas.List.Concat.{flat_map-cons, flat_map-append}
use Rattle.std.specs.Prelude.{slice_index}
use Rattle.std.specs.List.{flat_map, AllByRecursion}
use Rattle.byteorder.specs.Endian.{big_bytes, big_from}
use Rattle.byteorder.specs.Numbers.{big_number-reads_back, length-bytes_high_first}
use Rattle.mt_words.specs.declared.limits.Format.{Format}
use Rattle.mt_words.specs.declared.limits.Limits.{Limits}
use Rattle.mt_words.specs.Limits.{limits_of, widest, widest_format}
use Rattle.mt_words.specs.Words.{IsColumn, AreColumns, NumbersRise}
use Rattle.mt_words.specs.Columns.{CanFollow, NumbersBelow}
use Rattle.mt_words.specs.Packed.{with_length, column_bytes, packed, FitsColumn, AreSpelled, columns_from, columns_counted, AreLentColumns, ArePacked}
use Rattle.mt_words.proofs.Formats.{within}
use Rattle.mt_words.proofs.Rising.{columns_below, columns_room, columns_push}

-- ---- what bytes begin with

-- prefixes of the same length are equal, and so is what follows them
pub same_split : {A : Type 0} (a b x y : List A) → length a ≡ length b → a ++ x ≡ b ++ y → (a ≡ b) × (x ≡ y)
same_split [] [] x y same e = (refl, e)
same_split [] (q ∷ b) x y same e = absurd (omega arith)
same_split (p ∷ a) [] x y same e = absurd (omega arith)
same_split (p ∷ a) (q ∷ b) x y same e =
    let tails : a ++ x ≡ b ++ y = cc in
    let rest = same_split a b x y (omega arith) tails in
    let fronts : a ≡ b = rest.0 in
    (cc, rest.1)

-- bytes begin with only one number
pub same_number : (n a b : ℕ) (x y : List ℕ) → a < 256 ^ n → b < 256 ^ n → big_bytes n a ++ x ≡ big_bytes n b ++ y → (a ≡ b) × (x ≡ y)
same_number n a b x y fits_a fits_b e = (
  sym (big_number-reads_back n a x fits_a) ∙ ap (big_from 0 n) e ∙ big_number-reads_back n b y fits_b,
  (same_split (big_bytes n a) (big_bytes n b) x y (length-bytes_high_first n a ∙ sym (length-bytes_high_first n b)) e).1,
)

-- bytes begin with only one list of with_length bytes
pub same_counted : (a b x y : List ℕ) → length a < 2 ^ 16 → length b < 2 ^ 16 → with_length a ++ x ≡ with_length b ++ y → (a ≡ b) × (x ≡ y)
same_counted a b x y fits_a fits_b e =
    let apart : big_bytes 2 (length a) ++ (a ++ x) ≡ big_bytes 2 (length b) ++ (b ++ y) =
    sym (append_assoc (big_bytes 2 (length a)) a x) ∙ e ∙ append_assoc (big_bytes 2 (length b)) b y in
    let number = same_number 2 (length a) (length b) (a ++ x) (b ++ y) fits_a fits_b apart in
    same_split a b x y number.0 number.1

-- bytes begin with only one column
pub same_column : (c d : ℕ × List ℕ) (x y : List ℕ) → FitsColumn c → FitsColumn d → column_bytes c ++ x ≡ column_bytes d ++ y → (c ≡ d) × (x ≡ y)
same_column c d x y fits_c fits_d e =
    let first : c.0 ≡ d.0 = cc in
    let rest : with_length c.1 ++ x ≡ with_length d.1 ++ y = cc in
    let bytes = same_counted c.1 d.1 x y fits_c.1 fits_d.1 rest in
    (λ i. (first i, bytes.0 i), bytes.1)

-- the length before some bytes is read back
pub counted_front : (front more : List ℕ) → length front < 2 ^ 16 → big_from 0 2 (with_length front ++ more) ≡ length front
counted_front front more below = big_number-reads_back 2 (length front) (front ++ more) below

pub take_front : (n : ℕ) (front more : List ℕ) → n ≡ length front → take n (front ++ more) ≡ front
take_front n front more same = subst (λ m. take m (front ++ more) ≡ front) (sym same) (take-append_seam front more)

pub drop_front : (n : ℕ) (front more : List ℕ) → n ≡ length front → drop n (front ++ more) ≡ more
drop_front n front more same = subst (λ m. drop m (front ++ more) ≡ more) (sym same) (drop-append_seam front more)

-- ---- lawful columns

-- column numbers fit in a byte, and so does the count of columns
pub column_room : (format : Format) → suc (limits_of format).column < 2 ^ 8
column_room format = omega (arith, (within format).column)

-- lawful columns are at most as many as there are column numbers
pub few_columns : (limits : Limits) (cs : List (ℕ × List ℕ)) → AreColumns limits cs → length cs ≤ suc limits.column
few_columns limits cs are = columns_room cs (suc limits.column) are.1 (columns_below limits cs are.0)

-- lawful columns fit their fields
pub columns_fit : (format : Format) (cs : List (ℕ × List ℕ)) → AllByRecursion (IsColumn (limits_of format)) cs → AllByRecursion FitsColumn cs
columns_fit format [] all = tt
columns_fit format (c ∷ cs) all =
    let room = column_room format in
    ((omega (arith, all.0.0), omega (arith, all.0.1)), columns_fit format cs all.1)

-- lawful columns take at most 65538 bytes each
pub columns_length : (limits : Limits) (cs : List (ℕ × List ℕ)) → AllByRecursion (IsColumn limits) cs → length (flat_map column_bytes cs) ≤ 65538 * length cs
columns_length limits [] all = omega arith
columns_length limits (c ∷ cs) all =
    let rest = columns_length limits cs all.1 in
    omega (arith, rest, all.0.1, length-append c.1 (flat_map column_bytes cs))

-- in columns with rising numbers from `low` on, each number is at least `low`
rise_from : (low : ℕ) (xs ds : List (ℕ × List ℕ)) (c : ℕ × List ℕ) → NumbersRise low (xs ++ c ∷ ds) → low ≤ c.0
rise_from low [] ds c rise = rise.0
rise_from low (x ∷ xs) ds c rise = omega (arith, rise_from (suc x.0) xs ds c rise.1)

-- in columns with rising numbers, each number is above those before it
rise_below : (low : ℕ) (xs ds : List (ℕ × List ℕ)) (c : ℕ × List ℕ) → NumbersRise low (xs ++ c ∷ ds) → NumbersBelow xs c.0
rise_below low [] ds c rise = tt
rise_below low (x ∷ xs) ds c rise = (rise_from (suc x.0) xs ds c rise.1, rise_below (suc x.0) xs ds c rise.1)

-- if all columns are lawful, so is one in the middle
pub all_at : (limits : Limits) (xs ds : List (ℕ × List ℕ)) (c : ℕ × List ℕ) → AllByRecursion (IsColumn limits) (xs ++ c ∷ ds) → IsColumn limits c
all_at limits [] ds c all = all.0
all_at limits (x ∷ xs) ds c all = all_at limits xs ds c all.1

-- in lawful columns, each column may follow those before it
pub may_follow : (limits : Limits) (xs ds : List (ℕ × List ℕ)) (c : ℕ × List ℕ) → AreColumns limits (xs ++ c ∷ ds) → CanFollow limits xs c
may_follow limits xs ds c are = (all_at limits xs ds c are.0, rise_below 0 xs ds c are.1)

-- ---- decoding

-- encoded columns decode to the same columns
columns_back : (cs : List (ℕ × List ℕ)) (more : List ℕ) → AllByRecursion FitsColumn cs → columns_from (length cs) (flat_map column_bytes cs ++ more) ≡ cs
columns_back [] more all = refl
columns_back (c ∷ cs) more all =
    let after = flat_map column_bytes cs ++ more in
    let regrouped : flat_map column_bytes (c ∷ cs) ++ more ≡ column_bytes c ++ after = append_assoc (column_bytes c) (flat_map column_bytes cs) more in
    let n = counted_front c.1 after all.0.1 in
    let front = take_front (big_from 0 2 (with_length c.1 ++ after)) c.1 after n in
    let rest = drop_front (big_from 0 2 (with_length c.1 ++ after)) c.1 after n in
    let tail = columns_back cs more all.1 in
    subst (λ bytes. columns_from (suc (length cs)) bytes ≡ c ∷ cs) (sym regrouped) (λ i. (c.0, front i) ∷ (ap (columns_from (length cs)) rest ∙ tail) i)

-- so do columns with nothing after them
pub some_back : (cs : List (ℕ × List ℕ)) → AllByRecursion FitsColumn cs → columns_from (length cs) (flat_map column_bytes cs) ≡ cs
some_back cs all = subst (λ bytes. columns_from (length cs) bytes ≡ cs) (append-nil (flat_map column_bytes cs)) (columns_back cs [] all)

-- decoding gives the column at the front, then the others
pub next_column : (n left : ℕ) (bytes after : List ℕ) (c : ℕ × List ℕ) → left ≡ suc n → FitsColumn c → bytes ≡ column_bytes c ++ after
    → AreLentColumns left bytes
    → (columns_from left bytes ≡ c ∷ columns_from n after) × IsColumn widest c × AreLentColumns n after
next_column n left bytes after c more fit same are =
    let length_is = counted_front c.1 after fit.1 in
    let front = take_front (big_from 0 2 (with_length c.1 ++ after)) c.1 after length_is in
    let rest = drop_front (big_from 0 2 (with_length c.1 ++ after)) c.1 after length_is in
    let here : columns_from (suc n) (column_bytes c ++ after) ≡ c ∷ columns_from n after = λ i. (c.0, front i) ∷ columns_from n (rest i) in
    let is : columns_from left bytes ≡ c ∷ columns_from n after = (λ i. columns_from (more i) (same i)) ∙ here in
    let all : AreSpelled left bytes (c ∷ columns_from n after) = subst (AreSpelled left bytes) is are.spelled in
    let lawful : AllByRecursion (IsColumn widest) (c ∷ columns_from n after) = subst (AllByRecursion (IsColumn widest)) is are.lawful in (
      is,
      lawful.0,
      record {
        spelled = record {
          number = omega (arith, all.number, more);
          spelled = (same_column c c after (flat_map column_bytes (columns_from n after)) fit all.fits.0 (sym same ∙ all.spelled)).1;
          fits = all.fits.1;
        };
        lawful = lawful.1;
      },
    )

-- bytes that begin with a column are not no columns
pub some_left : (left : ℕ) (bytes after : List ℕ) (c : ℕ × List ℕ) → bytes ≡ column_bytes c ++ after → AreLentColumns left bytes → left ≡ suc (left - 1)
some_left zero bytes after c same are = absurd (omega (arith, ap length (sym are.spelled.spelled ∙ same)))
some_left (suc n) bytes after c same are = omega arith

-- bytes that do not begin with a column are not n columns, for n above 0
pub no_columns : (n : ℕ) (bytes : List ℕ) (cs : List (ℕ × List ℕ)) → ((c : ℕ × List ℕ) (more : List ℕ) → FitsColumn c → bytes ≡ column_bytes c ++ more → ⊥) → 0 < n
    → AreSpelled n bytes cs → ⊥
no_columns n bytes [] none some s = absurd (omega (arith, s.number))
no_columns n bytes (c ∷ cs) none some s = none c (flat_map column_bytes cs) s.fits.0 s.spelled

-- if the bytes begin with no column, no column is left
pub no_column : (left : ℕ) (bytes : List ℕ) → AreLentColumns left bytes → ((c : ℕ × List ℕ) (more : List ℕ) → FitsColumn c → bytes ≡ column_bytes c ++ more → ⊥) → columns_from left bytes ≡ []
no_column zero bytes are none = refl
no_column (suc n) bytes are none = absurd (no_columns (suc n) bytes (columns_from (suc n) bytes) none (omega arith) are.spelled)

-- ---- blocks

-- the block of lawful columns decodes to these columns
pub packed_are : (bytes : List ℕ) (cs : List (ℕ × List ℕ)) → AreColumns widest cs → bytes ≡ packed cs → ArePacked bytes × (columns_counted bytes ≡ cs)
packed_are bytes cs are same =
    let back : columns_counted bytes ≡ cs = ap columns_counted same ∙ some_back cs (columns_fit widest_format cs are.0) in
    (record { spelled = same ∙ ap packed (sym back); lawful = subst (AreColumns widest) (sym back) are }, back)

-- a block is a count and that many lawful columns
pub lent_columns : (bytes : List ℕ) → ArePacked bytes → AreLentColumns (slice_index bytes 0) (drop 1 bytes)
lent_columns bytes are = record {
  spelled = record { number = ap (λ (xs : List ℕ). slice_index xs 0) (sym are.spelled); spelled = ap (drop 1) are.spelled; fits = columns_fit widest_format (columns_counted bytes) are.lawful.0 };
  lawful = are.lawful.0;
}

-- a block takes less than 2 ^ 25 bytes
pub packed_few : (bytes : List ℕ) → ArePacked bytes → length bytes < 2 ^ 25
packed_few bytes are =
    let cs = columns_counted bytes in
    omega (arith, ap length are.spelled, columns_length widest cs are.lawful.0, few_columns widest cs are.lawful)

-- one more column at the end, and one more in the count
pub packed_push : (cs : List (ℕ × List ℕ)) (c : ℕ × List ℕ) → packed (cs ++ c ∷ []) ≡ suc (length cs) ∷ (flat_map column_bytes cs ++ column_bytes c)
packed_push cs c =
    let number : length (cs ++ c ∷ []) ≡ suc (length cs) = omega (arith, length-append cs (c ∷ [])) in
    let columns : flat_map column_bytes (cs ++ c ∷ []) ≡ flat_map column_bytes cs ++ column_bytes c =
    flat_map-append column_bytes cs (c ∷ []) ∙ ap (λ (x : List ℕ). flat_map column_bytes cs ++ x) (flat_map-cons column_bytes c [] ∙ append-nil (column_bytes c)) in
    λ i. number i ∷ columns i

-- a block to which a column that may follow was appended
pub pushed : (bytes new : List ℕ) (c : ℕ × List ℕ) → ArePacked bytes → CanFollow widest (columns_counted bytes) c
    → new ≡ suc (slice_index bytes 0) ∷ (drop 1 bytes ++ column_bytes c) → ArePacked new × (columns_counted new ≡ columns_counted bytes ++ c ∷ [])
pushed bytes new c are follows same =
    let cs = columns_counted bytes in
    let lent = (lent_columns bytes are).spelled in
    let number : suc (slice_index bytes 0) ≡ suc (length cs) = ap suc (sym lent.number) in
    let columns : drop 1 bytes ++ column_bytes c ≡ flat_map column_bytes cs ++ column_bytes c = ap (λ (x : List ℕ). x ++ column_bytes c) lent.spelled in
    let all : suc (slice_index bytes 0) ∷ (drop 1 bytes ++ column_bytes c) ≡ suc (length cs) ∷ (flat_map column_bytes cs ++ column_bytes c) = λ i. number i ∷ columns i in
    packed_are new (cs ++ c ∷ []) (columns_push widest cs c are.lawful follows) (same ∙ all ∙ sym (packed_push cs c))
