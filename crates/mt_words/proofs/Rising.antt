-- Rising numbers, and columns with rising numbers.
use Rattle.std.proofs.Common.{◌≡◌, ℕ, zero, suc, ◌+◌, ◌<◌, ◌≤◌, List, [], ◌∷◌, ◌++◌, length, get_or, sym, subst, arith}
use Rattle.std.proofs.lemmas.List.{nil_from_length, map-append, length-map, get_or-map}
use Rattle.std.specs.List.{AllByRecursion}
use Rattle.mt_words.specs.declared.limits.Limits.{Limits}
use Rattle.mt_words.specs.Limits.{widest}
use Rattle.mt_words.specs.Words.{Rise, AreNumbers, IsColumn, numbers_in, NumbersRise, AreColumns}
use Rattle.mt_words.specs.Columns.{AllBelow, NumbersBelow, CanFollow}

-- if P holds of all elements and of one more, it holds of all after that one is appended
pub all_push : {A : Type 0} (P : A → Type 0) (xs : List A) (x : A) → AllByRecursion P xs → P x → AllByRecursion P (xs ++ x ∷ [])
all_push P [] x all one = (one, tt)
all_push P (y ∷ ys) x all one = (all.0, all_push P ys x all.1 one)

-- if P holds of all elements, it holds of all those at the front
all_front : {A : Type 0} (P : A → Type 0) (xs ys : List A) → AllByRecursion P (xs ++ ys) → AllByRecursion P xs
all_front P [] ys all = tt
all_front P (x ∷ xs) ys all = (all.0, all_front P xs ys all.1)

-- ---- numbers

rise_push : (low : ℕ) (ns : List ℕ) (n : ℕ) → low ≤ n → Rise low ns → AllBelow ns n → Rise low (ns ++ n ∷ [])
rise_push low [] n least rise below = (least, tt)
rise_push low (m ∷ ms) n least rise below = (rise.0, rise_push (suc m) ms n (omega arith) rise.1 below.1)

rise_front : (low : ℕ) (xs ys : List ℕ) → Rise low (xs ++ ys) → Rise low xs
rise_front low [] ys rise = tt
rise_front low (x ∷ xs) ys rise = (rise.0, rise_front (suc x) xs ys rise.1)

-- a number that comes after rising ones is above them all
rise_above : (low : ℕ) (ns : List ℕ) (n : ℕ) → Rise low (ns ++ n ∷ []) → AllBelow ns n
rise_above low [] n rise = tt
rise_above low (m ∷ ms) n rise = (least (suc m) ms rise.1, rise_above (suc m) ms n rise.1)
  where
    least : (low : ℕ) (ms : List ℕ) → Rise low (ms ++ n ∷ []) → low ≤ n
    least low [] rise = rise.0
    least low (k ∷ ks) rise = omega (arith, rise.0, least (suc k) ks rise.1)

-- a list of numbers that rise from `low` on and are below n has at most n - low elements
pub rise_room : (low : ℕ) (ns : List ℕ) (n : ℕ) → low ≤ n → Rise low ns → AllBelow ns n → low + length ns ≤ n
rise_room low [] n least rise below = omega arith
rise_room low (m ∷ ms) n least rise below = omega (arith, rise_room (suc m) ms n (omega arith) rise.1 below.1)

-- a number above the last of rising numbers is above them all
pub above_last : (low : ℕ) (ns : List ℕ) (i n d : ℕ) → Rise low ns → i + 1 ≡ length ns → get_or ns i d < n → AllBelow ns n
above_last low [] i n d rise last lt = absurd (omega arith)
above_last low (m ∷ ms) zero n d rise last lt = let none : ms ≡ [] = nil_from_length ms (omega arith) in rw none (lt, tt)
above_last low (m ∷ []) (suc i) n d rise last lt = absurd (omega arith)
above_last low (m ∷ k ∷ ks) (suc i) n d rise last lt =
    let rest = above_last (suc m) (k ∷ ks) i n d rise.1 (omega arith) lt in
    let first : m < n = omega (arith, rest.0, rise.1.0) in
    (first, rest)

pub below_at : (ns : List ℕ) (i n d : ℕ) → i < length ns → AllBelow ns n → get_or ns i d < n
below_at [] i n d lt below = absurd (omega arith)
below_at (m ∷ ms) zero n d lt below = below.0
below_at (m ∷ ms) (suc i) n d lt below = below_at ms i n d (omega arith) below.1

-- numbers below `suc most` are at most `most`
pub up_to : (most : ℕ) (ns : List ℕ) → AllBelow ns (suc most) → AllByRecursion (λ number. number ≤ most) ns
up_to most [] below = tt
up_to most (n ∷ ns) below = (omega (arith, below.0), up_to most ns below.1)

pub below_next : (most : ℕ) (ns : List ℕ) → AllByRecursion (λ number. number ≤ most) ns → AllBelow ns (suc most)
below_next most [] up = tt
below_next most (n ∷ ns) up = (omega (arith, up.0), below_next most ns up.1)

-- column numbers with one more at the end are column numbers exactly if that one is allowed and above the others
pub numbers_push : (limits : Limits) (ns : List ℕ) (n : ℕ) → AreNumbers limits ns → n ≤ limits.column → AllBelow ns n → AreNumbers limits (ns ++ n ∷ [])
numbers_push limits ns n are le below = (all_push (λ number. number ≤ limits.column) ns n are.0 le, rise_push 0 ns n (omega arith) are.1 below)

pub last_number : (limits : Limits) (ns : List ℕ) (n : ℕ) → AreNumbers limits (ns ++ n ∷ []) → (n ≤ limits.column) × AllBelow ns n
last_number limits ns n are = (last ns are.0, rise_above 0 ns n are.1)
  where
    last : (ms : List ℕ) → AllByRecursion (λ number. number ≤ limits.column) (ms ++ n ∷ []) → n ≤ limits.column
    last [] all = all.0
    last (m ∷ ms) all = last ms all.1

-- the front of a list of column numbers is a list of column numbers
pub numbers_front : (limits : Limits) (xs ys : List ℕ) → AreNumbers limits (xs ++ ys) → AreNumbers limits xs
numbers_front limits xs ys are = (all_front (λ number. number ≤ limits.column) xs ys are.0, rise_front 0 xs ys are.1)

-- a list of column numbers has at most `limits.column + 1` elements
pub numbers_room : (limits : Limits) (ns : List ℕ) → AreNumbers limits ns → length ns ≤ suc limits.column
numbers_room limits ns are = omega (arith, rise_room 0 ns (suc limits.column) (omega arith) are.1 (below_next limits.column ns are.0))

-- ---- columns, by their numbers

numbers_below : (columns : List (ℕ × List ℕ)) (n : ℕ) → NumbersBelow columns n → AllBelow (numbers_in columns) n
numbers_below [] n below = tt
numbers_below (c ∷ cs) n below = (below.0, numbers_below cs n below.1)

columns_of : (columns : List (ℕ × List ℕ)) (n : ℕ) → AllBelow (numbers_in columns) n → NumbersBelow columns n
columns_of [] n below = tt
columns_of (c ∷ cs) n below = (below.0, columns_of cs n below.1)

numbers_length : (columns : List (ℕ × List ℕ)) → length (numbers_in columns) ≡ length columns
numbers_length columns = length-map columns (λ (c : ℕ × List ℕ). c.0)

-- columns with one more at the end are columns if that one can follow them
pub columns_push : (limits : Limits) (columns : List (ℕ × List ℕ)) (column : ℕ × List ℕ) → AreColumns limits columns → CanFollow limits columns column → AreColumns limits (columns ++ column ∷ [])
columns_push limits columns column are follows = (
  all_push (IsColumn limits) columns column are.0 follows.0,
  subst (Rise 0) (sym (map-append (λ (c : ℕ × List ℕ). c.0) columns (column ∷ []))) (rise_push 0 (numbers_in columns) column.0 (omega arith) are.1 (numbers_below columns column.0 follows.1)),
)

-- the front of a list of columns is a list of columns
pub columns_front : (limits : Limits) (xs ys : List (ℕ × List ℕ)) → AreColumns limits (xs ++ ys) → AreColumns limits xs
columns_front limits xs ys are = (
  all_front (IsColumn limits) xs ys are.0,
  rise_front 0 (numbers_in xs) (numbers_in ys) (subst (Rise 0) (map-append (λ (c : ℕ × List ℕ). c.0) xs ys) are.1),
)

-- a list of columns with rising numbers below n has at most n elements
pub columns_room : (columns : List (ℕ × List ℕ)) (n : ℕ) → NumbersRise 0 columns → NumbersBelow columns n → length columns ≤ n
columns_room columns n rise below = omega (arith, rise_room 0 (numbers_in columns) n (omega arith) rise (numbers_below columns n below), numbers_length columns)

-- the number at a position is that of the column there
number_at : (columns : List (ℕ × List ℕ)) (i : ℕ) (c : ℕ × List ℕ) → i < length columns → get_or (numbers_in columns) i 0 ≡ (get_or columns i c).0
number_at columns i c lt = get_or-map (λ (c : ℕ × List ℕ). c.0) columns i c 0 lt

-- a number above that of the last column is above those of all columns
pub above_last_column : (columns : List (ℕ × List ℕ)) (i n : ℕ) (d : ℕ × List ℕ) → NumbersRise 0 columns → i + 1 ≡ length columns → (get_or columns i d).0 < n → NumbersBelow columns n
above_last_column columns i n d rise last lt =
    columns_of columns n (above_last 0 (numbers_in columns) i n 0 rise (omega (arith, last, numbers_length columns)) (omega (arith, lt, number_at columns i d (omega (arith, last)))))

pub below_at_column : (columns : List (ℕ × List ℕ)) (i n : ℕ) (d : ℕ × List ℕ) → i < length columns → NumbersBelow columns n → (get_or columns i d).0 < n
below_at_column columns i n d lt below = omega (arith, number_at columns i d lt, below_at (numbers_in columns) i n 0 (omega (arith, lt, numbers_length columns)) (numbers_below columns n below))

-- columns within the widest limits whose numbers are at most `limits.column` are within these limits
pub columns_up_to : (limits : Limits) (columns : List (ℕ × List ℕ)) → AllByRecursion (IsColumn widest) columns → NumbersBelow columns (suc limits.column) → AllByRecursion (IsColumn limits) columns
columns_up_to limits [] all below = tt
columns_up_to limits (c ∷ cs) all below = ((omega (arith, below.0), all.0.1), columns_up_to limits cs all.1 below.1)

pub columns_below : (limits : Limits) (columns : List (ℕ × List ℕ)) → AllByRecursion (IsColumn limits) columns → NumbersBelow columns (suc limits.column)
columns_below limits [] all = tt
columns_below limits (c ∷ cs) all = (omega (arith, all.0.0), columns_below limits cs all.1)
