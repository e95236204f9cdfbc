-- The columns that a server gave, one after the other.
use Rattle.std.proofs.Common.{◌≡◌, ℕ, zero, suc, ◌+◌, ◌<◌, ◌≤◌, List, [], ◌∷◌, length, map, drop, get_or, sym, subst, arith}
use Rattle.std.proofs.lemmas.List.{get_or-map, length-map}
use Rattle.std.specs.Prelude.{Vec}
use Rattle.std.specs.List.{AllByRecursion}
use Rattle.mt_words.specs.declared.limits.Limits.{Limits}
use Rattle.mt_words.specs.Limits.{widest, widest_format}
use Rattle.mt_words.specs.Words.{AreColumns, IsColumn, NumbersRise, Rise}
use Rattle.mt_record.specs.declared.encode.given.Given.{Given}
use Rattle.mt_record.specs.Given.{column_of}
use Rattle.mt_record.specs.Spelling.{column_bytes, FitsColumn}
use Rattle.mt_record.specs.Steps.Adding.{Adds}
use Rattle.mt_record.proofs.Encoding.{first_bytes, one_more, adds_both}
use Rattle.mt_record.proofs.Lawful.{put_fits}

-- the columns from a position on are lawful, and their numbers are at least `least`
abbrev pub AreFrom : Limits → ℕ → ℕ → List Given → Type 0
AreFrom limits least i columns = AllByRecursion (IsColumn limits) (map column_of (drop i columns)) × NumbersRise least (map column_of (drop i columns))

-- so are column numbers
abbrev pub NumbersFrom : Limits → ℕ → ℕ → List ℕ → Type 0
NumbersFrom limits least i numbers = AllByRecursion (λ number. number ≤ limits.column) (drop i numbers) × Rise least (drop i numbers)

-- ---- one column

-- the position is one of what the columns say
pub below_all : (columns : List Given) (i : ℕ) → i < length columns → i < length (map column_of columns)
below_all columns i below = omega (arith, below, length-map columns column_of)

-- what a column says stands there among what all of them say
pub given_at : (columns : List Given) (i : ℕ) (d : Given) → i < length columns → column_of (get_or columns i d) ≡ get_or (map column_of columns) i (column_of (get_or columns i d))
given_at columns i d below = sym (get_or-map column_of columns i d (column_of (get_or columns i d)) below)

all_at : {X : Type 0} (P : X → Type 0) (xs : List X) (i : ℕ) (d : X) → AllByRecursion P xs → i < length xs → P (get_or xs i d)
all_at P [] i d all below = absurd (omega (arith, below))
all_at P (x ∷ xs) zero d all below = all.0
all_at P (x ∷ xs) (suc i) d all below = all_at P xs i d all.1 (omega (arith, below))

-- each of lawful columns fits its fields
pub fits_at : (columns : List Given) (i : ℕ) (d : Given) → AreColumns widest (map column_of columns) → i < length columns → FitsColumn (column_of (get_or columns i d))
fits_at columns i d are below =
    subst FitsColumn (sym (given_at columns i d below))
    (all_at FitsColumn (map column_of columns) i (column_of (get_or columns i d)) (put_fits widest_format (map column_of columns) are).1 (below_all columns i below))

-- one more column was appended
pub adds_given : {Z : Type 0} (n : ℕ) (columns : List Given) (i : ℕ) (d : Given) (old out new : Vec ℕ Z) → i < length columns
    → Adds (n ∷ first_bytes i (map column_of columns)) old out → Adds (column_bytes (column_of (get_or columns i d))) out new → Adds (n ∷ first_bytes (i + 1) (map column_of columns)) old new
adds_given n columns i d old out new below so_far one =
    subst (λ (bytes : List ℕ). Adds (n ∷ bytes) old new)
    (sym (one_more (map column_of columns) i (column_of (get_or columns i d)) (below_all columns i below) (given_at columns i d below))) (adds_both so_far one)
