-- Keys and columns: which bytes are a key, and which pairs of a number and bytes are a column.
use Rattle.std.specs.Prelude.{ℕ, suc, ◌≤◌, List, [], ◌∷◌, length, map, IsTrue}
use Rattle.std.specs.List.{AllByRecursion}
use Rattle.std.specs.Ordering.{nat_cmp, is_lt}
use Rattle.std.specs.Cmp.Lexicographic.{slice_cmp}
use Rattle.mt_words.specs.declared.limits.TheConstants.{LONGEST_VALUE}
use Rattle.mt_words.specs.declared.limits.Limits.{Limits}

-- a key: at most as many bytes as the limits allow
abbrev pub IsKey : Limits → List ℕ → Type 0
IsKey limits bytes = length bytes ≤ limits.key

-- the first key is below the second: the first byte that differs decides, and a prefix comes first
abbrev pub IsBelow : List ℕ → List ℕ → Type 0
IsBelow a b = IsTrue (is_lt (slice_cmp nat_cmp a b))

-- strictly rising lists of bytes, so that each occurs once
abbrev pub AreRising : List (List ℕ) → Type 0
AreRising [] = Unit {0}
AreRising (key ∷ keys) = AllByRecursion (IsBelow key) keys × AreRising keys

-- a lawful column: a number that the limits allow, and a value of at most LONGEST_VALUE bytes
abbrev pub IsColumn : Limits → ℕ × List ℕ → Type 0
IsColumn limits column = (column.0 ≤ limits.column) × (length column.1 ≤ LONGEST_VALUE)

-- the numbers strictly rise, and the first is at least `low`
abbrev pub Rise : ℕ → List ℕ → Type 0
Rise low [] = Unit {0}
Rise low (number ∷ numbers) = (low ≤ number) × Rise (suc number) numbers

-- column numbers that the limits allow, strictly rising
abbrev pub AreNumbers : Limits → List ℕ → Type 0
AreNumbers limits numbers = AllByRecursion (λ number. number ≤ limits.column) numbers × Rise 0 numbers

abbrev pub numbers_in : List (ℕ × List ℕ) → List ℕ
numbers_in columns = map (λ column. column.0) columns

-- the numbers of the columns strictly rise, and the first is at least `low`
abbrev pub NumbersRise : ℕ → List (ℕ × List ℕ) → Type 0
NumbersRise low columns = Rise low (numbers_in columns)

-- the columns of one key: lawful columns in strictly rising order of their numbers
abbrev pub AreColumns : Limits → List (ℕ × List ℕ) → Type 0
AreColumns limits columns = AllByRecursion (IsColumn limits) columns × NumbersRise 0 columns
