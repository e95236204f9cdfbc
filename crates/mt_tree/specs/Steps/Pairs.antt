-- Pairs of keys and columns.
use Rattle.std.specs.Prelude.{ℕ, suc, ◌+◌, ◌*◌, ◌≤◌, List, [], ◌∷◌, length, min, Option, Some, None, if◌then◌else◌, nat_eq}
use Rattle.std.specs.List.{AllByRecursion}
use Rattle.std.specs.Cmp.Lexicographic.{pointwise}
use Rattle.mt_words.specs.Limits.{widest}
use Rattle.mt_words.specs.Slices.{slice_in}
use Rattle.mt_words.specs.Walks.{Pair}

-- the rank of a key's place: ten times the key's slice, and its length; all keys longer than 8 bytes count as 9
abbrev pub key_rank : List ℕ → ℕ
key_rank key = slice_in key * 10 + min (length key) 9

-- the columns of the first pair with this key, or none if no pair has it
abbrev pub find_key : List ℕ → List Pair → Option (List (ℕ × List ℕ))
find_key key [] = None
find_key key (pair ∷ rest) = (if pointwise nat_eq key pair.0 then Some pair.1 else find_key key rest)

-- the weight of a walk: the number of its key bytes, and one for each pair
abbrev pub weight : List Pair → ℕ
weight [] = 0
weight (pair ∷ rest) = suc (length pair.0) + weight rest

-- with so many bytes before them, the keys are still no longer than a key may be
abbrev pub FitsAfter : ℕ → List Pair → Type 0
FitsAfter before = AllByRecursion (λ pair. before + length pair.0 ≤ widest.key)
