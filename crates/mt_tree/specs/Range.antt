-- Ranges of a walk, and what a range query returns.
use Rattle.std.specs.Prelude.{ℕ, Bool, false, not, List, map, filter, take, slice_index_or}
use Rattle.std.specs.Ordering.{nat_cmp, is_lt}
use Rattle.std.specs.Cmp.Lexicographic.{slice_cmp}
use Rattle.mt_words.specs.Walks.{Pair}
use Rattle.mt_tree.specs.declared.hit.Hit.{Hit}

-- whether the pair's key is at or after the start
abbrev pub is_from : List ℕ → Pair → Bool
is_from start pair = not (is_lt (slice_cmp nat_cmp pair.0 start))

-- the pairs whose keys are at or after the start
abbrev pub from : List ℕ → List Pair → List Pair
from start walk = filter (is_from start) walk

-- the first n pairs of a walk whose keys are at or after the start
abbrev pub range : List Pair → List ℕ → ℕ → List Pair
range walk start n = take n (from start walk)

-- whether this number is wanted, by flags that have one entry for each number
abbrev pub wants : List Bool → ℕ → Bool
wants flags number = slice_index_or flags number false

-- the wanted columns
abbrev pub wanted_of : List Bool → List (ℕ × List ℕ) → List (ℕ × List ℕ)
wanted_of flags columns = filter (λ column. wants flags column.0) columns

-- the pair with only its wanted columns, perhaps none
abbrev pub hit_of : List Bool → Pair → Hit
hit_of flags pair = record { key = pair.0; columns = wanted_of flags pair.1 }

-- the hits of a range; a pair counts even if it has none of the wanted columns
abbrev pub hits : List Bool → List Pair → List ℕ → ℕ → List Hit
hits flags walk start n = map (hit_of flags) (range walk start n)
