-- Stores as lists: keys in order, each with its columns. Also lists joined end to end.
use Rattle.std.specs.Prelude.{ℕ, ◌<◌, List, [], ◌∷◌, length, Contains}
use Rattle.std.specs.List.{flat_map, AllByRecursion}
use Rattle.mt_words.specs.Limits.{widest}
use Rattle.mt_words.specs.Words.{IsKey, IsBelow, AreColumns}

-- a key with its columns
abbrev pub Pair : Type 0
Pair = List ℕ × List (ℕ × List ℕ)

-- lists joined end to end
abbrev pub joined : {X : Type 0} → List (List X) → List X
joined lists = flat_map (λ list. list) lists

-- the keys of the pairs strictly rise
abbrev pub KeysRise : List Pair → Type 0
KeysRise [] = Unit {0}
KeysRise (pair ∷ pairs) = AllByRecursion (λ other. IsBelow pair.0 other.0) pairs × KeysRise pairs

-- a lawful key with lawful columns, at least one
abbrev pub IsPair : Pair → Type 0
IsPair pair = IsKey widest pair.0 × AreColumns widest pair.1 × (0 < length pair.1)

-- a store: lawful pairs with at least one column each, whose keys strictly rise
abbrev pub IsMap : List Pair → Type 0
IsMap pairs = KeysRise pairs × AllByRecursion IsPair pairs

-- the pairs have the key, with a column of this number and these bytes
abbrev pub Holds : List Pair → List ℕ → ℕ → List ℕ → Type 0
Holds pairs key number bytes = (columns : List (ℕ × List ℕ)) × Contains pairs (key, columns) × Contains columns (number, bytes)
