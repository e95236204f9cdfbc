-- The values of a store, as C asks for them.
use Rattle.std.specs.Prelude.{◌⊎◌, ℕ, List, Contains}
use Rattle.mt_words.specs.Walks.{Pair}

-- the value of this column of this key
pub record IsValue (pairs : List Pair) (key : List ℕ) (column : ℕ) (bytes : List ℕ) : Type 0 where
  pub columns : List (ℕ × List ℕ)
  pub has_key : Contains pairs (key, columns)
  pub has_column : Contains columns (column, bytes)

-- a pair has this key
pub record HasKey (pairs : List Pair) (key : List ℕ) : Type 0 where
  pub columns : List (ℕ × List ℕ)
  pub has_key : Contains pairs (key, columns)

-- no pair has this key
abbrev pub IsNoKey : List Pair → List ℕ → Type 0
IsNoKey pairs key = (columns : List (ℕ × List ℕ)) → Contains pairs (key, columns) → ⊥

-- the key is there without this column
pub record LacksColumn (pairs : List Pair) (key : List ℕ) (column : ℕ) : Type 0 where
  pub columns : List (ℕ × List ℕ)
  pub has_key : Contains pairs (key, columns)
  pub lacks : (bytes : List ℕ) → Contains columns (column, bytes) → ⊥

-- the key has no such column, or there is no such key
pub record IsAbsent (pairs : List Pair) (key : List ℕ) (column : ℕ) : Type 0 where
  pub why : IsNoKey pairs key ⊎ LacksColumn pairs key column
