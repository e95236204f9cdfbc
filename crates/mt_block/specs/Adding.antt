-- Appending bytes to a vector.
use Rattle.std.specs.Prelude.{◌≡◌, ℕ, ◌+◌, ◌≤◌, List, ◌++◌, length, Vec, vec_len, vec_capacity}

-- the vector has room for `count` more bytes
abbrev pub HasRoom : {Z : Type 0} → ℕ → Vec ℕ Z → Type 0
HasRoom count out = vec_len out + count ≤ vec_capacity out

-- the bytes were appended, and the capacity did not shrink
pub record Adds {Z : Type 0} (bytes : List ℕ) (old new : Vec ℕ Z) : Type 0 where
  pub items : new.items ≡ old.items ++ bytes
  pub len : vec_len new ≡ vec_len old + length bytes
  pub room : vec_capacity old ≤ vec_capacity new
