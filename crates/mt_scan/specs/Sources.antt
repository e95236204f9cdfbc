-- Sources: what contracts see of them and of the buffers that they borrow, and what `advance` does.
use Rattle.std.specs.Prelude.{◌≡◌, ℕ, List, Option, Some, None, Bool}

-- What contracts see of a source: the bytes still to come, if they are known; a bound on their number; how often it failed; whether it never fails;
-- the bytes that it shows; whether every call from here on fails.
pub record Seen : Type 0 where
  pub told : Option (List ℕ)
  pub bound : ℕ
  pub failures : ℕ
  pub steady : Bool
  pub shown : List ℕ
  pub spent : Bool

-- the source may have these bytes: if its bytes are known, only those; else any bytes
abbrev pub Agrees : Option (List ℕ) → List ℕ → Type 0
Agrees None bytes = Unit {0}
Agrees (Some told) bytes = told ≡ bytes
