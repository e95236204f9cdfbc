-- The first of files for which something holds, if there is one.
use Rattle.std.specs.Prelude.{ℕ, Option, Some, None}
use Rattle.mt_scan.specs.Segments.{IsFirst}

-- the least number for which `P` holds, or none if there is no such number
abbrev pub IsFirstOrNone : (ℕ → Type 0) → Option ℕ → Type 0
IsFirstOrNone P None = (i : ℕ) → P i → ⊥
IsFirstOrNone P (Some i) = IsFirst P i
