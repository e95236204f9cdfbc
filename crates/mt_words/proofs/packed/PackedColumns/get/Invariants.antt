use Rattle.std.proofs.Common.{ℕ, List, length, Contains, ◌↔◌}
use Rattle.mt_words.proofs.packed.PackedColumns.get.Given as goal

-- if a column has the number, it is among those that are left
abbrev pub invariant-loop-here : goal.invariant-loop-here
invariant-loop-here l = (bytes : List ℕ) → Contains l.self (l.number, bytes) ↔ Contains l.rest (l.number, bytes)

abbrev pub decreases-loop-here : goal.decreases-loop-here
decreases-loop-here l = length l.rest
