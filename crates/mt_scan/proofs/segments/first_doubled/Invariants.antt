use Rattle.std.proofs.Common.{ℕ, ◌<◌}
use Rattle.mt_scan.specs.Steps.Segments.{IsFrontDoubled}
use Rattle.mt_scan.proofs.segments.first_doubled.Given as goal

-- none of the files so far is doubled
abbrev pub invariant-loop-i : goal.invariant-loop-i
invariant-loop-i l = (j : ℕ) → j < l.i → IsFrontDoubled l.fronts j → ⊥
