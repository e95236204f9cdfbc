use Rattle.std.proofs.Common.{ℕ, length, take}
use Rattle.mt_scan.specs.PartsShown.{shown_by_all}
use Rattle.mt_scan.specs.Choice.{AreInPlace}
use Rattle.mt_scan.specs.Steps.Checkpoints.{reading_of}
use Rattle.mt_scan.proofs.validity.are_in_place.Given as goal

-- the parts so far are in place
abbrev pub invariant-loop-place : goal.invariant-loop-place
invariant-loop-place l = (number : ℕ) → AreInPlace (reading_of number l.begin l.end l.texts) (length l.texts) 0 (shown_by_all (take l.place l.texts))
