use Rattle.std.proofs.Common.{◌≡◌, ◌<◌, ℕ, Option, Some, None}
use Rattle.std.specs.Prelude.{slice_get}
use Rattle.mt_replay.specs.Cells.{Written}
use Rattle.mt_replay.proofs.group.clear_first.Given as goal

-- the slots so far are free
abbrev pub invariant-loop-write : goal.invariant-loop-write
invariant-loop-write g l = (number : ℕ) (slot : Option Written) → number < l.write-index → slice_get l.write-items number ≡ Some slot → slot ≡ None
