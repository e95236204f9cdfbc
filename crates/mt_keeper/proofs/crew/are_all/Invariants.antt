use Rattle.std.proofs.Common.{◌≡◌, ℕ, ◌<◌, Some}
use Rattle.std.specs.Prelude.{slice_get}
use Rattle.mt_keeper.specs.Crews.{LentView}
use Rattle.mt_keeper.proofs.crew.are_all.Given as goal

abbrev pub invariant-loop-i : goal.invariant-loop-i
invariant-loop-i l = (k : ℕ) (lent : LentView) → k < l.i → slice_get l.lent k ≡ Some lent → (lent.place ≡ k) × (slice_get l.numbers k ≡ Some lent.number)
