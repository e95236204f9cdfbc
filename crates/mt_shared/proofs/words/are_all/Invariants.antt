use Rattle.std.proofs.Common.{◌≡◌, ℕ, ◌<◌, Some}
use Rattle.std.specs.Prelude.{slice_get}
use Rattle.mt_shared.specs.Words.{HandView}
use Rattle.mt_shared.proofs.words.are_all.Given as goal

abbrev pub invariant-loop-i : goal.invariant-loop-i
invariant-loop-i l = (k : ℕ) (hand : HandView) → k < l.i → slice_get l.hands k ≡ Some hand → hand.number ≡ k
