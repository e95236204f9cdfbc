use Rattle.std.proofs.Common.{ℕ, ◌<◌}
use Rattle.mt_keeper.specs.Keeping.{MayGo}
use Rattle.mt_keeper.proofs.keeper.Keeper.first_to_go.Given as goal

-- none so far may be deleted
abbrev pub invariant-loop-log : goal.invariant-loop-log
invariant-loop-log l = (number : ℕ) → number < l.log → MayGo l.self number → ⊥
