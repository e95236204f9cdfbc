use Rattle.std.proofs.Common.{◌-◌, ◌≤◌, length, take}
use Rattle.mt_replay.specs.Steps.Walker.{IsMade}
use Rattle.mt_replay.proofs.WalkerLemmas.{IsStart}
use Rattle.mt_replay.proofs.replay.replay_sorted.Given as goal

-- the walk of the keys so far
abbrev pub invariant-loop-at : goal.invariant-loop-at
invariant-loop-at g l = record {
  within : l.at ≤ length l.sorted;
  start : IsStart l.sorted l.at;
  made : IsMade (take l.at l.sorted) (g.S.PairSink.pairs l.sink);
}

abbrev pub decreases-loop-at : goal.decreases-loop-at
decreases-loop-at g l = length l.sorted - l.at
