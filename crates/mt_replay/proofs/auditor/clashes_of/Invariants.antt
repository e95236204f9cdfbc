use Rattle.std.proofs.Common.{◌-◌, ◌≤◌, length, take}
use Rattle.mt_replay.specs.Clashes.{AreClashes}
use Rattle.mt_replay.proofs.WalkerLemmas.{IsStart}
use Rattle.mt_replay.proofs.auditor.clashes_of.Given as goal

-- the clashes of the keys so far
abbrev pub invariant-loop-at : goal.invariant-loop-at
invariant-loop-at l = record {
  within : l.at ≤ length l.sorted;
  start : IsStart l.sorted l.at;
  are : AreClashes (take l.at l.sorted) l.clashes.items;
}

abbrev pub decreases-loop-at : goal.decreases-loop-at
decreases-loop-at l = length l.sorted - l.at
