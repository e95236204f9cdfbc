use Rattle.std.proofs.Common.{◌≡◌, take}
use Rattle.mt_replay.proofs.sorting.common_start.Given as goal

-- both begin alike
abbrev pub invariant-loop-at : goal.invariant-loop-at
invariant-loop-at l = take l.at l.first ≡ take l.at l.second
