use Rattle.std.proofs.Common.{◌+◌, ◌≤◌}
use Rattle.mt_keeper.proofs.Least.{AreNoLess}
use Rattle.mt_keeper.proofs.keeper.Keeper.acknowledged_below.Given as goal

-- the least is at most each reach so far, and at most the next stamp
abbrev pub invariant-loop-log : goal.invariant-loop-log
invariant-loop-log l = AreNoLess l.least l.log-index l.log-items × (l.least ≤ l.self.clock + 1)
