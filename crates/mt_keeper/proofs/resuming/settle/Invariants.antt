use Rattle.mt_keeper.proofs.Staging.{AreSettled}
use Rattle.mt_keeper.proofs.resuming.settle.Given as goal

-- the logs so far are among all, and the others are as they were
abbrev pub invariant-loop-i : goal.invariant-loop-i
invariant-loop-i l = AreSettled l.fn.logs l.i l.logs
