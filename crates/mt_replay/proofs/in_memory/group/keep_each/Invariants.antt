use Rattle.mt_replay.proofs.InMemory.{AreBoth}
use Rattle.mt_replay.proofs.in_memory.group.keep_each.Given as goal

-- the slots so far are taken in
abbrev pub invariant-loop-number : goal.invariant-loop-number
invariant-loop-number l = AreBoth l.fn.kept l.fn.writes l.number l.kept l.rest
