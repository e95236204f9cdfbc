use Rattle.std.proofs.Common.{arith}
use Rattle.mt_replay.proofs.CellLemmas.{front_free}
use Rattle.mt_replay.proofs.group.clear_first.Goals as goal

pub returns-clause-free : goal.returns-clause-free
returns-clause-free g c = λ number slot _ is. front_free c.loop-write.write-items c.args.writes.now c.from.result c.loop-write.auto.write-items
    (λ n s below at. c.loop-write.invariant n s (omega (arith, below, c.loop-write.auto.write-items)) at) (λ n s above at. c.requires.free n s (omega (arith, above, c.from.ensures)) at) number slot is
