use Rattle.std.proofs.Common.{arith}
use Rattle.mt_words.specs.OneLog.{as_list}
use Rattle.mt_replay.proofs.BatchLemmas.{survivors_step}
use Rattle.mt_replay.proofs.batch.list_survivors.Goals as goal

pub loop-number-preserved : goal.loop-number-preserved
loop-number-preserved c =
    survivors_step c.args.window c.args.share.now c.loop-number.number c.args.survivors.now.items c.loop-number.survivors.items c.add_survivor.new.survivors.items (as_list c.update.result)
    (omega (arith, c.loop-number-test.true, c.len-number-end.ensures)) c.update.ensures c.loop-number.invariant c.in_ok-add_survivor.ensures
