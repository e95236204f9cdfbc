use Rattle.std.proofs.Common.{arith}
use Rattle.mt_words.specs.OneLog.{as_list}
use Rattle.mt_replay.proofs.BatchLemmas.{first_of, share_step, early_both, early_one}
use Rattle.mt_replay.proofs.batch.early_in.Goals as goal
use Rattle.mt_replay.proofs.batch.early_in.Goals.{then-comes_early, else-comes_early}

pub loop-number-preserved : goal.loop-number-preserved
loop-number-preserved c =
    let share = c.args.share.now in
    let more = as_list c.update.result in
    let step = share_step share c.loop-number.number more (omega (arith, c.loop-number-test.true, c.len-number-end.ensures)) c.update.ensures in
    let all = early_both c.args.begin (first_of share c.loop-number.number) more in
    let one = early_one c.args.begin c.update.result in
    record {
      few = elim c.if-comes_early.branch [ then-comes_early w ↦ omega arith | else-comes_early w ↦ omega arith ];
      counts = elim c.if-comes_early.branch [ then-comes_early w ↦ grind arith | else-comes_early w ↦ grind arith ];
    }
