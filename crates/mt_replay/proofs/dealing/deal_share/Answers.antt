use Rattle.std.proofs.Common.{◌++◌, ◌∙◌, List, refl, ap, arith}
use Rattle.std.specs.List.{filter}
use Rattle.mt_words.specs.declared.update.Update.{Update}
use Rattle.mt_words.specs.OneLog.{as_list}
use Rattle.mt_replay.specs.Ranges.{dealt_by}
use Rattle.mt_replay.specs.Survivors.{in_window}
use Rattle.mt_replay.proofs.BatchLemmas.{first_of, survivors_step}
use Rattle.mt_replay.proofs.dealing.deal_share.Goals as goal

pub loop-number-preserved : goal.loop-number-preserved
loop-number-preserved c = λ dealt are.
    let keeps = in_window c.args.window in
    let share = c.args.share.now in
    let before : List Update = dealt ++ filter keeps (first_of share c.loop-number.number) in
    let more = as_list c.update.result in
    c.in_ok-deal.ensures before (c.loop-number.invariant dealt are)
    ∙ ap (dealt_by c.args.cuts.now) (survivors_step c.args.window share c.loop-number.number dealt before (before ++ filter keeps more) more
    (omega (arith, c.loop-number-test.true, c.len-number-end.ensures)) c.update.ensures refl refl)
