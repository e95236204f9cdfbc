use Rattle.std.proofs.Common.{◌≡◌, ◌+◌, ◌++◌, ◌∙◌, List, length, refl, sym, ap, arith}
use Rattle.std.specs.List.{filter}
use Rattle.mt_words.specs.declared.update.Update.{Update}
use Rattle.mt_words.specs.OneLog.{as_list}
use Rattle.mt_recover.specs.History.{is_of}
use Rattle.mt_recover.proofs.HistoryLemmas.{added, nothing_added, first_of, all_first, first_step}
use Rattle.mt_recover.proofs.history.add_log.Goals as goal

pub loop-number-init : goal.loop-number-init
loop-number-init c = nothing_added (is_of c.args.key.now) c.args.updates.now.items (first_of c.args.log.now 0) refl

pub loop-number-preserved : goal.loop-number-preserved
loop-number-preserved c =
    let kept = c.args.log.now in
    let more = as_list c.update.result in
    let step = first_step kept c.loop-number.number more (omega (arith, c.loop-number-test.true, c.record_count-number-end.ensures)) c.update.ensures in
    added (is_of c.args.key.now) c.args.updates.now.items c.loop-number.updates.items c.add.new.updates.items (first_of kept c.loop-number.number) more (first_of kept (c.loop-number.number + 1)) (sym step) c.loop-number.invariant c.in_ok-add.ensures

pub returns : goal.returns
returns c =
    let start = c.args.updates.now.items in
    let end : c.loop-number.number ≡ length c.args.log.now.records = omega (arith, c.loop-number-test.false, c.loop-number.auto, c.record_count-number-end.ensures) in
    c.loop-number.invariant ∙ ap (λ (us : List Update). start ++ filter (is_of c.args.key.now) us) (ap (first_of c.args.log.now) end ∙ all_first c.args.log.now)
