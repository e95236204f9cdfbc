use Rattle.std.proofs.Common.{◌++◌, ◌∙◌, Option, List, take_all, sym, ap}
use Rattle.std.specs.List.{filter}
use Rattle.std.specs.Option.{option_map}
use Rattle.mt_words.specs.declared.update.Update.{Update}
use Rattle.mt_scan.specs.declared.checkpoint.Checkpoint.{Checkpoint}
use Rattle.mt_scan.specs.Choosing.{checkpoint_in}
use Rattle.mt_recover.specs.Recovery.{entry_updates}
use Rattle.mt_recover.specs.History.{is_of}
use Rattle.mt_recover.proofs.HistoryLemmas.{entered_in, all_entered}
use Rattle.mt_recover.proofs.history.add_checkpoint.Goals as goal

pub returns : goal.returns
returns c =
    let start = c.args.updates.now.items in
    let parts = c.deref-part-items.result.now in
    let read = ap entered_in (take_all c.loop-part.part-index parts c.loop-part-test.false ∙ c.deref-part-items.ensures.value) in
    let all = all_entered c.in-Some.checkpoint.parts.items ∙ ap (λ (o : Option Checkpoint). entry_updates (option_map checkpoint_in o)) (sym c.in-Some.is) in
    c.loop-part.invariant ∙ ap (λ (us : List Update). start ++ filter (is_of c.args.key.now) us) (read ∙ all)
