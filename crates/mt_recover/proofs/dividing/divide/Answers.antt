use Rattle.std.proofs.Common.{◌≡◌, ◌∙◌, ◌++◌, IfOk, List, ap, map, sym, subst}
use Rattle.std.specs.Prelude.{filter}
use Rattle.std.proofs.lemmas.Result.{IfOk-weaker}
use Rattle.mt_words.specs.declared.update.Update.{Update}
use Rattle.mt_words.specs.Walks.{joined}
use Rattle.mt_replay.specs.Batches.{batched}
use Rattle.mt_replay.specs.Survivors.{in_window}
use Rattle.mt_recover.specs.Job.{AreCutBy}
use Rattle.mt_recover.specs.Steps.LogScans.{kept}
use Rattle.mt_recover.specs.Steps.Preparing.{IsDividedOf}
use Rattle.mt_recover.specs.Tasks.{divide_task}
use Rattle.mt_recover.proofs.Preparing.{cut_moved}
use Rattle.mt_recover.proofs.TaskLemmas.{tasks_done}
use Rattle.mt_recover.proofs.Works.{both_ok}
use Rattle.mt_recover.proofs.dividing.divide.Goals as goal

-- each task is done
done_are : (g : _) (c : goal.In_ok-all_done g) → c.in_ok-all_done.field-0.items ≡ map (divide_task c.args.window c.in_ok-cuts.cuts) c.in_ok-batches.batches.items
done_are g c = tasks_done _ c.in_ok-done.done.items c.in_ok-all_done.field-0.items c.in_ok-done.ensures c.in_ok-all_done.ensures.done ∙ c.in_ok-tasks_of.ensures

pub put_together-requires : goal.put_together-requires
put_together-requires g c = (c.args.window, c.in_ok-batches.batches.items, done_are g c)

-- so the updates that the scans kept are divided
divided : (g : _) (c : goal.After-put_together g) → IfOk c.put_together.result (IsDividedOf c.args.window (kept c.args.scans.items) (joined c.args.entries.items))
divided g c = subst (λ (us : List Update). IfOk c.put_together.result (IsDividedOf c.args.window us (joined c.args.entries.items))) c.in_ok-batches.ensures.updates (c.put_together.ensures.divided c.args.window c.in_ok-batches.batches.items (done_are g c.before))

pub returns-clause-divided : goal.returns-clause-divided
returns-clause-divided g c = divided g c

pub returns-clause-cuts : goal.returns-clause-cuts
returns-clause-cuts g c =
    let entries = joined c.args.entries.items in
    let survivors : List Update = filter (in_window c.args.window) (kept c.args.scans.items) ++ entries in
    let cuts_are : AreCutBy c.args.cutting survivors c.in_ok-cuts.cuts =
    subst (λ (us : List Update). AreCutBy c.args.cutting us c.in_ok-cuts.cuts)
    ((λ i. filter (in_window c.args.window) (batched (c.deref.ensures.value i)) ++ joined (c.deref-2.ensures.value i)) ∙ ap (λ (us : List Update). filter (in_window c.args.window) us ++ entries) c.in_ok-batches.ensures.updates) c.in_ok-cuts.ensures in
    IfOk-weaker c.put_together.result _ _
    (λ division both. subst (AreCutBy c.args.cutting division.0.updates) (sym both.1) (cut_moved c.args.cutting survivors division.0.updates c.in_ok-cuts.cuts both.0.updates cuts_are))
    (both_ok c.put_together.result _ _ (divided g c) c.put_together.ensures.cuts)
