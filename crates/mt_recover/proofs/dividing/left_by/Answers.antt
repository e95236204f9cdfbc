use Rattle.std.proofs.Common.{◌∷◌, [], ◌++◌, ◌∙◌, sym, ap, subst, append_assoc}
use Rattle.std.specs.Vec.Iter.{into_iter_items}
use Rattle.std.proofs.lemmas.Slice.Zip.{all_zipped_more}
use Rattle.mt_recover.specs.Steps.Preparing.{IsLeftOf}
use Rattle.mt_recover.specs.Tasks.{DivideView}
use Rattle.mt_recover.proofs.dividing.left_by.Goals as goal

pub loop-task-preserved : goal.loop-task-preserved
loop-task-preserved c =
    let I = c.loop-task.invariant in
    let own = subst (λ (task : DivideView). IsLeftOf task c.task.inside.left) c.task.view_is c.task.invariant in
    record {
      rest = append_assoc c.loop-task.yielded (c.in-Some.task ∷ []) (into_iter_items c.next.new.self) ∙ ap (λ xs. c.loop-task.yielded ++ xs) (sym c.in-Some.ensures.steps.0) ∙ I.rest;
      left = rw c.in_ok-push.ensures.items (all_zipped_more IsLeftOf c.loop-task.yielded c.loop-task.all.items c.in-Some.task c.task.inside.left I.left own);
    }
