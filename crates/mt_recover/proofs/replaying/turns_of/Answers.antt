use Rattle.std.proofs.Common.{◌∷◌, [], ◌++◌, ◌∙◌, sym, ap, subst, append_assoc}
use Rattle.std.specs.Vec.Iter.{into_iter_items}
use Rattle.std.proofs.lemmas.Slice.Zip.{all_zipped_more}
use Rattle.mt_recover.specs.Steps.Replaying.{AreReplaysOf}
use Rattle.mt_recover.specs.Tasks.{ReplayView}
use Rattle.mt_recover.proofs.replaying.turns_of.Goals as goal

pub loop-task-preserved : goal.loop-task-preserved
loop-task-preserved c =
    let I = c.loop-task.invariant in
    let turn = c.task.inside.turn in
    let own = subst (λ (task : ReplayView). AreReplaysOf task turn.0.items turn.1) c.task.view_is c.task.invariant in
    record {
      rest = append_assoc c.loop-task.yielded (c.in-Some.task ∷ []) (into_iter_items c.next.new.self) ∙ ap (λ xs. c.loop-task.yielded ++ xs) (sym c.in-Some.ensures.steps.0) ∙ I.rest;
      turns = rw c.in_ok-push.ensures.items (all_zipped_more (λ task turn. AreReplaysOf task turn.0.items turn.1) c.loop-task.yielded c.loop-task.turns.items c.in-Some.task turn I.turns own);
    }
