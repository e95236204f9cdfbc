use Rattle.std.proofs.Common.{◌∙◌, sym, ap, subst}
use Rattle.mt_recover.specs.Steps.Replaying.{AreReplaysOf, task_of}
use Rattle.mt_recover.specs.Tasks.{ReplayView}
use Rattle.mt_recover.proofs.replaying.ReplayTask.work_at.Goals as goal

pub invariant_of-result : goal.invariant_of-result
invariant_of-result g c =
    let same = ap task_of c.deref.ensures ∙ c.self.view_is ∙ sym c.of-of.ensures in
    subst (λ (task : ReplayView). AreReplaysOf task c.in_ok-turn.turn.0.items c.in_ok-turn.turn.1) same c.in_ok-turn.ensures
