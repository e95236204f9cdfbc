use Rattle.std.proofs.Common.{◌∙◌, ap, sym, subst}
use Rattle.std.proofs.lemmas.Result.{IfOk-weaker}
use Rattle.mt_recover.specs.Tasks.{IsDividingOf, divide_tasks}
use Rattle.mt_recover.proofs.Preparing.{division_of}
use Rattle.mt_recover.proofs.dividing.Dividing.replay.Goals as goal

pub put_together-requires : goal.put_together-requires
put_together-requires c =
    let inside = c.self.inside in
    (inside.window, inside.batches.value.items, c.requires ∙ ap divide_tasks (sym c.self.view_is))

pub of-requires : goal.of-requires
of-requires c =
    let inside = c.self.inside in
    let is = c.self.invariant in
    (is.0, is.1, division_of is.2 (c.in_ok-division.ensures.divided inside.window inside.batches.value.items (c.requires ∙ ap divide_tasks (sym c.self.view_is))))

pub returns-clause-prepared : goal.returns-clause-prepared
returns-clause-prepared c = λ logs parts is.
    let inside = c.self.inside in
    let own = subst (IsDividingOf logs parts) (sym c.self.view_is) is in
    IfOk-weaker c.of-2.result _ _ (λ made same. rw same (c.of.ensures.prepared logs parts (division_of own (c.in_ok-division.ensures.divided inside.window inside.batches.value.items (c.requires ∙ ap divide_tasks (sym c.self.view_is)))))) c.of-2.ensures.prepared
