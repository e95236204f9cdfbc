use Rattle.std.proofs.Common.{◌<◌, refl, sym, ap, ◌∙◌, ◌++◌, ◌∷◌, [], inl, arith}
use Rattle.mt_checkpoint.specs.declared.planning.Stretch.{Stretch}
use Rattle.mt_checkpoint.proofs.Plans.{took, began_next, began_first, only_plan, still_over}
use Rattle.mt_checkpoint.proofs.planning.PlannerVisitorPlanning.visit.Goals as goal

pub returns-then-is_over : goal.returns-then-is_over
returns-then-is_over c = λ limit seen planned. still_over limit c.args.plan.now seen ((c.args.key.now, c.args.columns.now) ∷ []) (c.if-is_over.ensures.0 refl) planned

pub returns-then-takes : goal.returns-then-takes
returns-then-takes c = λ limit seen planned.
    let is = only_plan limit seen c.args.plan.now planned c.if-is_over.ensures.1 in
    inl (took limit c.args.plan.now seen (c.args.key.now, c.args.columns.now) c.entry_length-length.result is c.entry_length-length.ensures.value (c.if-takes.ensures.room refl) (c.if-takes.ensures.some refl) (c.if-takes.ensures.few refl))

pub returns-in_ok-push : goal.returns-in_ok-push
returns-in_ok-push c = λ limit seen planned.
    let is = only_plan limit seen c.args.plan.now planned c.if-is_over.ensures.1 in
    let after = c.replace-full.ensures.after in
    let kept = c.in_ok-push.ensures.items ∙ ap (λ (part : Stretch). c.args.plan.now.full.items ++ part ∷ []) c.replace-full.ensures.value in
    let some : 0 < c.args.plan.now.last.count = omega (arith, ap (λ (part : Stretch). part.count) c.replace-full.ensures.value, c.if-full-gt0.true) in
    began_next limit c.args.plan.now seen (c.args.key.now, c.args.columns.now) c.entry_length-length.result is c.entry_length-length.ensures.value
    _ (c.if-takes.ensures.full refl) some kept refl (sym (ap (λ (part : Stretch). part.start) after ∙ c.in_ok-start.ensures)) (ap (λ (part : Stretch). part.count) after) refl

pub returns-else-full-gt0 : goal.returns-else-full-gt0
returns-else-full-gt0 c = λ limit seen planned.
    let is = only_plan limit seen c.args.plan.now planned c.if-is_over.ensures.1 in
    let after = c.replace-full.ensures.after in
    let none = ap (λ (part : Stretch). part.count) c.replace-full.ensures.value in
    began_first limit c.args.plan.now seen (c.args.key.now, c.args.columns.now) c.entry_length-length.result is c.entry_length-length.ensures.value
    _ refl (omega (arith, none, c.if-full-gt0.false)) refl (sym (ap (λ (part : Stretch). part.start) after ∙ c.in_ok-start.ensures)) (ap (λ (part : Stretch). part.count) after) refl
