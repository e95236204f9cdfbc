use Rattle.std.proofs.Common.{◌∙◌, ◌≤◌, Err, length, sym, ap, subst}
use Rattle.std.specs.Prelude.{IfErr}
use Rattle.std.proofs.lemmas.List.{length-map}
use Rattle.std.proofs.lemmas.Result.{err_from_is_err_and}
use Rattle.mt_tree.specs.Trees.{tree_walk}
use Rattle.mt_checkpoint.specs.Checkpoints.{IsPlanFault}
use Rattle.mt_checkpoint.proofs.Plans.{needs_parts, no_plan}
use Rattle.mt_checkpoint.proofs.checkpoint.Checkpoint.plan.Goals as goal

pub returns-in_err-stretches_of-clause-fault : goal.returns-in_err-stretches_of-clause-fault
returns-in_err-stretches_of-clause-fault c =
    let walk = tree_walk c.args.tree.now in
    let p = err_from_is_err_and c.from_residual.result c.from_residual.ensures.1 in
    let fault = no_plan c.args.limit c.args.cutoff c.args.version walk c.in_err-stretches_of.field-0.0 c.if-cutoff-eq18446744073709551615.false c.if-version-eq18446744073709551615.false c.in_err-stretches_of.ensures.fault in
    subst (λ r. IfErr r (IsPlanFault c.args.limit c.args.cutoff c.args.version walk)) (sym (p.1 ∙ ap Err p.2)) fault

pub returns-clause-fewest : goal.returns-clause-fewest
returns-clause-fewest c = λ other is.
    let stretches = c.in_ok-stretches_of.field-0.items in
    let least = needs_parts c.args.limit (tree_walk c.args.tree.now) (length stretches) c.in_ok-stretches_of.ensures.parts.fewest other is in
    subst (λ n. n ≤ length other.parts) (sym (length-map stretches _)) least
