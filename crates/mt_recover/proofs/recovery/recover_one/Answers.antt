use Rattle.std.proofs.Common.{◌∙◌, Err, ap}
use Rattle.std.proofs.lemmas.Result.{err_from_is_err_and}
use Rattle.mt_recover.specs.Report.{IsRecoveredOf}
use Rattle.mt_recover.proofs.SourceLemmas.{answer_seen, answer_without_memory}
use Rattle.mt_recover.proofs.recovery.recover_one.Goals as goal

pub returns-in_err-outcomes : goal.returns-in_err-outcomes
returns-in_err-outcomes g c =
    let p = err_from_is_err_and c.from_residual.result c.from_residual.ensures.1 in
    answer_without_memory g.S.Source.seen c.args.inputs.logs.items c.args.inputs.parts.items IsRecoveredOf c.from_residual.result (p.1 ∙ ap Err p.2)

pub returns : goal.returns
returns g c = answer_seen g.S.Source.seen c.args.inputs.logs.items c.args.inputs.parts.items IsRecoveredOf c.recover_scanned.result (c.recover_scanned.ensures.recovery _ _ c.in_ok-outcomes.ensures)
