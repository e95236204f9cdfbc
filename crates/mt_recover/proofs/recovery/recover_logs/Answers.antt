use Rattle.std.proofs.Common.{[], map}
use Rattle.std.proofs.lemmas.Result.{IfOk-weaker, IfErr-weaker}
use Rattle.mt_recover.specs.Steps.Outcomes.{in_memory}
use Rattle.mt_recover.specs.Report.{IsRecoveredOf}
use Rattle.mt_recover.proofs.SourceLemmas.{of_memory, answered_in_memory}
use Rattle.mt_recover.proofs.recovery.recover_logs.Goals as goal

pub returns-clause-recovered : goal.returns-clause-recovered
returns-clause-recovered c =
    let logs = map (λ log. log.now) c.args.logs.now in
    let is = c.recover_scanned.ensures.recovery (map in_memory logs) [] c.in_ok-outcomes.ensures in
    IfOk-weaker c.recover_scanned.result _ _ (λ outcome of. of_memory logs (λ ls ps. IsRecoveredOf ls ps outcome) of) is.value

pub returns-clause-fault : goal.returns-clause-fault
returns-clause-fault c =
    let logs = map (λ log. log.now) c.args.logs.now in
    let is = c.recover_scanned.ensures.recovery (map in_memory logs) [] c.in_ok-outcomes.ensures in
    IfErr-weaker c.recover_scanned.result _ _ (λ fault by. answered_in_memory logs fault by) is.fault
