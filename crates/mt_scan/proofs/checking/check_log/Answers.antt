use Rattle.std.proofs.Common.{ℕ, refl, ◌∙◌, subst}
use Rattle.std.proofs.lemmas.Result.{IfOk-weaker}
use Rattle.mt_scan.specs.Checks.{IsCheckOf}
use Rattle.mt_scan.proofs.Telling.{some_bytes}
use Rattle.mt_scan.proofs.Steps.{faulty}
use Rattle.mt_scan.proofs.checking.check_log.Goals as goal

pub returns-in-Ok-clause-check : goal.returns-in-Ok-clause-check
returns-in-Ok-clause-check g c =
    let all = c.in-Ok.ensures.fed in
    let same = all.2.0 ∙ c.new-feed.ensures.limit in
    IfOk-weaker c.finish.result _ _ (λ check is. (all.0, all.1, subst (λ (limit : ℕ). IsCheckOf limit all.0 check) same is)) (c.finish.ensures.check all.0 all.2.1)

pub returns-in-Ok-clause-fault : goal.returns-in-Ok-clause-fault
returns-in-Ok-clause-fault g c =
    let all = c.in-Ok.ensures.fed in
    faulty c.args.log (g.S.Source.seen c.args.source.now).told all.0 c.finish.result all.1 (c.finish.ensures.fault all.0 all.2.1)

pub returns-in-Err-clause-fault : goal.returns-in-Err-clause-fault
returns-in-Err-clause-fault g c =
    let some = some_bytes (g.S.Source.seen c.args.source.now).told in
    (some.0, some.1, refl)
