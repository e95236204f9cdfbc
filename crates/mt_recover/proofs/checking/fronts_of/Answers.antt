use Rattle.std.proofs.Common.{refl, subst}
use Rattle.std.proofs.lemmas.Result.{err_from_is_err_and, IfOk-weaker, IfErr-weaker}
use Rattle.mt_words.specs.declared.fault.Fault.TheVariants as faults
use Rattle.mt_recover.specs.Steps.Outcomes.{AllFrom, IsFrontOutcome}
use Rattle.mt_recover.proofs.CheckLemmas.{all_fronts}
use Rattle.mt_recover.proofs.SourceLemmas.{fronts_seen, front_says, log_refused, memory_refused, or_memory}
use Rattle.mt_recover.proofs.checking.fronts_of.Goals as goal

pub returns-in_err-numbered-clause-fault : goal.returns-in_err-numbered-clause-fault
returns-in_err-numbered-clause-fault c = λ limit logs parts are.
    let p = err_from_is_err_and c.from_residual.result c.from_residual.ensures.1 in
    rw (p.1, p.2) (memory_refused logs parts faults.Memory refl)

pub returns-in_err-fronts-clause-fault : goal.returns-in_err-fronts-clause-fault
returns-in_err-fronts-clause-fault c = λ limit logs parts are.
    let p = err_from_is_err_and c.from_residual-in_err-fronts.result c.from_residual-in_err-fronts.ensures.1 in
    rw (p.1, p.2) (memory_refused logs parts faults.Memory refl)

pub returns-clause-fronts : goal.returns-clause-fronts
returns-clause-fronts c =
    IfOk-weaker c.all_done.result _ _ (λ fronts done limit logs are.
    fronts_seen 0 logs fronts.items (subst (AllFrom IsFrontOutcome 0 logs) done (all_fronts limit 0 logs c.args.checks.items c.in_ok-fronts.fronts.items are (rw c.in_ok-numbered.ensures at c.in_ok-fronts.ensures)))) c.all_done.ensures.done

pub returns-clause-fault : goal.returns-clause-fault
returns-clause-fault c = λ limit logs parts are.
    let outcomes = all_fronts limit 0 logs c.args.checks.items c.in_ok-fronts.fronts.items are (rw c.in_ok-numbered.ensures at c.in_ok-fronts.ensures) in
    IfErr-weaker c.all_done.result _ _ (λ fault why. or_memory logs parts fault (log_refused front_says logs parts c.in_ok-fronts.fronts.items fault outcomes) why) c.all_done.ensures.fault
