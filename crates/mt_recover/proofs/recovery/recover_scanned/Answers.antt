use Rattle.std.proofs.Common.{◌∙◌, Err, ap}
use Rattle.std.proofs.lemmas.Result.{err_from_is_err_and}
use Rattle.mt_recover.specs.Report.{IsRecoveredOf}
use Rattle.mt_recover.proofs.SourceLemmas.{answer_without_memory}
use Rattle.mt_recover.proofs.recovery.recover_scanned.Goals as goal

pub recover_found-requires : goal.recover_found-requires
recover_found-requires c = let of = c.in_ok-found.ensures.found c.requires.0 c.requires.1 c.requires.2 in (of.logs, of.parts, of.holds)

pub returns-in_err-recover_found-clause-recovery : goal.returns-in_err-recover_found-clause-recovery
returns-in_err-recover_found-clause-recovery c = λ logs parts are.
    let p = err_from_is_err_and c.from_residual-in_err-recover_found.result c.from_residual-in_err-recover_found.ensures.1 in
    answer_without_memory (λ seen. seen) logs parts IsRecoveredOf c.from_residual-in_err-recover_found.result (p.1 ∙ ap Err p.2)

pub returns-clause-recovery : goal.returns-clause-recovery
returns-clause-recovery c = λ logs parts are.
    let of = c.in_ok-found.ensures.found logs parts are in
    record {
      value = record { logs = of.logs; parts = of.parts; logs_may = of.logs_may; parts_may = of.parts_may; holds = c.in_ok-recover_found.ensures of.logs of.parts of.holds };
      fault = tt;
    }
