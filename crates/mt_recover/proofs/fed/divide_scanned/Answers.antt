use Rattle.std.proofs.Common.{◌∙◌, Err, ap}
use Rattle.std.proofs.lemmas.Result.{err_from_is_err_and}
use Rattle.mt_recover.specs.Tasks.{IsDividingOf}
use Rattle.mt_recover.proofs.SourceLemmas.{answer_without_memory}
use Rattle.mt_recover.proofs.fed.divide_scanned.Goals as goal

pub of-requires : goal.of-requires
of-requires c = let of = c.in_ok-found.ensures.found c.requires.0 c.requires.1 c.requires.2 in (of.logs, of.parts, of.holds)

pub returns-in_err-of-clause-divided : goal.returns-in_err-of-clause-divided
returns-in_err-of-clause-divided c = λ logs parts are.
    let p = err_from_is_err_and c.from_residual-in_err-of.result c.from_residual-in_err-of.ensures.1 in
    answer_without_memory (λ seen. seen) logs parts (λ ls ps made. IsDividingOf ls ps made.0) c.from_residual-in_err-of.result (p.1 ∙ ap Err p.2)

pub returns-clause-divided : goal.returns-clause-divided
returns-clause-divided c = λ logs parts are.
    let of = c.in_ok-found.ensures.found logs parts are in
    record {
      value = record { logs = of.logs; parts = of.parts; logs_may = of.logs_may; parts_may = of.parts_may; holds = c.in_ok-of.ensures.dividing of.logs of.parts of.holds };
      fault = tt;
    }
