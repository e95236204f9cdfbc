use Rattle.std.proofs.Common.{map}
use Rattle.std.proofs.lemmas.Result.{err_from_is_err_and}
use Rattle.mt_recover.proofs.SourceLemmas.{answered_seen, memory_refused}
use Rattle.mt_recover.proofs.job.prepare.Goals as goal

pub returns-in_err-open-clause-fault : goal.returns-in_err-open-clause-fault
returns-in_err-open-clause-fault g c =
    let seen = g.S.Source.seen in
    let logs = c.args.inputs.logs.items in
    let parts = c.args.inputs.parts.items in
    let p = err_from_is_err_and c.from_residual-in_err-open.result c.from_residual-in_err-open.ensures.1 in
    rw (p.1) (answered_seen seen logs parts p.0 (memory_refused (map seen logs) (map seen parts) p.0 p.2))
