use Rattle.std.proofs.Common.{map}
use Rattle.std.proofs.lemmas.Result.{err_from_is_err_and}
use Rattle.mt_recover.specs.Prepared.{IsPreparedOf}
use Rattle.mt_recover.proofs.SourceLemmas.{of_seen, answered_seen, memory_refused}
use Rattle.mt_recover.proofs.prepared.Prepared.from_sources.Goals as goal

pub returns-in_err-outcomes-clause-fault : goal.returns-in_err-outcomes-clause-fault
returns-in_err-outcomes-clause-fault g c =
    let seen = g.S.Source.seen in
    let logs = c.args.inputs.logs.items in
    let parts = c.args.inputs.parts.items in
    let p = err_from_is_err_and c.from_residual.result c.from_residual.ensures.1 in
    rw (p.1) (answered_seen seen logs parts p.0 (memory_refused (map seen logs) (map seen parts) p.0 p.2))

pub by_workers-requires-after_bounds : goal.by_workers-requires-after_bounds
by_workers-requires-after_bounds g c κs within =
    let of = c.in_ok-found.ensures.found (map g.S.Source.seen c.args.inputs.logs.items) (map g.S.Source.seen c.args.inputs.parts.items) c.in_ok-outcomes.ensures in
    (of.logs, of.parts, of.holds)

pub returns-in_err-found-clause-fault : goal.returns-in_err-found-clause-fault
returns-in_err-found-clause-fault g c =
    let seen = g.S.Source.seen in
    let p = err_from_is_err_and c.from_residual-in_err-found.result c.from_residual-in_err-found.ensures.1 in
    rw (p.1, p.2) (answered_seen seen c.args.inputs.logs.items c.args.inputs.parts.items c.in_err-found.field-0.0
    (c.in_err-found.ensures.fault _ (map seen c.args.inputs.logs.items) (map seen c.args.inputs.parts.items) c.in_ok-outcomes.ensures))

pub returns-in_err-by_workers-clause-fault : goal.returns-in_err-by_workers-clause-fault
returns-in_err-by_workers-clause-fault g c =
    let seen = g.S.Source.seen in
    let logs = c.args.inputs.logs.items in
    let parts = c.args.inputs.parts.items in
    let p = err_from_is_err_and c.from_residual-in_err-by_workers.result c.from_residual-in_err-by_workers.ensures.1 in
    rw (p.1) (answered_seen seen logs parts p.0 (memory_refused (map seen logs) (map seen parts) p.0 p.2))

pub returns-clause-prepared : goal.returns-clause-prepared
returns-clause-prepared g c =
    let seen = g.S.Source.seen in
    let logs = c.args.inputs.logs.items in
    let parts = c.args.inputs.parts.items in
    let of = c.in_ok-found.ensures.found (map seen logs) (map seen parts) c.in_ok-outcomes.ensures in
    of_seen seen logs parts (λ ls ps. IsPreparedOf ls ps c.in_ok-by_workers.field-0)
    (record { logs = of.logs; parts = of.parts; logs_may = of.logs_may; parts_may = of.parts_may; holds = c.in_ok-by_workers.ensures.prepared of.logs of.parts of.holds })
