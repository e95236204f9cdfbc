use Rattle.std.proofs.Common.{◌∙◌, Err, map, ap}
use Rattle.std.proofs.lemmas.Result.{err_from_is_err_and}
use Rattle.mt_recover.specs.Audit.{IsAuditOf}
use Rattle.mt_recover.proofs.SourceLemmas.{of_seen, answered_seen, answer_without_memory}
use Rattle.mt_recover.proofs.auditing.audit.Goals as goal

pub returns-in_err-outcomes : goal.returns-in_err-outcomes
returns-in_err-outcomes g c =
    let p = err_from_is_err_and c.from_residual.result c.from_residual.ensures.1 in
    answer_without_memory g.S.Source.seen c.args.inputs.logs.items c.args.inputs.parts.items (λ logs parts clashes. IsAuditOf logs parts clashes.items) c.from_residual.result (p.1 ∙ ap Err p.2)

pub returns-in_err-found : goal.returns-in_err-found
returns-in_err-found g c =
    let seen = g.S.Source.seen in
    let logs = c.args.inputs.logs.items in
    let parts = c.args.inputs.parts.items in
    let p = err_from_is_err_and c.from_residual-in_err-found.result c.from_residual-in_err-found.ensures.1 in
    rw (p.1, p.2) (record { value = tt; fault = answered_seen seen logs parts c.in_err-found.field-0.0 (c.in_err-found.ensures.fault _ (map seen logs) (map seen parts) c.in_ok-outcomes.ensures) })

pub audit_found-requires-after_bounds : goal.audit_found-requires-after_bounds
audit_found-requires-after_bounds g c κs within =
    let of = c.in_ok-found.ensures.found (map g.S.Source.seen c.args.inputs.logs.items) (map g.S.Source.seen c.args.inputs.parts.items) c.in_ok-outcomes.ensures in
    (of.logs, of.parts, of.holds)

pub returns-in_err-audit_found : goal.returns-in_err-audit_found
returns-in_err-audit_found g c =
    let p = err_from_is_err_and c.from_residual-in_err-audit_found.result c.from_residual-in_err-audit_found.ensures.1 in
    answer_without_memory g.S.Source.seen c.args.inputs.logs.items c.args.inputs.parts.items (λ logs parts clashes. IsAuditOf logs parts clashes.items) c.from_residual-in_err-audit_found.result (p.1 ∙ ap Err p.2)

pub returns : goal.returns
returns g c =
    let seen = g.S.Source.seen in
    let logs = c.args.inputs.logs.items in
    let parts = c.args.inputs.parts.items in
    let of = c.in_ok-found.ensures.found (map seen logs) (map seen parts) c.in_ok-outcomes.ensures in
    record {
      value = of_seen seen logs parts (λ ls ps. IsAuditOf ls ps c.in_ok-audit_found.field-0.items) (record { logs = of.logs; parts = of.parts; logs_may = of.logs_may; parts_may = of.parts_may; holds = c.in_ok-audit_found.ensures of.logs of.parts of.holds });
      fault = tt;
    }
