use Rattle.std.proofs.Common.{ℕ, ◌+◌, subst}
use Rattle.std.proofs.lemmas.Result.{err_from_is_err_and}
use Rattle.mt_words.specs.Limits.{limits_of}
use Rattle.mt_record.specs.Steps.Bodies.{IsWithin, IsFrameFault}
use Rattle.mt_record.proofs.Frames.{rest_fault}
use Rattle.mt_record.proofs.feed.frame.next_record.Goals as goal

pub returns-in_err-body-clause-fault : goal.returns-in_err-body-clause-fault
returns-in_err-body-clause-fault c =
    let p = err_from_is_err_and c.from_residual.result c.from_residual.ensures.1 in
    let what = c.in_err-body.field-0.0 in
    let bytes = c.args.bytes.now in
    let fault = subst (λ (n : ℕ). IsFrameFault (IsWithin 9 (9 + n)) bytes what) c.longest_change.ensures.value c.in_err-body.ensures.fault in
    rw (p.1, p.2) (rest_fault (limits_of c.args.format) c.args.latest bytes what fault)
