use Rattle.std.proofs.Common.{◌≡◌, List, ℕ, sym, arith}
use Rattle.std.proofs.lemmas.List.{length-take-le}
use Rattle.std.proofs.lemmas.Result.{err_from_is_err_and}
use Rattle.mt_record.proofs.Opened.{text_front, text_fault_of}
use Rattle.mt_record.proofs.LogFeeds.{front_bytes}
use Rattle.mt_record.proofs.read.cut_log.Goals as goal

pub slice_bounds-result-end : goal.slice_bounds-result-end
slice_bounds-result-end c =
    let bytes = c.args.bytes.now in
    let is = c.in_ok-front.ensures.front in
    let of_text = text_front bytes is.0 c.in_ok-front.front (rw c.if-is_sealed.false at c.is_sealed.ensures) is.1 in
    sym (length-take-le c.in_ok-front.front.bytes bytes (front_bytes bytes is.0 c.in_ok-front.front (omega arith) of_text).0)

pub returns-clause-log : goal.returns-clause-log
returns-clause-log c =
    let bytes = c.args.bytes.now in
    let is = c.in_ok-front.ensures.front in
    let of_text = text_front bytes is.0 c.in_ok-front.front (rw c.if-is_sealed.false at c.is_sealed.ensures) is.1 in
    (is.0, of_text, (front_bytes bytes is.0 c.in_ok-front.front (omega arith) of_text).1)

pub returns-in_err-front-clause-fault : goal.returns-in_err-front-clause-fault
returns-in_err-front-clause-fault c =
    let bytes = c.args.bytes.now in
    let p = err_from_is_err_and c.from_residual.result c.from_residual.ensures.1 in
    rw (p.1, p.2) (λ other. text_fault_of bytes c.in_err-front.field-0.0 (rw c.if-is_sealed.false at c.is_sealed.ensures) (c.in_err-front.ensures.fault other))
