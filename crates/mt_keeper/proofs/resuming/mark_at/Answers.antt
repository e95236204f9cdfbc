use Rattle.mt_keeper.proofs.resuming.mark_at.Goals as goal

pub returns-in_err-header : goal.returns-in_err-header
returns-in_err-header c = rw c.from_residual.ensures (λ header more is e. c.in_err-header.ensures.none header more is e)

pub returns : goal.returns
returns c = (c.in_ok-header.header, c.in_ok-header.field-0-1.now, c.in_ok-header.ensures.found.0, c.in_ok-header.ensures.found.1, c.mark.ensures)
