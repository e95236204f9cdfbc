use Rattle.mt_c.proofs.Told.{tells_sealed}
use Rattle.mt_c.proofs.fronts.sealed_front.Goals as goal

pub returns-in_err-header-clause-none : goal.returns-in_err-header-clause-none
returns-in_err-header-clause-none c = rw c.from_residual.ensures (λ header more is e. c.in_err-header.ensures.none header more is e)

pub returns-clause-found : goal.returns-clause-found
returns-clause-found c =
    tells_sealed c.in_ok-header.header c.args.bytes.now c.in_ok-header.rest.now c.in_ok-header.ensures.found.0 c.in_ok-header.ensures.found.1
