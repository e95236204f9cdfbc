use Rattle.mt_c.proofs.Told.{tells_sealed_part}
use Rattle.mt_c.proofs.fronts.sealed_part_front.Goals as goal

pub returns-in_err-header-clause-none : goal.returns-in_err-header-clause-none
returns-in_err-header-clause-none c = rw c.from_residual.ensures (λ header more is e. c.in_err-header.ensures.none header more is e)

pub returns-clause-found : goal.returns-clause-found
returns-clause-found c =
    let found = c.in_ok-header.ensures.found in
    tells_sealed_part c.in_ok-header.header c.args.bytes.now c.in_ok-header.rest.now c.from.result c.from-2.result c.from.ensures c.from-2.ensures found.0 found.1
