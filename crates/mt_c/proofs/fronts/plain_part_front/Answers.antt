use Rattle.mt_c.proofs.Told.{tells_part}
use Rattle.mt_c.proofs.fronts.plain_part_front.Goals as goal

pub returns-clause-found : goal.returns-clause-found
returns-clause-found c =
    let found = c.in_ok-head.ensures.found in
    tells_part c.in_ok-head.head c.args.bytes.now c.in_ok-head.rest.now c.part_number.result c.from.result c.from-2.result c.part_number.ensures c.from.ensures c.from-2.ensures found.0 found.1
