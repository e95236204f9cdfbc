use Rattle.mt_block.specs.declared.part_header.PartHeader.{PartHeader}
use Rattle.mt_block.proofs.PartHeaders.{ArePartFields, is_part_header, part_header_found, part_header_none}
use Rattle.mt_block.proofs.part_header.part_header_at.Goals as goal

pub returns-in_err-rest-3-clause-none : goal.returns-in_err-rest-3-clause-none
returns-in_err-rest-3-clause-none c =
    let header : PartHeader = record { salt = c.in_ok-salt.salt; number = c.in_ok-number.number; part = c.in_ok-part.part; parts = c.in_ok-parts.parts; begin = c.in_ok-begin.begin } in
    let are : ArePartFields header c.args.bytes.now c.in_ok-begin.rest.now = record {
      r1 = c.in_ok-rest.rest.now;
      r2 = c.in_ok-salt.rest.now;
      r3 = c.in_ok-number.rest.now;
      r4 = c.in_ok-part.rest.now;
      r5 = c.in_ok-parts.rest.now;
      r6 = c.in_ok-rest-2.rest.now;
      magic = c.in_ok-rest.ensures.found;
      salt = c.in_ok-salt.ensures.found;
      number = c.in_ok-number.ensures.found;
      part = c.in_ok-part.ensures.found;
      parts = c.in_ok-parts.ensures.found;
      one = c.in_ok-rest-2.ensures.found;
      begin = c.in_ok-begin.ensures.found;
    } in
    rw c.from_residual-in_err-rest-3.ensures (λ new more is e. part_header_none header new c.args.bytes.now c.in_ok-begin.rest.now more c.mark.result are c.mark.ensures c.in_err-rest-3.ensures.none is e)

pub returns-clause-found : goal.returns-clause-found
returns-clause-found c =
    let header : PartHeader = record { salt = c.in_ok-salt.salt; number = c.in_ok-number.number; part = c.in_ok-part.part; parts = c.in_ok-parts.parts; begin = c.in_ok-begin.begin } in
    let are : ArePartFields header c.args.bytes.now c.in_ok-begin.rest.now = record {
      r1 = c.in_ok-rest.rest.now;
      r2 = c.in_ok-salt.rest.now;
      r3 = c.in_ok-number.rest.now;
      r4 = c.in_ok-part.rest.now;
      r5 = c.in_ok-parts.rest.now;
      r6 = c.in_ok-rest-2.rest.now;
      magic = c.in_ok-rest.ensures.found;
      salt = c.in_ok-salt.ensures.found;
      number = c.in_ok-number.ensures.found;
      part = c.in_ok-part.ensures.found;
      parts = c.in_ok-parts.ensures.found;
      one = c.in_ok-rest-2.ensures.found;
      begin = c.in_ok-begin.ensures.found;
    } in
    (is_part_header header c.args.bytes.now c.in_ok-begin.rest.now are, part_header_found header c.args.bytes.now c.in_ok-begin.rest.now c.in_ok-rest-3.rest.now c.mark.result are c.in_ok-rest-3.ensures.found c.mark.ensures)
