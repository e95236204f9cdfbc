use Rattle.mt_block.specs.declared.header.Header.{Header}
use Rattle.mt_block.proofs.Headers.{AreFields, is_header, header_found, header_none}
use Rattle.mt_block.proofs.header.header_at.Goals as goal

pub returns-in_err-rest-4-clause-none : goal.returns-in_err-rest-4-clause-none
returns-in_err-rest-4-clause-none c =
    let header : Header = record { salt = c.in_ok-salt.salt; worker = c.in_ok-worker.worker; segment = c.in_ok-segment.segment; workers = c.in_ok-workers.workers; from = c.in_ok-from.from } in
    let are : AreFields header c.args.bytes.now c.in_ok-from.rest.now = record {
      r1 = c.in_ok-rest.rest.now;
      r2 = c.in_ok-salt.rest.now;
      r3 = c.in_ok-rest-2.rest.now;
      r4 = c.in_ok-worker.rest.now;
      r5 = c.in_ok-rest-3.rest.now;
      r6 = c.in_ok-segment.rest.now;
      r7 = c.in_ok-workers.rest.now;
      magic = c.in_ok-rest.ensures.found;
      salt = c.in_ok-salt.ensures.found;
      first = c.in_ok-rest-2.ensures.found;
      worker = c.in_ok-worker.ensures.found;
      second = c.in_ok-rest-3.ensures.found;
      segment = c.in_ok-segment.ensures.found;
      workers = c.in_ok-workers.ensures.found;
      from = c.in_ok-from.ensures.found;
    } in
    rw c.from_residual-in_err-rest-4.ensures (λ new more is e. header_none header new c.args.bytes.now c.in_ok-from.rest.now more c.mark.result are c.mark.ensures c.in_err-rest-4.ensures.none is e)

pub returns-clause-found : goal.returns-clause-found
returns-clause-found c =
    let header : Header = record { salt = c.in_ok-salt.salt; worker = c.in_ok-worker.worker; segment = c.in_ok-segment.segment; workers = c.in_ok-workers.workers; from = c.in_ok-from.from } in
    let are : AreFields header c.args.bytes.now c.in_ok-from.rest.now = record {
      r1 = c.in_ok-rest.rest.now;
      r2 = c.in_ok-salt.rest.now;
      r3 = c.in_ok-rest-2.rest.now;
      r4 = c.in_ok-worker.rest.now;
      r5 = c.in_ok-rest-3.rest.now;
      r6 = c.in_ok-segment.rest.now;
      r7 = c.in_ok-workers.rest.now;
      magic = c.in_ok-rest.ensures.found;
      salt = c.in_ok-salt.ensures.found;
      first = c.in_ok-rest-2.ensures.found;
      worker = c.in_ok-worker.ensures.found;
      second = c.in_ok-rest-3.ensures.found;
      segment = c.in_ok-segment.ensures.found;
      workers = c.in_ok-workers.ensures.found;
      from = c.in_ok-from.ensures.found;
    } in
    (is_header header c.args.bytes.now c.in_ok-from.rest.now are, header_found header c.args.bytes.now c.in_ok-from.rest.now c.in_ok-rest-4.rest.now c.mark.result are c.in_ok-rest-4.ensures.found c.mark.ensures)
