use Rattle.mt_record.proofs.OneFault.{fault_stops}
use Rattle.mt_record.proofs.salvage.next_at.Goals as goal

pub returns-in-Ok-Some-clause-some : goal.returns-in-Ok-Some-clause-some
returns-in-Ok-Some-clause-some c =
    let found = c.in-Ok-Some in
    let is = rw found.field-0-is at found.ensures.found in
    record { next = is.next; is_next = is.is_next; same_time = is.same_time }

pub returns-in-Err-clause-none : goal.returns-in-Err-clause-none
returns-in-Err-clause-none c = fault_stops c.args.format c.args.latest c.args.bytes.now c.in-Err.field-0 c.in-Err.ensures.fault
