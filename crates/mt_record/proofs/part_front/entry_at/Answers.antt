use Rattle.mt_record.proofs.PartFrontLemmas.{entry_found, no_entry_found}
use Rattle.mt_record.proofs.part_front.entry_at.Goals as goal

pub returns-in_ok-copy_entry-in-Ok-Some : goal.returns-in_ok-copy_entry-in-Ok-Some
returns-in_ok-copy_entry-in-Ok-Some c =
    let found = c.in-Ok-Some in
    entry_found c.args.format c.args.bytes.now found.fields.now found.after.now _ (rw found.field-0-is at found.ensures.found) c.in_ok-copy_entry-in-Ok-Some.ensures

pub returns-in-Err : goal.returns-in-Err
returns-in-Err c = no_entry_found c.args.format c.args.bytes.now c.in-Err.ensures.fault
