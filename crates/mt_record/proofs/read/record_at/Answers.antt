use Rattle.std.proofs.Common.{◌∙◌, subst, sym}
use Rattle.mt_words.specs.Limits.{limits_of}
use Rattle.mt_record.specs.Fronts.{IsNext}
use Rattle.mt_record.proofs.Decodes.{body_says}
use Rattle.mt_record.proofs.LogFeeds.{logged_within}
use Rattle.mt_record.proofs.OneFault.{fault_stops}
use Rattle.mt_record.proofs.read.record_at.Goals as goal

pub returns-in_ok-copy_record-in-Ok-Some : goal.returns-in_ok-copy_record-in-Ok-Some
returns-in_ok-copy_record-in-Ok-Some c =
    let found = c.in-Ok-Some in
    let next = rw found.field-0-is at found.ensures.found in
    let lawful = next.is_next.lawful in
    let says = body_says found.body.now next.next (lawful.0, logged_within c.args.format next.next.change lawful.1) next.same_body in
    subst (λ r. IsNext (limits_of c.args.format) c.args.latest c.args.bytes.now r found.after.now) (sym (c.in_ok-copy_record-in-Ok-Some.ensures ∙ says.0)) next.is_next

pub returns-in-Err : goal.returns-in-Err
returns-in-Err c = fault_stops c.args.format c.args.latest c.args.bytes.now c.in-Err.field-0 c.in-Err.ensures.fault
