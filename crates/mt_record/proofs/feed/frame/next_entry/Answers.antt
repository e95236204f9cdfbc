use Rattle.std.proofs.Common.{ℕ, subst, inr}
use Rattle.mt_words.specs.Limits.{limits_of}
use Rattle.mt_record.specs.PartFeeding.{ShowsNoEntry}
use Rattle.mt_record.specs.Steps.Bodies.{IsWithin, IsFrame, IsFrameFault}
use Rattle.mt_record.proofs.Checked.{on_err}
use Rattle.mt_record.proofs.EntryTexts.{frame_no_entry, wrong_entry}
use Rattle.mt_record.proofs.feed.frame.next_entry.Goals as goal

pub returns-in_err-body-clause-fault : goal.returns-in_err-body-clause-fault
returns-in_err-body-clause-fault c =
    let what = c.in_err-body.field-0.0 in
    let fault = subst (λ (n : ℕ). IsFrameFault (IsWithin 14 n) c.args.bytes.now what) c.longest_change.ensures.value c.in_err-body.ensures.fault in
    on_err (ShowsNoEntry (limits_of c.args.format) c.args.bytes.now) c.from_residual.result (frame_no_entry c.args.format c.args.bytes.now what fault)

pub returns-in_err-check_entry-clause-fault : goal.returns-in_err-check_entry-clause-fault
returns-in_err-check_entry-clause-fault c =
    let framed = rw c.in-Some.is at c.in_ok-body.ensures.found in
    let frame = subst (λ (n : ℕ). IsFrame (IsWithin 14 n) c.args.bytes.now c.in-Some.body.now c.in-Some.after.now) c.longest_change.ensures.value framed in
    on_err (ShowsNoEntry (limits_of c.args.format) c.args.bytes.now) c.from_residual-in_err-check_entry.result
    (inr (wrong_entry c.args.format c.args.bytes.now c.in-Some.body.now c.in-Some.after.now frame c.in_err-check_entry.ensures.fault))
