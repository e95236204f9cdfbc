use Rattle.std.proofs.Common.{◌∙◌, ◌≡◌, ◌++◌, ◌∷◌, ◌-◌, [], List, ℕ, length, sym, ap, append_assoc, arith}
use Rattle.std.specs.List.{flat_map}
use Rattle.std.proofs.lemmas.List.{length-append, flat_map_more}
use Rattle.mt_words.specs.Limits.{limits_of}
use Rattle.mt_record.specs.Spelling.{spelling}
use Rattle.mt_record.proofs.Records.{records_push, latest_push}
use Rattle.mt_record.proofs.Decodes.{body_says}
use Rattle.mt_record.proofs.LogFeeds.{logged_within}
use Rattle.mt_record.proofs.Splits.{below_short}
use Rattle.mt_record.proofs.resume.split_records.Goals as goal

pub with-split-requires-clause-lawful : goal.with-split-requires-clause-lawful
with-split-requires-clause-lawful c =
    let found = c.in-Ok-Some in
    let is = rw found.field-0-is at found.ensures.found in
    let lawful = is.is_next.lawful in
    (body_says found.body.now is.next (lawful.0, logged_within c.args.format is.next.change lawful.1) is.same_body).1

pub with-split-requires-clause-room : goal.with-split-requires-clause-room
with-split-requires-clause-room c =
    let I = c.loop-timestamp.invariant in
    let all = length-append (flat_map spelling I.records) c.loop-timestamp.rest.now in
    omega (arith, I.is_split.kept, below_short c.args.cutoff I.records, ap length I.spelled, all)

pub loop-timestamp-preserved : goal.loop-timestamp-preserved
loop-timestamp-preserved c =
    let I = c.loop-timestamp.invariant in
    let found = c.in-Ok-Some in
    let is = rw found.field-0-is at found.ensures.found in
    let r = is.next in
    let next = is.is_next in
    let says = body_says found.body.now r (next.lawful.0, logged_within c.args.format r.change next.lawful.1) is.same_body in
    let size : length c.loop-timestamp.rest.now - length found.after.now ≡ length (spelling r) = omega (arith, ap length next.spelled, length-append (spelling r) found.after.now) in
    record {
      records = I.records ++ r ∷ [];
      spelled = I.spelled ∙ ap (λ (x : List ℕ). flat_map spelling I.records ++ x) next.spelled ∙ sym (append_assoc (flat_map spelling I.records) (spelling r) found.after.now)
          ∙ ap (λ (x : List ℕ). x ++ found.after.now) (flat_map_more spelling [] I.records r);
      lawful = records_push (limits_of c.args.format) 0 I.records r I.lawful next.lawful (omega (arith, I.latest, next.rises));
      latest = is.same_time ∙ sym (latest_push 0 I.records r);
      nth = omega (arith, c.saturating_add-nth.ensures, I.nth, length-append I.records (r ∷ []));
      is_split = c.with-split.ensures I.records r says.0 is.same_time size I.is_split;
    }
