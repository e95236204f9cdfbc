use Rattle.std.proofs.Common.{◌∙◌, ℕ, max, ap, refl, Some}
use Rattle.mt_record.proofs.Decodes.{body_says}
use Rattle.mt_record.proofs.LogFeeds.{logged_within, record_read}
use Rattle.mt_record.proofs.feed.log_items.read_record.Goals as goal

pub version-requires : goal.version-requires
version-requires g c =
    let found = c.in-Ok-Some in
    let is = rw found.field-0-is at found.ensures.found in
    let r = is.next in
    let lawful = is.is_next.lawful in
    (body_says found.body.now r (lawful.0, logged_within c.args.front.now.head.format r.change lawful.1) is.same_body).1

pub returns-in_ok-put_record-in-Ok-Some : goal.returns-in_ok-put_record-in-Ok-Some
returns-in_ok-put_record-in-Ok-Some g c =
    let found = c.in-Ok-Some in
    record_read g.R.Records.listed (record { front = Some c.args.front.now; ready = c.args.ready.now }) c.put_record.new.self c.args.front.now c.args.bytes.now found.body.now found.after.now c.saturating_add-front.result found.timestamp c.max-front.result c.saturating_add-front-in-Ok-Some.result refl
    (rw found.field-0-is at found.ensures.found) c.in_ok-put_record-in-Ok-Some.ensures.ok c.saturating_add-front.ensures (c.max-front.ensures ∙ ap (λ (n : ℕ). max c.args.front.now.version n) c.version.ensures) c.saturating_add-front-in-Ok-Some.ensures
