use Rattle.mt_record.proofs.PartItems.{entry_read}
use Rattle.mt_record.proofs.feed.part_items.PartItems.read_entry.Goals as goal

pub returns-in_ok-put_entry-in-Ok-Some : goal.returns-in_ok-put_entry-in-Ok-Some
returns-in_ok-put_entry-in-Ok-Some g c =
    let found = c.in-Ok-Some in
    rw found.after-is
    (entry_read g.E.Entries.listed c.args.self.now c.put_entry.new.self c.args.head c.args.bytes.now found.fields.now found.after.now c.requires.head c.requires.open
    (rw found.field-0-is at found.ensures.found) (λ entry are. c.in_ok-put_entry-in-Ok-Some.ensures.ok entry (rw found.fields-is are)))
