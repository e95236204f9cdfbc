use Rattle.std.proofs.Common.{rules}
use Rattle.mt_record.proofs.PartItems.{more_broken}
use Rattle.mt_record.proofs.feed.part_items.PartItemsItems.read_next.Goals as goal

pub returns : goal.returns
returns g c =
    (λ _ _ h. h, more_broken g.E.Entries.listed c.args.self.now c.in-Some.head c.broken.result c.in-Some-end.field-0 c.args.bytes.now c.in-Some.is c.in-Some-end.is c.broken.ensures (search rules))
