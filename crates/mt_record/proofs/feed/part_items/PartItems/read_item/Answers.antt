use Rattle.mt_record.proofs.feed.part_items.PartItems.read_item.Goals as goal

pub returns-then-length-eq0 : goal.returns-then-length-eq0
returns-then-length-eq0 g c = rw (c.in-Some.ensures.found.1, c.if-length-eq0.true) c.read_footer.ensures
