use Rattle.mt_record.proofs.PartBeginnings.{part_none}
use Rattle.mt_record.proofs.feed.part_head.next_part_header.Goals as goal

pub returns-in-None : goal.returns-in-None
returns-in-None c = part_none c.args.bytes.now (rw c.if-not-goes_with_magic.true at c.goes_with_magic.ensures)
