use Rattle.mt_record.proofs.Beginnings.{log_none}
use Rattle.mt_record.proofs.feed.head.next_header.Goals as goal

pub returns-in-None : goal.returns-in-None
returns-in-None c = log_none c.args.bytes.now (rw c.if-not-goes_with_log.true at c.goes_with_log.ensures)
