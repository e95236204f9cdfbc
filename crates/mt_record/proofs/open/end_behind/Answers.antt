use Rattle.std.proofs.Common.{inr}
use Rattle.mt_record.proofs.open.end_behind.Goals as goal

pub returns-then-has_some_head : goal.returns-then-has_some_head
returns-then-has_some_head c rest broken = (c.args.behind.now, broken, c.if-has_some_head.ensures)

pub returns-else-has_some_head : goal.returns-else-has_some_head
returns-else-has_some_head c rest broken = inr (c.args.behind.now, broken, c.if-has_some_head.ensures)
