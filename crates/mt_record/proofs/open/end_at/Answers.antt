use Rattle.mt_record.proofs.OpenFiles.{end_is}
use Rattle.mt_record.proofs.open.end_at.Goals as goal

pub returns-then-is_empty : goal.returns-then-is_empty
returns-then-is_empty c mark ends = (end_is mark c.args.rest.now c.is_empty.result c.is_empty.ensures ends).0 c.if-is_empty.true

pub returns-else-is_empty : goal.returns-else-is_empty
returns-else-is_empty c mark ends = (end_is mark c.args.rest.now c.is_empty.result c.is_empty.ensures ends).1 c.if-is_empty.false
