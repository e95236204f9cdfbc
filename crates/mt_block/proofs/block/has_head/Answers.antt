use Rattle.mt_block.proofs.Places.{head_told}
use Rattle.mt_block.proofs.block.has_head.Goals as goal

pub returns : goal.returns
returns c = head_told c.args.mark c.args.bytes.now c.head_at.result c.is_some.result c.is_some.ensures c.head_at.ensures.found c.head_at.ensures.none
