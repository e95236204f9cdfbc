use Rattle.mt_block.specs.Blocks.{HasNoHeadIn}
use Rattle.mt_block.proofs.block.find_head.Given as goal

abbrev pub invariant-loop-at : goal.invariant-loop-at
invariant-loop-at l = HasNoHeadIn l.mark l.bytes l.at
