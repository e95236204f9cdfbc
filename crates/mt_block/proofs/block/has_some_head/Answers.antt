use Rattle.std.proofs.Common.{refl}
use Rattle.mt_block.proofs.Places.{found_anywhere}
use Rattle.mt_block.proofs.block.has_some_head.Goals as goal

pub returns : goal.returns
returns c = found_anywhere c.args.mark c.find_head.result c.args.bytes.now _ refl c.find_head.ensures.within c.find_head.ensures.first c.find_head.ensures.found
