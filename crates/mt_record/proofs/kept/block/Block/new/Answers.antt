use Rattle.std.proofs.Common.{refl}
use Rattle.mt_record.proofs.kept.block.Block.new.Goals as goal

pub returns : goal.returns
returns c = rw c.new-2.ensures refl
