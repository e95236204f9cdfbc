use Rattle.mt_block.proofs.Deciding.{some_of}
use Rattle.mt_block.proofs.laws.some_file.Goals as goal

pub returns : goal.returns
returns c = some_of
