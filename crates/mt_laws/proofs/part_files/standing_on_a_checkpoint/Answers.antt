use Rattle.mt_laws.proofs.LeftParts.{stands_on}
use Rattle.mt_laws.proofs.part_files.standing_on_a_checkpoint.Goals as goal

pub returns : goal.returns
returns c = λ checkpoints files new are is. stands_on checkpoints files new are is
