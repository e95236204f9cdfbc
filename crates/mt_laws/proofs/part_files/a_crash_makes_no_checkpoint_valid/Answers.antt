use Rattle.mt_laws.proofs.LeftParts.{crash_of_parts}
use Rattle.mt_laws.proofs.part_files.a_crash_makes_no_checkpoint_valid.Goals as goal

pub returns : goal.returns
returns c = λ checkpoints files left are keeps. crash_of_parts checkpoints files left are keeps
