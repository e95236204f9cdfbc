use Rattle.mt_laws.proofs.LeftParts.{without_others}
use Rattle.mt_laws.proofs.part_files.dropping_old_parts.Goals as goal

pub returns : goal.returns
returns c = λ checkpoints files left are keeps. without_others checkpoints files left are keeps
