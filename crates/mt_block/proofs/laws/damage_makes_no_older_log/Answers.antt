use Rattle.mt_block.proofs.Older.{no_older}
use Rattle.mt_block.proofs.laws.damage_makes_no_older_log.Goals as goal

pub returns : goal.returns
returns c = no_older
