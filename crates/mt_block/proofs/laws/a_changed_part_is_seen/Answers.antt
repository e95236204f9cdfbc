use Rattle.mt_block.proofs.Older.{no_older_part}
use Rattle.mt_block.proofs.PartErrors.{part_seen_of}
use Rattle.mt_block.proofs.laws.a_changed_part_is_seen.Goals as goal

pub returns-clause-blocks : goal.returns-clause-blocks
returns-clause-blocks c = part_seen_of

pub returns-clause-older : goal.returns-clause-older
returns-clause-older c = no_older_part
