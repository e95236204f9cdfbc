use Rattle.mt_laws.proofs.BurstParts.{part_seen}
use Rattle.mt_laws.proofs.damage.a_changed_part_is_no_part.Goals as goal

pub returns : goal.returns
returns c = part_seen
