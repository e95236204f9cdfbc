use Rattle.mt_crc.proofs.Changes.{burst_is_seen}
use Rattle.mt_crc.proofs.laws.a_burst_changes_the_checksum.Goals as goal

pub returns : goal.returns
returns c = burst_is_seen
