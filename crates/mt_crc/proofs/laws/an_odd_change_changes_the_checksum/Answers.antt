use Rattle.mt_crc.proofs.Changes.{odd_is_seen}
use Rattle.mt_crc.proofs.laws.an_odd_change_changes_the_checksum.Goals as goal

pub returns : goal.returns
returns c = odd_is_seen
