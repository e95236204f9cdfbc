use Rattle.mt_crc.proofs.Numbers.{crc-append}
use Rattle.mt_crc.proofs.laws.chunks_have_the_same_checksum.Goals as goal

pub returns : goal.returns
returns c = crc-append
