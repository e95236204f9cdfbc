use Rattle.std.proofs.Common.{ap, bit_xor}
use Rattle.mt_crc.specs.Crc.{crc32c_append, all_ones}
use Rattle.mt_crc.proofs.crc32c_append.Goals as goal

pub returns : goal.returns
unfolding crc32c_append
returns c = ap (λ x. bit_xor x all_ones) c.remainder.ensures
