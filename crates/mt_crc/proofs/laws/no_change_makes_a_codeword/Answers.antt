use Rattle.mt_crc.proofs.Codewords.{no_burst, no_odd_change}
use Rattle.mt_crc.proofs.laws.no_change_makes_a_codeword.Goals as goal

pub returns-clause-burst : goal.returns-clause-burst
returns-clause-burst c = no_burst

pub returns-clause-odd : goal.returns-clause-odd
returns-clause-odd c = no_odd_change
