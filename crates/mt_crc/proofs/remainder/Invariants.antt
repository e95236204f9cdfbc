use Rattle.std.proofs.Common.{◌≡◌, length}
use Rattle.mt_crc.specs.Crc.{remainder}
use Rattle.mt_crc.proofs.remainder.Given as goal

abbrev pub invariant-pairs : goal.invariant-pairs
invariant-pairs l = remainder l.state l.rest ≡ remainder l.fn.before l.fn.bytes

abbrev pub decreases-pairs : goal.decreases-pairs
decreases-pairs l = length l.rest
