use Rattle.std.proofs.Common.{length}
use Rattle.mt_tree.proofs.hit.wanted_size.Given as goal

abbrev pub decreases-loop-number : goal.decreases-loop-number
decreases-loop-number l = length l.rest
