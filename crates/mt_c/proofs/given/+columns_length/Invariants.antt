use Rattle.std.proofs.Common.{length}
use Rattle.mt_c.proofs.given.+columns_length.Given as goal

abbrev pub decreases-columns_length : goal.decreases-columns_length
decreases-columns_length l = length l.columns.now
