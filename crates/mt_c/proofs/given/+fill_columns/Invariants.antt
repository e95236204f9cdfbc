use Rattle.std.proofs.Common.{length}
use Rattle.mt_c.proofs.given.+fill_columns.Given as goal

abbrev pub decreases-fill_columns : goal.decreases-fill_columns
decreases-fill_columns l = length l.columns.now
