use Rattle.std.proofs.Common.{length}
use Rattle.mt_cli.proofs.tracing.columns_of.Given as goal

abbrev pub decreases-loop-number : goal.decreases-loop-number
decreases-loop-number l = length l.writes
