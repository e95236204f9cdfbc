use Rattle.std.proofs.Common.{length}
use Rattle.mt_record.specs.Decoding.{columns_counted}
use Rattle.mt_record.proofs.Copying.{AreTaken}
use Rattle.mt_record.proofs.body.copy.copy_columns.Given as goal

-- the columns so far are the first of those that the bytes carry
abbrev pub invariant-loop-number : goal.invariant-loop-number
invariant-loop-number l = AreTaken (columns_counted l.fn.carried) l.columns l.rest

abbrev pub decreases-loop-number : goal.decreases-loop-number
decreases-loop-number l = length l.rest
