use Rattle.std.proofs.Common.{length}
use Rattle.mt_record.proofs.Chains.{Walked}
use Rattle.mt_record.proofs.chain.walk.Given as goal

abbrev pub invariant-walk : goal.invariant-walk
invariant-walk l = Walked l.times l.before (length l.places) l.left l.place l.marks.items

abbrev pub decreases-walk : goal.decreases-walk
decreases-walk l = l.left
