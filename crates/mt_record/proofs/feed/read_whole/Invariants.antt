use Rattle.std.proofs.Common.{length}
use Rattle.mt_record.specs.Feeding.{Reads}
use Rattle.mt_record.proofs.feed.read_whole.Given as goal

-- items were read up to the rest
abbrev pub invariant-items : goal.invariant-items
invariant-items g l = Reads g.I.Items.holds l.initial.items l.items l.bytes l.rest

abbrev pub decreases-items : goal.decreases-items
decreases-items g l = length l.rest
