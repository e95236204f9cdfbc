use Rattle.mt_tree.proofs.Lasts.{from_here}
use Rattle.mt_tree.proofs.layer.count_below.Goals as goal

pub returns-then-place-slice-clause-from : goal.returns-then-place-slice-clause-from
returns-then-place-slice-clause-from c = from_here 0 c.args.slice c.args.places.now c.loop-at.at c.index-places-at.result c.requires c.loop-at-test.true c.index-places-at.is c.if-place-slice.true
