use Rattle.mt_tree.proofs.Counts.{counted}
use Rattle.mt_tree.proofs.Uniques.{stops_once}
use Rattle.mt_tree.proofs.tree.Tree.layers.Goals as goal

pub returns : goal.returns
returns c =
    let counts = counted _ _ _ c.self.view_is c.self.invariant.0 c.self.invariant.2 in
    record { counts = counts.0; exact = λ n h. stops_once _ _ n counts.0 h; trees = counts.1 }
