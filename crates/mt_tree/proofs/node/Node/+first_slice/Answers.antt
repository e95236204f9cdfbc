use Rattle.std.proofs.Common.{◌∙◌}
use Rattle.mt_tree.proofs.Levels.{first_is}
use Rattle.mt_tree.proofs.node.Node.+first_slice.Goals as goal

pub returns-in-Interior : goal.returns-in-Interior
returns-in-Interior t c = c.first_slice.ensures ∙ first_is _ _ _ _ _ c.self.invariant c.self.view_is c.in-Interior.is c.index-in-Interior.ensures
