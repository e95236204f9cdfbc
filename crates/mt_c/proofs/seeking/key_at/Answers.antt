use Rattle.std.proofs.Common.{[], arith}
use Rattle.mt_tree.specs.Trees.{tree_walk}
use Rattle.mt_c.proofs.Seeks.{looked}
use Rattle.mt_c.proofs.seeking.key_at.Goals as goal

pub returns : goal.returns
returns c = looked c.args.position c.visit.new.target (tree_walk c.args.tree.now) (c.in-Ok.ensures c.args.position [] (omega arith))
