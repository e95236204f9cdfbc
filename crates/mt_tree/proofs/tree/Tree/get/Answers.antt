use Rattle.std.proofs.Common.{◌∙◌, ap, sym, Option}
use Rattle.mt_tree.specs.Steps.Pairs.{find_key}
use Rattle.mt_tree.specs.Nodes.{NodeView}
use Rattle.mt_tree.specs.Trees.{tree_walk}
use Rattle.mt_tree.proofs.Finds.{found_or_absent}
use Rattle.mt_tree.proofs.tree.Tree.get.Goals as goal

pub returns-in-Some : goal.returns-in-Some
returns-in-Some c = found_or_absent c.args.key.now (tree_walk c.args.self.now) c.get.result
    (c.get.ensures ∙ ap (λ (t : Option NodeView). find_key c.args.key.now (tree_walk t)) (sym c.in-Some.is ∙ c.self.view_is))
