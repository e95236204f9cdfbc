use Rattle.std.proofs.Common.{List, OnOk, subst}
use Rattle.mt_words.specs.Walks.{Pair}
use Rattle.mt_tree.specs.Trees.{tree_walk}
use Rattle.mt_tree.proofs.Ranged.{from_empty}
use Rattle.mt_tree.proofs.tree.Tree.visit.Goals as goal

pub returns : goal.returns
returns g c = subst (λ (v : List Pair). OnOk c.visit_from.result (g.V.Visitor.shown c.args.target.now c.visit_from.new.target v)) (from_empty (tree_walk c.args.self.now)) c.visit_from.ensures
