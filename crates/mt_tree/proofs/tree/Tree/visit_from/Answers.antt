use Rattle.std.proofs.Common.{◌≡◌, List, OnOk, sym, ap, ◌∙◌, subst}
use Rattle.mt_words.specs.Walks.{Pair}
use Rattle.mt_tree.specs.Layer.{put_before}
use Rattle.mt_tree.specs.Steps.Levels.{node_walk}
use Rattle.mt_tree.specs.Trees.{tree_walk}
use Rattle.mt_tree.specs.Range.{from}
use Rattle.mt_tree.proofs.Visits.{put_none}
use Rattle.mt_tree.proofs.tree.Tree.visit_from.Goals as goal

pub returns-in-Some : goal.returns-in-Some
returns-in-Some g c =
    let start = c.args.start.now in
    let pairs : put_before c.new.result.items (from start (node_walk c.in-Some.root)) ≡ from start (tree_walk c.args.self.now) = put_none _ _ c.new.ensures ∙ ap (from start) (ap tree_walk (sym c.in-Some.is ∙ c.self.view_is)) in
    subst (λ (v : List Pair). OnOk c.visit.result (g.V.Visitor.shown c.args.target.now c.visit.new.target v)) pairs c.visit.ensures.shown
