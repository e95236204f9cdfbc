use Rattle.std.proofs.Common.{◌++◌, take, map, ◌∙◌, arith}
use Rattle.std.proofs.lemmas.List.{take-map}
use Rattle.mt_tree.specs.Range.{from, hit_of}
use Rattle.mt_tree.specs.Trees.{tree_walk}
use Rattle.mt_tree.proofs.tree.Tree.getrange.Goals as goal

pub returns : goal.returns
returns c =
    let pairs = from c.args.start.now (tree_walk c.args.self.now) in
    let empty = c.new.ensures.items in
    c.in_ok-visit_from.ensures.hits (omega (arith, c.new.ensures.len))
    ∙ (λ i. take c.args.n (empty i ++ map (hit_of c.args.wanted) pairs))
    ∙ take-map (hit_of c.args.wanted) c.args.n pairs
