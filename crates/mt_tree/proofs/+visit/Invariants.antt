use Rattle.std.proofs.Common.{◌≡◌, ◌+◌, ◌*◌, take}
use Rattle.mt_words.specs.Walks.{joined}
use Rattle.mt_tree.specs.Steps.Pairs.{weight}
use Rattle.mt_tree.specs.Layer.{walk, pairs_at, put_before}
use Rattle.mt_tree.specs.Steps.Levels.{borders_of, node_walk}
use Rattle.mt_tree.specs.Range.{from}
use Rattle.mt_tree.specs.Steps.Places.{views, view_of}
use Rattle.mt_tree.proofs.+visit.Given as goal

abbrev pub decreases-node::Node::visit : goal.decreases-node::Node::visit
decreases-node::Node::visit g l = 2 * weight (node_walk l.self.now) + 1

abbrev pub decreases-visit::Place+Node::visit : goal.decreases-visit::Place+Node::visit
decreases-visit::Place+Node::visit g l = 2 * weight (pairs_at (view_of node_walk l.self.now))

-- after the child at the start, the children so far were shown
abbrev pub invariant-node::Node::visit-loop-child : goal.invariant-node::Node::visit-loop-child
invariant-node::Node::visit-loop-child g l = record {
  prefix : l.prefix.items ≡ l.fn.prefix.items;
  shown : g.V.Visitor.shown l.initial.target l.target (put_before l.fn.prefix.items (walk (joined (borders_of (take l.child-index l.child-items)))));
}

-- the places so far were shown
abbrev pub invariant-node::Node::visit-loop-place : goal.invariant-node::Node::visit-loop-place
invariant-node::Node::visit-loop-place g l = record {
  prefix : l.prefix.items ≡ l.fn.prefix.items;
  shown : g.V.Visitor.shown l.fn.target l.target (put_before l.fn.prefix.items (from l.start (walk (views node_walk (take l.place-index l.place-items)))));
}
