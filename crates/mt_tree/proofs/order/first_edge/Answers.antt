use Rattle.std.proofs.Common.{ap}
use Rattle.mt_tree.specs.Steps.Edges.{side_walk}
use Rattle.mt_tree.proofs.EdgeBorders.{first_is_open, first_of_borders}
use Rattle.mt_tree.proofs.order.first_edge.Goals as goal

pub places-requires : goal.places-requires
places-requires c = first_is_open _ _ _ c.layer.invariant c.deref.ensures.value c.in_ok-first-in-Whole.ensures.value

pub returns-in_ok-first-in-Whole-2 : goal.returns-in_ok-first-in-Whole-2
returns-in_ok-first-in-Whole-2 c =
    first_of_borders _ _ _ _ _ _ _ _ _ _ (ap side_walk c.in-Whole.is) c.layer.view_is c.layer.invariant c.deref.ensures.value c.in_ok-first-in-Whole.ensures.value c.places.ensures c.in_ok-first-in-Whole-2.ensures.value c.edge_of_place.ensures
