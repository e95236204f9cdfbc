use Rattle.std.proofs.Common.{ap, sym}
use Rattle.mt_tree.specs.Steps.Edges.{side_walk}
use Rattle.mt_tree.proofs.EdgeBorders.{last_is_open, last_border_lawful, last_of_borders, last_border_some, never_none}
use Rattle.mt_tree.proofs.order.last_edge.Goals as goal

pub places-requires : goal.places-requires
places-requires c = last_is_open _ _ _ c.layer.invariant c.deref.ensures.value c.in_ok-last-in-Whole.ensures.value

pub edge_of_place-requires : goal.edge_of_place-requires
edge_of_place-requires c = last_border_lawful _ _ _ _ _ c.layer.invariant c.deref.ensures.value c.in_ok-last-in-Whole.ensures.value c.places.ensures c.in_ok-last-in-Whole-2.ensures.value

pub returns-in_ok-last-in-Whole-2 : goal.returns-in_ok-last-in-Whole-2
returns-in_ok-last-in-Whole-2 c =
    last_of_borders _ _ _ _ _ _ _ _ _ _ (ap side_walk c.in-Whole.is) c.layer.view_is c.layer.invariant c.deref.ensures.value c.in_ok-last-in-Whole.ensures.value c.places.ensures c.in_ok-last-in-Whole-2.ensures.value c.edge_of_place.ensures

pub returns-in_err-last-in-Whole-2 : goal.returns-in_err-last-in-Whole-2
returns-in_err-last-in-Whole-2 c =
    let some = last_border_some _ _ _ _ c.layer.invariant c.deref.ensures.value c.in_ok-last-in-Whole.ensures.value c.places.ensures in
    absurd (never_none c.places.result.now some (sym c.in_err-last-in-Whole-2.ensures.value))
