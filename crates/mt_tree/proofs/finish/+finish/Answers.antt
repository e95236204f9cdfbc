use Rattle.std.proofs.Common.{◌≡◌, ◌≤◌, ◌<◌, ◌++◌, List, [], ap, sym, subst, ◌∙◌, arith, rules, ◌∷◌, append_assoc, ◌-◌, ◌^◌, min, length}
use Rattle.std.proofs.lemmas.List.{append-nil, map-append, nil_from_length}
use Rattle.std.specs.Vec.Iter.{into_iter_items}
use Rattle.mt_tree.specs.Layer.{PlaceView, link, IsPlace, walk, pairs_at}
use Rattle.mt_tree.specs.Steps.Ranks.{IsRanked, AreRanked}
use Rattle.mt_tree.specs.Steps.Pairs.{weight}
use Rattle.mt_tree.specs.Borders.{DraftView, layer_walk}
use Rattle.mt_tree.specs.Steps.DraftViews.{border_view, border_views, layers_of_border, HasLawfulLinks, layers_under}
use Rattle.mt_tree.proofs.Levels.{place_weight, place_lawful, link_lighter}
use Rattle.std.specs.List.{AllByRecursion, flat_map}
use Rattle.mt_tree.specs.Nodes.{unlinked, NodeView, LayerView, IsTreeCount, each_borders}
use Rattle.mt_tree.specs.Steps.Levels.{IsNodeAt, borders_of, below_of, node_walk}
use Rattle.mt_tree.proofs.Ends.{link_below, middle, link_some, border_done, below_push, counted_push, carried, all_carried, each_flat}
use Rattle.mt_tree.specs.Steps.Places.{views, view_of, view_of_content, below_link}
use Rattle.mt_tree.specs.Steps.NodeViews.{trees_under}
use Rattle.mt_tree.specs.declared.place.Place.{Place}
use Rattle.mt_tree.specs.declared.place.Content.{Content}
use Rattle.mt_tree.proofs.finish.+finish.Goals as goal
use Rattle.mt_tree.proofs.finish.+finish.Goals.{finish_place-in-Short, finish_place-in-Suffix, finish_place-in-Link+in_ok-made-in-Link}

pub finish-loop-border-init : goal.finish-loop-border-init
finish-loop-border-init t c =
    let none = c.in_ok-nodes.ensures.items in
    let given : into_iter_items c.into_iter-border-iterator.result ≡ c.layer.inside.borders.items = search rules in
    record {
      whole = (λ i. borders_of (none i) ++ border_views (given i)) ∙ ap (λ (d : DraftView). d.borders) c.layer.view_is;
      layers = (λ i. flat_map (λ (n : NodeView). each_borders n.below) (none i) ++ flat_map layers_of_border (given i)) ∙ ap (λ (d : DraftView). d.below) c.layer.view_is;
      nodes = subst (AllByRecursion (IsNodeAt 0)) (sym none) tt;
      links = subst (AllByRecursion HasLawfulLinks) (sym given) c.layer.invariant.links;
      count = ap (λ (z : List NodeView). min (length (below_of z)) (2 ^ 64 - 1)) (sym none);
    }

pub finish-returns-clause-below : goal.finish-returns-clause-below
finish-returns-clause-below t c =
    let none : into_iter_items c.loop-border.border-iterator ≡ [] = nil_from_length (into_iter_items c.loop-border.border-iterator) (omega (arith, c.in-None.ensures.steps.0)) in
    let nodes = c.loop-border.nodes.items in
    let layers : each_borders (below_of nodes) ≡ c.args.layer.below =
    sym (each_flat (λ (n : NodeView). n.below) nodes) ∙ all_carried (λ (n : NodeView). each_borders n.below) layers_of_border nodes _ _ c.loop-border.invariant.layers none in
    ap each_borders c.in_ok-made.ensures.below ∙ layers

pub finish-returns-clause-count : goal.finish-returns-clause-count
finish-returns-clause-count t c = subst (λ (z : List LayerView). IsTreeCount z c.loop-border.below) (sym c.in_ok-made.ensures.below) c.loop-border.invariant.count

pub close-returns-clause-layers : goal.close-returns-clause-layers
close-returns-clause-layers t c =
    let none : into_iter_items c.loop-place.place-iterator ≡ [] = nil_from_length (into_iter_items c.loop-place.place-iterator) (omega (arith, c.in-None.ensures.steps.0)) in
    sym (each_flat (λ (p : Place NodeView). below_link trees_under p.content) c.loop-place.made.items)
    ∙ all_carried (λ (p : Place NodeView). each_borders (below_link trees_under p.content)) (λ (p : Place DraftView). below_link layers_under p.content) c.loop-place.made.items _ _ c.loop-place.invariant.layers none

pub finish-finish_border-requires : goal.finish-finish_border-requires
finish-finish_border-requires t c =
    let m = middle _ _ _ c.args.layer.borders (border_view c.in-Some.border) c.loop-border.invariant.whole (ap border_views c.in-Some.ensures.steps.0) (subst AreRanked (ap (λ (d : DraftView). d.borders) c.layer.view_is) c.layer.invariant.own) in
    let links = subst (AllByRecursion HasLawfulLinks) c.in-Some.ensures.steps.0 c.loop-border.invariant.links in
    (omega (arith, m.light, c.decreases), (m.border, (m.layer, links.0)))

pub close-finish_place-requires : goal.close-finish_place-requires
close-finish_place-requires t c =
    let next = ap (views layer_walk) c.in-Some.ensures.steps.0 in
    let light : weight (pairs_at (view_of layer_walk c.in-Some.place)) ≤ weight (walk (views layer_walk c.args.places.items)) = place_weight _ _ (views layer_walk c.args.places.items) (view_of layer_walk c.in-Some.place) _ c.loop-place.invariant.same next in
    (omega (arith, light, c.decreases), place_lawful _ _ (views layer_walk c.args.places.items) (view_of layer_walk c.in-Some.place) _ c.loop-place.invariant.same next c.requires)

all_done : (views_so all : List PlaceView) (left : List (Place DraftView)) → views_so ++ views layer_walk left ≡ all → left ≡ [] → views_so ≡ all
all_done views_so all left e f = sym (append-nil views_so) ∙ ap (λ (z : List (Place DraftView)). views_so ++ views layer_walk z) (sym f) ∙ e

pub close-returns-clause-same : goal.close-returns-clause-same
close-returns-clause-same t c =
    let none : into_iter_items c.loop-place.place-iterator ≡ [] = nil_from_length (into_iter_items c.loop-place.place-iterator) (omega (arith, c.in-None.ensures.steps.0)) in
    all_done _ _ _ c.loop-place.invariant.same none

pub finish_border-invariant_of-made : goal.finish_border-invariant_of-made
finish_border-invariant_of-made t c = border_done _ (border_view c.args.border) c.in_ok-made.ensures.same c.requires.some c.requires.lawful c.in_ok-made.ensures.below

pub finish_border-returns-clause-lawful : goal.finish_border-returns-clause-lawful
finish_border-returns-clause-lawful t c = border_done _ (border_view c.args.border) c.in_ok-made.ensures.same c.requires.some c.requires.lawful c.in_ok-made.ensures.below

pub close_border-close-requires : goal.close_border-close-requires
close_border-close-requires t c =
    let same : border_view c.args.border ≡ views layer_walk c.in-Open.places.items = ap border_view c.in-Open.is in
    let light = ap (λ (z : List PlaceView). weight (walk z)) same in
    (omega (arith, light, c.decreases), subst IsRanked same c.requires.lawful)

pub finish_place-finish-requires : goal.finish_place-finish-requires
finish_place-finish-requires t c =
    let lawful : IsPlace (link c.args.place.slice (layer_walk c.in-Link.layer)) = subst (λ (z : Content DraftView). IsPlace (view_of_content layer_walk c.args.place.slice z)) c.in-Link.is c.requires.lawful in
    let same = ap (λ (z : Content DraftView). weight (pairs_at (view_of_content layer_walk c.args.place.slice z))) c.in-Link.is in
    let light : weight (layer_walk c.in-Link.layer) < weight (pairs_at (link c.args.place.slice (layer_walk c.in-Link.layer))) = link_lighter _ _ lawful in
    let some = link_some _ c.in-Link.layer lawful in
    rw c.in-Link.layer-is (omega (arith, light, same, c.decreases), some)

pub finish_place-returns-clause-below : goal.finish_place-returns-clause-below
finish_place-returns-clause-below t c =
    elim c.match-place.branch [
      | finish_place-in-Short w ↦ rw w.content-is (record { lawful = tt; linked = unlinked })
      | finish_place-in-Suffix w ↦ rw w.content-is (record { lawful = tt; linked = unlinked })
      | finish_place-in-Link+in_ok-made-in-Link w ↦ rw w.content-is (link_below _ _ w.in_ok-made-in-Link.ensures.lawful)
    ]

place_moved : (xs ys : List (Place NodeView)) (left next : List (Place DraftView)) (d : Place DraftView) (p : Place NodeView) (all : List PlaceView) → views node_walk xs ++ views layer_walk left ≡ all → left ≡ d ∷ next → view_of node_walk p ≡ view_of layer_walk d → ys ≡ xs ++ p ∷ [] → views node_walk ys ++ views layer_walk next ≡ all
place_moved xs ys left next d p all e f g h =
    ap (λ (z : List PlaceView). z ++ views layer_walk next) (ap (views node_walk) h ∙ map-append (view_of node_walk) xs (p ∷ []))
    ∙ append_assoc (views node_walk xs) (view_of node_walk p ∷ []) (views layer_walk next)
    ∙ ap (λ (z : PlaceView). views node_walk xs ++ z ∷ views layer_walk next) g
    ∙ ap (λ (z : List (Place DraftView)). views node_walk xs ++ views layer_walk z) (sym f)
    ∙ e

pub close-loop-place-preserved : goal.close-loop-place-preserved
close-loop-place-preserved t c = record {
  same = place_moved _ _ _ _ _ _ _ c.loop-place.invariant.same c.in-Some.ensures.steps.0 c.in_ok-place.ensures.same c.in_ok-append.ensures;
  layers = carried (λ (p : Place NodeView). each_borders (below_link trees_under p.content)) (λ (p : Place DraftView). below_link layers_under p.content) _ _ _ _ _ _ _ c.loop-place.invariant.layers c.in-Some.ensures.steps.0 c.in_ok-place.ensures.layers c.in_ok-append.ensures;
  below = below_push _ _ _ c.loop-place.invariant.below c.in_ok-place.ensures.below c.in_ok-append.ensures;
  count = counted_push (λ (p : Place NodeView). below_link trees_under p.content) _ _ _ _ _ _ c.loop-place.invariant.count c.in_ok-place.ensures.count c.saturating_add-below.ensures c.in_ok-append.ensures;
}
