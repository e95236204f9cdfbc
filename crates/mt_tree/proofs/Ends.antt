-- Borders are finished one by one.
use Rattle.std.proofs.Common.{◌≡◌, ℕ, ◌+◌, ◌-◌, ◌^◌, ◌≤◌, min, List, [], ◌∷◌, ◌++◌, length, refl, sym, ap, append_assoc, ◌∙◌, subst, arith}
use Rattle.std.proofs.lemmas.List.{append-nil, map-append}
use Rattle.std.proofs.lemmas.Grind.{flat_map-append}
use Rattle.mt_tree.proofs.Counts.{counted_more}
use Rattle.mt_tree.proofs.Levels.{below-append}
use Rattle.mt_tree.specs.Layer.{PlaceView, link, IsPlace, walk}
use Rattle.mt_tree.specs.Steps.Ranks.{IsRanked, AreRanked}
use Rattle.mt_tree.specs.Steps.Pairs.{weight}
use Rattle.mt_tree.specs.Steps.Falls.{weight-append, walk-append, layer_back, layer_front, joined-append}
use Rattle.mt_tree.specs.Nodes.{NodeView, AreLinked, linked, unlinked, each_borders, IsBorder, LayerView, IsLayerTree, IsNode, AreBelow, IsTreeCount}
use Rattle.mt_tree.specs.Steps.Levels.{border_tree, node_walk}
use Rattle.mt_tree.specs.Borders.{DraftView, borders_walk, layer_walk}
use Rattle.mt_tree.specs.Steps.NodeViews.{border_node, trees_under}
use Rattle.std.specs.List.{flat_map}
use Rattle.mt_words.specs.Walks.{joined}
use Rattle.mt_tree.proofs.Cuts.{border_is_tree}
use Rattle.mt_tree.proofs.Joins.{all_back}
use Rattle.mt_tree.specs.Steps.Places.{views, view_of, below_link, below_links}
use Rattle.mt_tree.specs.declared.place.Place.{Place}

pub record Middle (l : List PlaceView) (all : List (List PlaceView)) : Type 0 where
  pub border : IsBorder l
  pub layer : IsRanked l
  pub light : weight (walk l) ≤ weight (borders_walk all)

pub middle : (fs bs left all : List (List PlaceView)) (l : List PlaceView) → fs ++ left ≡ all → left ≡ l ∷ bs → AreRanked all → Middle l all
middle fs bs left all l e f h =
    let is : fs ++ l ∷ bs ≡ all = ap (λ (z : List (List PlaceView)). fs ++ z) (sym f) ∙ e in
    let are : AreRanked (fs ++ l ∷ bs) = subst AreRanked (sym is) h in
    let places : joined all ≡ joined fs ++ (l ++ joined bs) = ap joined (sym is) ∙ joined-append fs (l ∷ bs) in
    let whole = ap (λ (z : List PlaceView). weight (walk z)) places in
    let one = ap weight (walk-append (joined fs) (l ++ joined bs)) in
    let two = ap weight (walk-append l (joined bs)) in
    record {
      border = (all_back IsBorder fs (l ∷ bs) are.0).0;
      layer = layer_front 0 l (joined bs) (layer_back 0 (joined fs) (l ++ joined bs) (subst IsRanked places h.2));
      light = omega (arith, whole, one, two, weight-append (walk (joined fs)) (walk (l ++ joined bs)), weight-append (walk l) (walk (joined bs)));
    }

borders_some : (s : ℕ) (bs : List (List PlaceView)) → IsPlace (link s (borders_walk bs)) → 1 ≤ length bs
borders_some s [] h = absurd (let two : 2 ≤ 0 = h.1 in omega arith)
borders_some s (b ∷ bs) h = omega arith

pub link_some : (s : ℕ) (d : DraftView) → IsPlace (link s (layer_walk d)) → 1 ≤ length d.borders
link_some s d h = borders_some s d.borders h

-- ---- the places of a border
pub border_done : (xs : List (Place NodeView)) (b : List PlaceView) → views node_walk xs ≡ b → IsBorder b → IsRanked b → AreBelow (views node_walk xs) (below_links trees_under xs) → IsNode (border_node xs)
border_done xs b e h l below = record {
  tree = subst (λ (z : List PlaceView). IsLayerTree (border_tree z)) (sym e) (border_is_tree b h.0 h.1 l);
  below = subst (λ (z : List PlaceView). AreBelow z (below_links trees_under xs)) (sym (append-nil (views node_walk xs))) below;
}

-- below a link is the linked tree, then what is below its own links
pub link_below : (s : ℕ) (n : NodeView) → IsNode n → AreBelow (link s (node_walk n) ∷ []) (trees_under n)
link_below s n h = record {
  lawful = (h.tree, h.below.lawful);
  linked = subst (AreLinked (node_walk n ∷ [])) (ap (λ z. n.tree.borders ∷ z) (append-nil (each_borders n.below))) (linked h.below.linked unlinked);
}

pub below_push : (xs ys : List (Place NodeView)) (p : Place NodeView) → AreBelow (views node_walk xs) (below_links trees_under xs) → AreBelow (view_of node_walk p ∷ []) (below_link trees_under p.content) → ys ≡ xs ++ p ∷ [] → AreBelow (views node_walk ys) (below_links trees_under ys)
below_push xs ys p h k e =
    let seen : views node_walk ys ≡ views node_walk xs ++ view_of node_walk p ∷ [] = ap (views node_walk) e ∙ map-append (view_of node_walk) xs (p ∷ []) in
    let trees : below_links trees_under ys ≡ below_links trees_under xs ++ below_link trees_under p.content =
    ap (below_links trees_under) e ∙ flat_map-append (λ (q : Place NodeView). below_link trees_under q.content) xs (p ∷ []) ∙ ap (λ (z : List LayerView). below_links trees_under xs ++ z) (append-nil (below_link trees_under p.content)) in
    subst (λ (z : List PlaceView). AreBelow z (below_links trees_under ys)) (sym seen)
    (subst (AreBelow (views node_walk xs ++ view_of node_walk p ∷ [])) (sym trees) (below-append (views node_walk xs) (view_of node_walk p ∷ []) (below_links trees_under xs) (below_link trees_under p.content) h k))

pub counted_push : {X : Type 0} (f : X → List LayerView) (xs ys : List X) (p : X) (x y z : ℕ) → IsTreeCount (flat_map f xs) x → IsTreeCount (f p) y → z ≡ min (x + y) (2 ^ 64 - 1) → ys ≡ xs ++ p ∷ [] → IsTreeCount (flat_map f ys) z
counted_push f xs ys p x y z h k is e =
    let trees : flat_map f ys ≡ flat_map f xs ++ f p = ap (flat_map f) e ∙ flat_map-append f xs (p ∷ []) ∙ ap (λ (w : List LayerView). flat_map f xs ++ w) (append-nil (f p)) in
    subst (λ (w : List LayerView). IsTreeCount w z) (sym trees) (counted_more (flat_map f xs) (f p) x y z h k is)

-- ---- the layers below links, one by one
-- the next element moves from what is left to what is done
pub carried : {X Y Z : Type 0} (f : X → List Z) (g : Y → List Z) (xs ys : List X) (left next : List Y) (x : X) (y : Y) (all : List Z) → flat_map f xs ++ flat_map g left ≡ all → left ≡ y ∷ next → f x ≡ g y → ys ≡ xs ++ x ∷ [] → flat_map f ys ++ flat_map g next ≡ all
carried f g xs ys left next x y all e k same h =
    ap (λ z. z ++ flat_map g next) (ap (flat_map f) h ∙ flat_map-append f xs (x ∷ []) ∙ ap (λ z. flat_map f xs ++ z) (append-nil (f x) ∙ same))
    ∙ append_assoc (flat_map f xs) (g y) (flat_map g next)
    ∙ ap (λ z. flat_map f xs ++ flat_map g z) (sym k)
    ∙ e

pub all_carried : {X Y Z : Type 0} (f : X → List Z) (g : Y → List Z) (xs : List X) (left : List Y) (all : List Z) → flat_map f xs ++ flat_map g left ≡ all → left ≡ [] → flat_map f xs ≡ all
all_carried f g xs left all e none = sym (append-nil (flat_map f xs)) ∙ ap (λ z. flat_map f xs ++ flat_map g z) (sym none) ∙ e

pub each_flat : {X : Type 0} (f : X → List LayerView) (xs : List X) → flat_map (λ x. each_borders (f x)) xs ≡ each_borders (flat_map f xs)
each_flat f [] = refl
each_flat f (x ∷ xs) = ap (λ z. each_borders (f x) ++ z) (each_flat f xs) ∙ sym (map-append (λ (t : LayerView). t.borders) (f x) (flat_map f xs))
