-- Each linked layer weighs less than the layer that links to it, and each child of a node less than the node.
use Rattle.std.specs.Prelude.{◌≡◌, ℕ, suc, ◌+◌, ◌*◌, ◌≤◌, List, [], ◌∷◌, ◌++◌, length}
use Rattle.std.proofs.Common.{arith, ap, length-append, refl, sym, ◌∙◌, append_assoc, subst}
use denote.Param.Weighed.{most}
use Rattle.mt_words.specs.Slices.{slice_bytes}
use Rattle.mt_words.specs.Walks.{Pair, joined}
use Rattle.mt_words.proofs.SliceBytes.{slice_bytes-length}
use Rattle.mt_tree.specs.Layer.{PlaceView, pairs_at, walk, put_before, IsPlace, short, long, link}
use Rattle.mt_tree.specs.Steps.Ranks.{IsLayerFrom, rank_at, IsRanked, ranked}
use Rattle.mt_tree.specs.Steps.Pairs.{weight}
use Rattle.mt_tree.specs.Borders.{layer_walk, borders_walk}
use Rattle.mt_tree.specs.Steps.Places.{view_of, view_of_content, views}
use Rattle.mt_tree.specs.Steps.DraftViews.{border_view, border_views}
use Rattle.mt_tree.specs.declared.place.Place.{Place}
use Rattle.mt_tree.specs.declared.place.Content.{Content}
use Rattle.mt_tree.specs.declared.place.Content.TheVariants.{Short, Suffix, Link}
use Rattle.mt_tree.specs.declared.layer.Border.{Border as DraftBorder}
use Rattle.mt_tree.specs.declared.layer.Border.TheVariants.{Open, Closed}
use Rattle.mt_tree.specs.declared.layer.Layer.TheDeep.{deep-Border}
use Rattle.std.specs.List.{AllByRecursion}
use Rattle.std.proofs.lemmas.List.{append-nil, length-map}
use Rattle.mt_tree.specs.Nodes.{NodeView, places, IsNode, IsBorder}
use Rattle.mt_tree.specs.Steps.Levels.{node_walk, borders_of, branches}
use Rattle.mt_tree.specs.Steps.NodeViews.{node_view, IsNodeKind}
use Rattle.mt_tree.specs.declared.node.NodeKind.{NodeKind}
use Rattle.mt_tree.specs.declared.node.NodeKind.TheVariants.{Border, Interior}
use Rattle.mt_tree.specs.declared.node.Node.TheDeep.{deep-NodeKind}
use Rattle.mt_tree.specs.declared.node.Node.TheShapes.{weighed-NodeKind-Border-0-at-7}

pub weight-append : (v w : List Pair) → weight (v ++ w) ≡ weight v + weight w
weight-append [] w = omega arith
weight-append (p ∷ v) w = omega (arith, weight-append v w)

pub weight-put_before : (bytes : List ℕ) (w : List Pair) → weight (put_before bytes w) ≡ weight w + length bytes * length w
weight-put_before bytes [] = omega arith
weight-put_before bytes (p ∷ w) = omega (arith, weight-put_before bytes w, length-append bytes p.0)

-- the weight of what a place links to, and one
abbrev pub link_weight : {L : Type 0} → (L → List Pair) → Content L → ℕ
link_weight below (Short len columns) = 0
link_weight below (Suffix suffix columns) = 0
link_weight below (Link linked) = weight (below linked) + 1

content_falls : {L : Type 0} (below : L → List Pair) (s : ℕ) (c : Content L) → IsPlace (view_of_content below s c) → link_weight below c ≤ weight (pairs_at (view_of_content below s c))
content_falls below s (Short l c) h = omega arith
content_falls below s (Suffix t c) h = omega arith
content_falls below s (Link l) h =
    let two : 2 ≤ length (below l) = h.1 in
    let eight : length (slice_bytes s) * length (below l) ≡ 8 * length (below l) = ap (λ n. n * length (below l)) (slice_bytes-length s) in
    omega (arith, weight-put_before (slice_bytes s) (below l), eight)

pub walk-append : (xs ys : List PlaceView) → walk (xs ++ ys) ≡ walk xs ++ walk ys
walk-append [] ys = refl
walk-append (x ∷ xs) ys = ap (λ w. pairs_at x ++ w) (walk-append xs ys) ∙ sym (append_assoc (pairs_at x) (walk xs) (walk ys))

-- the depth of a place, as the kit names it
abbrev deep_at : {L : Type 0} → (L → List Pair) → Place L → ℕ
deep_at {L = L} below = weighed-NodeKind-Border-0-at-7.weight L (λ linked. weight (below linked) + 1)

place_falls : {L : Type 0} (below : L → List Pair) (s : ℕ) (c : Content L) → deep_at below (record { slice = s; content = c }) ≤ link_weight below c
place_falls below s (Short l c) = omega arith
place_falls below s (Suffix t c) = omega arith
place_falls below s (Link linked) = omega arith

places_fall : {L : Type 0} (below : L → List Pair) (low : ℕ) (ps : List (Place L)) → IsLayerFrom low (views below ps) → most (deep_at below) ps ≤ weight (walk (views below ps))
places_fall below low [] h = omega arith
places_fall below low (p ∷ ps) h =
    omega (
      arith,
      place_falls below p.slice p.content,
      content_falls below p.slice p.content h.0,
      places_fall below (suc (rank_at (view_of below p))) ps h.2,
      weight-append (pairs_at (view_of below p)) (walk (views below ps)),
    )

pub joined-append : (cs bs : List (List PlaceView)) → joined (cs ++ bs) ≡ joined cs ++ joined bs
joined-append [] bs = refl
joined-append (c ∷ cs) bs = ap (λ w. c ++ w) (joined-append cs bs) ∙ sym (append_assoc c (joined cs) (joined bs))

pub layer_weaker : (low least : ℕ) (ps : List PlaceView) → least ≤ low → IsLayerFrom low ps → IsLayerFrom least ps
layer_weaker low least [] le h = tt
layer_weaker low least (p ∷ ps) le h = let from : low ≤ rank_at p = h.1 in (h.0, omega arith, h.2)

pub layer_front : (low : ℕ) (xs ys : List PlaceView) → IsLayerFrom low (xs ++ ys) → IsLayerFrom low xs
layer_front low [] ys h = tt
layer_front low (x ∷ xs) ys h = (h.0, h.1, layer_front (suc (rank_at x)) xs ys h.2)

pub layer_back : (low : ℕ) (xs ys : List PlaceView) → IsLayerFrom low (xs ++ ys) → IsLayerFrom low ys
layer_back low [] ys h = h
layer_back low (x ∷ xs) ys h = let from : low ≤ rank_at x = h.1 in layer_weaker (suc (rank_at x)) low ys (omega arith) (layer_back (suc (rank_at x)) xs ys h.2)

-- ---- drafts
-- a sealed border holds nodes, not drafts
border_falls : (b : DraftBorder) → IsLayerFrom 0 (border_view b) → deep-Border b ≤ weight (walk (border_view b))
border_falls (Open ps) h = omega (arith, places_fall layer_walk 0 ps.items h)
border_falls (Closed f) h = omega arith

pub borders_fall : (bs : List DraftBorder) → IsLayerFrom 0 (joined (border_views bs)) → most deep-Border bs ≤ weight (borders_walk (border_views bs))
borders_fall [] h = omega arith
borders_fall (b ∷ bs) h =
    let here = border_view b in
    let later = joined (border_views bs) in
    let whole = ap weight (walk-append here later) in
    omega (arith, border_falls b (layer_front 0 here later h), borders_fall bs (layer_back 0 here later h), whole, weight-append (walk here) (walk later))

-- ---- nodes
-- a place stands for at least one pair
place_some : (p : PlaceView) → IsPlace p → 1 ≤ weight (pairs_at p)
place_some (short s l c) h = omega arith
place_some (long s t c) h = omega arith
place_some (link s []) h = absurd (let two : 2 ≤ 0 = h.1 in omega arith)
place_some (link s (p ∷ w)) h = omega arith

layer_some : (ps : List PlaceView) → 1 ≤ length ps → IsRanked ps → 1 ≤ weight (walk ps)
layer_some [] h l = absurd (omega arith)
layer_some (p ∷ ps) h l = omega (arith, place_some p l.0, weight-append (pairs_at p) (walk ps))

joined_some : (bs : List (List PlaceView)) → 1 ≤ length bs → AllByRecursion IsBorder bs → 1 ≤ length (joined bs)
joined_some [] h a = absurd (omega arith)
joined_some (b ∷ bs) h a = let some : 1 ≤ length b = a.0.0 in omega (arith, length-append b (joined bs))

pub node_some : (n : NodeView) → IsNode n → 1 ≤ weight (node_walk n)
node_some n h = layer_some (places n) (joined_some n.tree.borders h.tree.some h.tree.each) (ranked (places n) h.tree.layer)

abbrev pub all_weight : List NodeView → ℕ
all_weight ks = weight (walk (joined (borders_of ks)))

pub all_weight-cons : (k : NodeView) (ks : List NodeView) → all_weight (k ∷ ks) ≡ weight (node_walk k) + all_weight ks
all_weight-cons k ks =
    ap (λ (z : List PlaceView). weight (walk z)) (joined-append k.tree.borders (borders_of ks))
    ∙ ap weight (walk-append (places k) (joined (borders_of ks))) ∙ weight-append (node_walk k) (walk (joined (borders_of ks)))

kids_near : (ks : List NodeView) → most (λ y. weight (node_walk y) + 1) ks ≤ all_weight ks + 1
kids_near [] = omega arith
kids_near (k ∷ ks) = omega (arith, kids_near ks, all_weight-cons k ks)

kids_fall : (ks : List NodeView) → 2 ≤ length ks → AllByRecursion IsNode ks → most (λ y. weight (node_walk y) + 1) ks ≤ all_weight ks
kids_fall [] h a = absurd (omega arith)
kids_fall (k ∷ []) h a = absurd (omega arith)
kids_fall (k ∷ l ∷ ks) h a =
    omega (arith, node_some k a.0, node_some l a.1.0, kids_near (l ∷ ks), all_weight-cons k (l ∷ ks), all_weight-cons l ks)

pub branches_length : (ks : List NodeView) → length (branches ks) ≡ length ks
branches_length ks = length-map ks _

pub kind_falls : (k : NodeKind) → IsNodeKind k → deep-NodeKind k ≤ weight (node_walk (node_view k))
kind_falls (Border b) h =
    let alone : weight (walk (views node_walk b.items ++ [])) ≡ weight (walk (views node_walk b.items)) = ap (λ (z : List PlaceView). weight (walk z)) (append-nil (views node_walk b.items)) in
    let layer : IsRanked (views node_walk b.items) = subst IsRanked (append-nil (views node_walk b.items)) (ranked (places (node_view (Border b))) h.tree.layer) in
    omega (arith, alone, places_fall node_walk 0 b.items layer)
kind_falls (Interior ss ks) h = let two : 2 ≤ length ks.items = omega (arith, h.1.tree.interiors.0.two, branches_length ks.items) in omega (arith, kids_fall ks.items two h.0)
