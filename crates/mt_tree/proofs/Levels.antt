-- Nodes of one height are gathered under nodes one level up.
use Rattle.std.proofs.Common.{◌≡◌, ℕ, suc, ◌-◌, ◌<◌, ◌≤◌, List, [], ◌∷◌, ◌++◌, length, map, take, drop, get_or, sym, refl, ap, ◌∙◌, subst, arith, append_assoc, length-append, Vec, Global}
use Rattle.std.specs.List.{AllByRecursion, flat_map}
use Rattle.std.proofs.lemmas.List.{append-nil, map-append, length-map, take_all, take_rest}
use Rattle.std.proofs.lemmas.Grind.{flat_map-append}
use Rattle.std.proofs.lemmas.List.Folds.{flat_map-map}
use Rattle.mt_words.specs.Slices.{slice_bytes}
use Rattle.mt_words.proofs.SliceBytes.{slice_bytes-length}
use Rattle.mt_tree.specs.Steps.Falls.{weight-append, walk-append, layer_back, layer_front, joined-append, branches_length}
use Rattle.mt_tree.specs.Layer.{walk, pairs_at, PlaceView, short, long, link, slice_at, IsPlace, linked_walks}
use Rattle.mt_tree.specs.Steps.Ranks.{rank_at, IsLayerFrom, IsRanked, layered}
use Rattle.mt_tree.specs.Steps.Pairs.{weight}
use Rattle.mt_words.specs.Walks.{Pair, joined}
use Rattle.mt_tree.specs.Nodes.{NodeView, BranchView, InteriorView, LayerView, HaveInteriors, as_branch, none, border, interior, AreLinked, AreBelow, each_borders, places, SlicesFrom, SlicesBelow, SlicesApart, IsBorder, IsNode, IsInterior, IsLayerTree, AreSeparated, linked, unlinked}
use Rattle.mt_tree.specs.Steps.Levels.{borders_of, interiors_of, below_of, IsNodeAt, IsLevelAt, IsLevel, level_height, branches, first_of, interior_node, parent_node}
use Rattle.mt_tree.specs.Steps.Seams.{CutAt, first_slice_of}
use Rattle.mt_tree.proofs.Finds.{AreChildren, interior_is}
use Rattle.mt_tree.proofs.Joins.{all_append, below_lighter, all_back, all_front, all_weaker}
use Rattle.mt_tree.proofs.Cuts.{slices_from, borders_of-append, level_is}
use Rattle.arrayvec.specs.declared.array_vec.ArrayVec.{ArrayVec}
use Rattle.std.specs.Global.{Box}
use Rattle.mt_tree.specs.Steps.NodeViews.{node_view, IsNodeKind}
use Rattle.mt_tree.specs.declared.node.NodeKind.{NodeKind}
use Rattle.mt_tree.specs.declared.node.NodeKind.TheVariants.{Interior}

-- ---- parts of a level
apart_back : (bs cs : List (List PlaceView)) → SlicesApart (bs ++ cs) → SlicesApart cs
apart_back [] cs h = h
apart_back (b ∷ bs) cs h = apart_back bs cs h.1

apart_front : (bs cs : List (List PlaceView)) → SlicesApart (bs ++ cs) → SlicesApart bs
apart_front [] cs h = tt
apart_front (b ∷ bs) cs h =
    (all_weaker (λ p. SlicesFrom (suc (slice_at p)) (joined (bs ++ cs))) (λ p. SlicesFrom (suc (slice_at p)) (joined bs)) (λ p k. all_front (λ q. suc (slice_at p) ≤ slice_at q) (joined bs) (joined cs) (subst (SlicesFrom (suc (slice_at p))) (joined-append bs cs) k)) b h.0, apart_front bs cs h.1)

apart_between : (bs cs : List (List PlaceView)) → SlicesApart (bs ++ cs) → CutAt (joined bs) (joined cs)
apart_between [] cs h = tt
apart_between (b ∷ bs) cs h =
    all_append _ b (joined bs)
    (all_weaker (λ p. SlicesFrom (suc (slice_at p)) (joined (bs ++ cs))) (λ p. SlicesFrom (suc (slice_at p)) (joined cs)) (λ p k. all_back (λ q. suc (slice_at p) ≤ slice_at q) (joined bs) (joined cs) (subst (SlicesFrom (suc (slice_at p))) (joined-append bs cs) k)) b h.0)
    (apart_between bs cs h.1)

joined_of-append : (xs ys : List NodeView) → joined (borders_of (xs ++ ys)) ≡ joined (borders_of xs) ++ joined (borders_of ys)
joined_of-append xs ys = ap joined (borders_of-append xs ys) ∙ joined-append (borders_of xs) (borders_of ys)

pub level_back : (h : ℕ) (xs ys : List NodeView) → IsLevelAt h (xs ++ ys) → IsLevelAt h ys
level_back h xs ys l = record {
  nodes = all_back (IsNodeAt h) xs ys l.nodes;
  apart = apart_back (borders_of xs) (borders_of ys) (subst SlicesApart (borders_of-append xs ys) l.apart);
  layer = layer_back 0 (joined (borders_of xs)) (joined (borders_of ys)) (subst IsRanked (joined_of-append xs ys) l.layer);
}

pub level_front : (h : ℕ) (xs ys : List NodeView) → IsLevelAt h (xs ++ ys) → IsLevelAt h xs
level_front h xs ys l = record {
  nodes = all_front (IsNodeAt h) xs ys l.nodes;
  apart = apart_front (borders_of xs) (borders_of ys) (subst SlicesApart (borders_of-append xs ys) l.apart);
  layer = layer_front 0 (joined (borders_of xs)) (joined (borders_of ys)) (subst IsRanked (joined_of-append xs ys) l.layer);
}

-- ---- the first slice
joined_some : (bs : List (List PlaceView)) → 1 ≤ length bs → AllByRecursion IsBorder bs → 1 ≤ length (joined bs)
joined_some [] h a = absurd (omega arith)
joined_some (b ∷ bs) h a = let some : 1 ≤ length b = a.0.0 in omega (arith, length-append b (joined bs))

pub node_some : (n : NodeView) → IsNode n → 1 ≤ length (places n)
node_some n h = joined_some n.tree.borders h.tree.some h.tree.each

pub head_front : (xs ys : List PlaceView) → 1 ≤ length xs → first_slice_of (xs ++ ys) ≡ first_slice_of xs
head_front [] ys h = absurd (omega arith)
head_front (x ∷ xs) ys h = refl

pub first_kid : (n : NodeView) (ns : List NodeView) → IsNode n → first_slice_of (joined (borders_of (n ∷ ns))) ≡ first_of n
first_kid n ns h = ap first_slice_of (joined-append n.tree.borders (borders_of ns)) ∙ head_front (places n) (joined (borders_of ns)) (node_some n h)

head_least : (low : ℕ) (ps : List PlaceView) → IsLayerFrom low ps → SlicesFrom (first_slice_of ps) ps
head_least low [] h = tt
head_least low (p ∷ ps) h = (omega arith, slices_from (suc (rank_at p)) (slice_at p) ps (omega arith) h.2)

slices_apiece : (s : ℕ) (ns : List NodeView) → SlicesFrom s (joined (borders_of ns)) → AllByRecursion (λ b. SlicesFrom s (joined b.borders)) (branches ns)
slices_apiece s [] h = tt
slices_apiece s (n ∷ ns) h =
    let k = subst (SlicesFrom s) (joined-append n.tree.borders (borders_of ns)) h in
    (all_front (λ q. s ≤ slice_at q) (places n) (joined (borders_of ns)) k, slices_apiece s ns (all_back (λ q. s ≤ slice_at q) (places n) (joined (borders_of ns)) k))

below_head : (xs ys : List PlaceView) → 1 ≤ length ys → CutAt xs ys → SlicesBelow (first_slice_of ys) xs
below_head xs [] h c = absurd (omega arith)
below_head xs (y ∷ ys) h c = all_weaker (λ p. SlicesFrom (suc (slice_at p)) (y ∷ ys)) (λ p. slice_at p < slice_at y) (λ p k. k.0) xs c

-- the first slices of all nodes but the first separate them
pub separated : (h : ℕ) (k : NodeView) (ks : List NodeView) → IsLevelAt h (k ∷ ks) → AreSeparated (map first_of ks) (branches (k ∷ ks))
separated h k [] l = tt
separated h k (m ∷ ms) l =
    let rest = level_back h (k ∷ []) (m ∷ ms) l in
    let head = first_kid m ms rest.nodes.0.1 in
    let between : CutAt (places k) (joined (borders_of (m ∷ ms))) = apart_between k.tree.borders (borders_of (m ∷ ms)) l.apart in
    let some : 1 ≤ length (joined (borders_of (m ∷ ms))) = omega (arith, node_some m rest.nodes.0.1, ap (λ z. length z) (joined-append m.tree.borders (borders_of ms)), length-append (places m) (joined (borders_of ms))) in (
      subst (λ s. SlicesBelow s (places k)) head (below_head (places k) _ some between),
      slices_apiece (first_of m) (m ∷ ms) (subst (λ s. SlicesFrom s (joined (borders_of (m ∷ ms)))) head (head_least 0 _ rest.layer)),
      separated h m ms rest,
    )

all_heights : (h : ℕ) (ns : List NodeView) → AllByRecursion (IsNodeAt h) ns → AllByRecursion (λ b. b.height ≡ h) (branches ns)
all_heights h [] a = tt
all_heights h (n ∷ ns) a = (a.0.0, all_heights h ns a.1)

pub all_nodes : (h : ℕ) (ns : List NodeView) → AllByRecursion (IsNodeAt h) ns → AllByRecursion IsNode ns
all_nodes h ns a = all_weaker (IsNodeAt h) IsNode (λ n k. k.1) ns a

borders_some : (h : ℕ) (ns : List NodeView) → AllByRecursion (IsNodeAt h) ns → 1 ≤ length ns → 1 ≤ length (borders_of ns)
borders_some h [] a some = absurd (omega arith)
borders_some h (n ∷ ns) a some = let one : 1 ≤ length n.tree.borders = a.0.1.tree.some in omega (arith, length-append n.tree.borders (borders_of ns))

-- what holds for each part of each node holds for the parts of all nodes
all_parts : {X : Type 0} (P : X → Type 0) (f : NodeView → List X) (h : ℕ) (ns : List NodeView) → ((n : NodeView) → IsNode n → AllByRecursion P (f n)) → AllByRecursion (IsNodeAt h) ns → AllByRecursion P (flat_map f ns)
all_parts P f h [] g a = tt
all_parts P f h (n ∷ ns) g a = all_append P (f n) (flat_map f ns) (g n a.0.1) (all_parts P f h ns g a.1)

-- ---- the shape of a tree
have-append : (ks ls : List BranchView) (ns ms : List InteriorView) → HaveInteriors ks ns → HaveInteriors ls ms → HaveInteriors (ks ++ ls) (ns ++ ms)
have-append ks ls ns ms none k = k
have-append ks ls ns ms (border {bs = rest} {ns = later} h) k = border (have-append rest ls later ms h k)
have-append ks ls ns ms (interior {n = n} {bs = rest} {lower = lower} {ns = later} level below h) k =
    subst (HaveInteriors (ks ++ ls)) (ap (λ z. n ∷ z) (sym (append_assoc lower later ms))) (interior level below (have-append rest ls later ms h k))

have_interiors : (h : ℕ) (ns : List NodeView) → AllByRecursion (IsNodeAt h) ns → HaveInteriors (branches ns) (interiors_of ns)
have_interiors h [] a = none
have_interiors h (n ∷ ns) a = have-append (as_branch n.tree ∷ []) (branches ns) n.tree.interiors (interiors_of ns) a.0.1.tree.shape (have_interiors h ns a.1)

stands_over : (ss : List ℕ) (h : ℕ) (ns : List NodeView) → AllByRecursion (IsNodeAt h) ns
    → HaveInteriors (record { borders = borders_of ns; height = suc h } ∷ []) (record { separators = ss; children = branches ns } ∷ interiors_of ns)
stands_over ss h ns a =
    let n : InteriorView = record { separators = ss; children = branches ns } in
    let stands = interior {n = n} (all_heights h ns a) (have_interiors h ns a) none in
    subst (λ (z : List (List PlaceView)). HaveInteriors (record { borders = z; height = suc h } ∷ []) (n ∷ interiors_of ns)) (flat_map-map (λ (b : BranchView). b.borders) (λ (n : NodeView). as_branch n.tree) ns)
    (subst (λ z. HaveInteriors (record { borders = flat_map (λ (b : BranchView). b.borders) n.children; height = suc h } ∷ []) (n ∷ z)) (append-nil (interiors_of ns)) stands)

-- ---- links
pub linked_walks-append : (ps qs : List PlaceView) → linked_walks (ps ++ qs) ≡ linked_walks ps ++ linked_walks qs
linked_walks-append [] qs = refl
linked_walks-append (short s l c ∷ ps) qs = linked_walks-append ps qs
linked_walks-append (long s t c ∷ ps) qs = linked_walks-append ps qs
linked_walks-append (link s w ∷ ps) qs = ap (λ (z : List (List Pair)). w ∷ z) (linked_walks-append ps qs)

pub linked-append : (vs ws : List (List Pair)) (ts us : List (List (List PlaceView))) → AreLinked vs ts → AreLinked ws us → AreLinked (vs ++ ws) (ts ++ us)
linked-append vs ws ts us unlinked k = k
linked-append vs ws ts us (linked {layer = l} {walks = rest} {lower = lower} {layers = later} below h) k =
    subst (AreLinked (vs ++ ws)) (ap (λ z. l ∷ z) (sym (append_assoc lower later us))) (linked below (linked-append rest ws later us h k))

pub below-append : (ps qs : List PlaceView) (ts us : List LayerView) → AreBelow ps ts → AreBelow qs us → AreBelow (ps ++ qs) (ts ++ us)
below-append ps qs ts us h k = record {
  lawful = all_append IsLayerTree ts us h.lawful k.lawful;
  linked = subst (λ z. AreLinked z (each_borders (ts ++ us))) (sym (linked_walks-append ps qs))
      (subst (AreLinked (linked_walks ps ++ linked_walks qs)) (sym (map-append (λ (t : LayerView). t.borders) ts us)) (linked-append (linked_walks ps) (linked_walks qs) (each_borders ts) (each_borders us) h.linked k.linked));
}

below_level : (h : ℕ) (ns : List NodeView) → AllByRecursion (IsNodeAt h) ns → AreBelow (joined (borders_of ns)) (below_of ns)
below_level h [] a = record { lawful = tt; linked = unlinked }
below_level h (n ∷ ns) a =
    subst (λ z. AreBelow z (n.below ++ below_of ns)) (sym (joined-append n.tree.borders (borders_of ns)))
    (below-append (places n) (joined (borders_of ns)) n.below (below_of ns) a.0.1.below (below_level h ns a.1))

-- ---- a parent
pub interior_of : (separators : List ℕ) (ns : List NodeView) → IsLevel ns → 2 ≤ length ns → length ns ≤ 16 → separators ≡ map first_of (drop 1 ns) → IsInterior (record { separators = separators; children = branches ns })
interior_of separators [] l two most e = absurd (omega arith)
interior_of separators (n ∷ ns) l two most e = record {
  two = omega (arith, branches_length (n ∷ ns));
  most = omega (arith, branches_length (n ∷ ns));
  between = omega (arith, ap (λ (z : List ℕ). length z) e, length-map ns first_of, branches_length (n ∷ ns));
  separated = subst (λ z. AreSeparated z (branches (n ∷ ns))) (sym e) (separated n.tree.height n ns l);
}

pub parent_is_node : (ss : List ℕ) (ns : List NodeView) → IsLevel ns → 2 ≤ length ns → length ns ≤ 16 → ss ≡ map first_of (drop 1 ns) → IsNode (interior_node ss ns)
parent_is_node ss ns l two most e = record {
  tree = record {
    some = borders_some (level_height ns) ns l.nodes (omega arith);
    each = all_parts IsBorder (λ n. n.tree.borders) (level_height ns) ns (λ n k. k.tree.each) l.nodes;
    apart = l.apart;
    layer = layered 0 (joined (borders_of ns)) l.layer;
    interiors = (interior_of ss ns l two most e, all_parts IsInterior (λ n. n.tree.interiors) (level_height ns) ns (λ n k. k.tree.interiors) l.nodes);
    shape = stands_over ss (level_height ns) ns l.nodes;
  };
  below = below_level (level_height ns) ns l.nodes;
}

pub first_is : (k : NodeKind) (v : NodeView) (ss : Box (ArrayVec ℕ 15 (Unit {0}))) (ks : Vec NodeView Global) (n : NodeView) → IsNodeKind k → node_view k ≡ v → k ≡ Interior ss ks → n ≡ get_or ks.items 0 n → first_of n ≡ first_of v
first_is k v ss ks n h e f g = by ks.items refl
  where
    inner : AreChildren ss.value.items ks.items
    inner = interior_is k ss ks h f

    by : (ns : List NodeView) → ks.items ≡ ns → first_of n ≡ first_of v
    by [] same = let two : 2 ≤ length ks.items = inner.two in absurd (omega (arith, ap (λ (z : List NodeView). length z) same))
    by (m ∷ ms) same =
        let nodes : AllByRecursion IsNode (m ∷ ms) = subst (AllByRecursion IsNode) same inner.nodes in
        let is : n ≡ m = g ∙ ap (λ (z : List NodeView). get_or z 0 n) same in
        ap first_of is ∙ sym (first_kid m ms nodes.0) ∙ ap (λ (z : List NodeView). first_slice_of (joined (borders_of z))) (sym same) ∙ ap first_of (sym (ap node_view f) ∙ e)

-- ---- one level up
-- the children that get their parent are a level
pub level_children : (h : ℕ) (kids rest : List NodeView) → IsLevelAt h (kids ++ rest) → IsLevel kids
level_children h kids rest l = level_is h kids (level_front h kids rest l)

pub height_of : (h : ℕ) (kids rest : List NodeView) → IsLevelAt h (kids ++ rest) → 1 ≤ length kids → level_height kids ≡ h
height_of h [] rest l some = absurd (omega arith)
height_of h (k ∷ kids) rest l some = l.nodes.0.0

-- a parent has what its children have
pub under_parent : {X : Type 0} (f : NodeView → List X) (upper kids rest : List NodeView) (all : List X) → f (parent_node kids) ≡ flat_map f kids
    → flat_map f upper ++ flat_map f (kids ++ rest) ≡ all → flat_map f (upper ++ parent_node kids ∷ []) ++ flat_map f rest ≡ all
under_parent f upper kids rest all has e =
    ap (λ z. z ++ flat_map f rest) (flat_map-append f upper (parent_node kids ∷ []) ∙ ap (λ z. flat_map f upper ++ z) (append-nil (f (parent_node kids)) ∙ has))
    ∙ append_assoc (flat_map f upper) (flat_map f kids) (flat_map f rest)
    ∙ ap (λ z. flat_map f upper ++ z) (sym (flat_map-append f kids rest))
    ∙ e

-- the separators are the first slices of all children but the first
pub heads_done : (separators : List ℕ) (xs ns : List NodeView) (i : ℕ) → xs ≡ ns → separators ≡ map first_of (take i (take (length xs - 1) (drop 1 xs))) → length (take (length xs - 1) (drop 1 xs)) ≤ i → separators ≡ map first_of (drop 1 ns)
heads_done separators xs ns i same e le = e ∙ ap (map first_of) (take_all i _ le ∙ take_rest xs 1) ∙ ap (λ (z : List NodeView). map first_of (drop 1 z)) same

pub moved : (kids rest next : List NodeView) (node : NodeView) → rest ≡ node ∷ next → kids ++ rest ≡ (kids ++ node ∷ []) ++ next
moved kids rest next node e = ap (λ z. kids ++ z) e ∙ sym (append_assoc kids (node ∷ []) next)

-- ---- a layer's places one by one
pub place_weight : (before left all : List PlaceView) (p : PlaceView) (next : List PlaceView) → before ++ left ≡ all → left ≡ p ∷ next → weight (pairs_at p) ≤ weight (walk all)
place_weight before left all p next e f =
    let whole : walk all ≡ walk before ++ (pairs_at p ++ walk next) = ap walk (sym e ∙ ap (λ z. before ++ z) f) ∙ walk-append before (p ∷ next) in
    omega (arith, ap weight whole, weight-append (walk before) (pairs_at p ++ walk next), weight-append (pairs_at p) (walk next))

pub place_lawful : (before left all : List PlaceView) (p : PlaceView) (next : List PlaceView) → before ++ left ≡ all → left ≡ p ∷ next → IsRanked all → IsPlace p
place_lawful before left all p next e f h = (layer_back 0 before (p ∷ next) (subst IsRanked (sym e ∙ ap (λ z. before ++ z) f) h)).0

pub link_lighter : (s : ℕ) (w : List Pair) → IsPlace (link s w) → weight w < weight (pairs_at (link s w))
link_lighter s w h = let two : 2 ≤ length w = h.1 in below_lighter (slice_bytes s) w (slice_bytes-length s) (omega arith)
