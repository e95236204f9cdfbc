-- A key is found at its place.
use Rattle.std.proofs.Common.{◌≡◌, ◌≢◌, ℕ, zero, suc, ◌+◌, ◌*◌, ◌^◌, ◌<◌, ◌≤◌, min, Bool, true, false, Option, Some, None, List, [], ◌∷◌, ◌++◌, length, take, drop, get_or, sym, refl, ap, ◌∙◌, subst, inl, inr, ◌⊎◌, arith, ◌-◌, length-drop}
use Rattle.std.specs.Prelude.{Contains, MatchOption}
use Rattle.std.specs.Option.{option_copied}
use Rattle.smallvec.specs.SmallVec.{SmallVec}
use Rattle.mt_words.proofs.Elements.{no_element, head_or_tail, head_in, tail_in}
use Rattle.std.specs.Prelude.{nat_eq, if◌then◌else◌}
use Rattle.std.specs.List.{AllByRecursion}
use Rattle.std.specs.Cmp.Lexicographic.{pointwise, bytes_decides}
use Rattle.std.proofs.lemmas.List.{append-nil, length-take-le, get_or-map, length-map, take_all}
use Rattle.std.proofs.lemmas.Bool.{eq-eqb}
use Rattle.mt_words.specs.Slices.{AreBytes, slice_in, slice_bytes}
use Rattle.mt_tree.specs.Steps.Pairs.{key_rank, find_key}
use Rattle.mt_words.proofs.SliceBytes.{slice_in-take, slice_bytes-short, slice_bytes-long, bytes_take}
use Rattle.mt_words.proofs.SliceBytes.{slice_bytes-length}
use Rattle.mt_tree.specs.Layer.{PlaceView, short, long, link, slice_at, length_at, pairs_at, put_before, walk, IsPlace, HasNoEmptyKey}
use Rattle.mt_tree.specs.Steps.Ranks.{rank_at, IsLayerFrom, IsRanked, ranked}
use Rattle.mt_words.specs.Walks.{Pair, joined}
use Rattle.mt_tree.specs.Nodes.{NodeView, places, IsNode, AreSeparated, SlicesFrom}
use Rattle.mt_tree.specs.Steps.Levels.{borders_of, branches, node_walk}
use Rattle.std.proofs.Common.{Vec, Global, Bor}
use Rattle.arrayvec.specs.declared.array_vec.ArrayVec.{ArrayVec}
use Rattle.std.specs.Global.{Box}
use Rattle.std.specs.List.{All}
use Rattle.std.proofs.lemmas.List.Elements.{recursion_from_All}
use Rattle.mt_tree.specs.Steps.NodeViews.{node_view, IsNodeKind}
use Rattle.mt_tree.specs.declared.place.Content.TheVariants.{Short, Suffix, Link}
use Rattle.mt_tree.specs.declared.node.NodeKind.{NodeKind}
use Rattle.mt_tree.specs.declared.node.NodeKind.TheVariants.{Border, Interior}
use Rattle.mt_tree.specs.Steps.Falls.{walk-append, joined-append, branches_length}
use Rattle.mt_tree.proofs.Joins.{long_rank}
use Rattle.mt_tree.specs.Steps.Places.{views, view_of, view_of_content}
use Rattle.mt_tree.specs.declared.place.Place.{Place}
use Rattle.mt_tree.specs.declared.place.Content.{Content}

unequal : (k x : List ℕ) → (k ≡ x → ⊥) → pointwise nat_eq k x ≡ false
unequal k x n = by (pointwise nat_eq k x) refl
  where
    by : (b : Bool) → pointwise nat_eq k x ≡ b → b ≡ false
    by true e = absurd (n ((bytes_decides k x).0 e))
    by false e = refl

equal : (k x : List ℕ) → k ≡ x → pointwise nat_eq k x ≡ true
equal k x e = (bytes_decides k x).1 e

-- ---- where a key is not
back_step : (b : Bool) (x : List (ℕ × List ℕ)) (u v w : Option (List (ℕ × List ℕ))) → (if b then Some x else u) ≡ None → (u ≡ None → v ≡ w) → (if b then Some x else v) ≡ w
back_step true x u v w e f = cc
back_step false x u v w e f = f e

pub find-back : (k : List ℕ) (v w : List Pair) → find_key k v ≡ None → find_key k (v ++ w) ≡ find_key k w
find-back k [] w h = refl
find-back k (p ∷ v) w h = back_step (pointwise nat_eq k p.0) p.1 (find_key k v) (find_key k (v ++ w)) (find_key k w) h (find-back k v w)

pub find-front : (k : List ℕ) (v w : List Pair) → find_key k w ≡ None → find_key k (v ++ w) ≡ find_key k v
find-front k [] w h = h
find-front k (p ∷ v) w h = ap (λ (r : Option (List (ℕ × List ℕ))). if pointwise nat_eq k p.0 then Some p.1 else r) (find-front k v w h)

-- ---- all pairs of a place have its rank
abbrev PairsRank : ℕ → List Pair → Type 0
PairsRank r = AllByRecursion (λ p. key_rank p.0 ≡ r)

pub link_ranks : (s : ℕ) (w : List Pair) → s < 2 ^ 64 → HasNoEmptyKey w → PairsRank (s * 10 + 9) (put_before (slice_bytes s) w)
link_ranks s [] h k = tt
link_ranks s (p ∷ w) h k = (long_rank s p.0 h k.0, link_ranks s w h k.1)

pub pairs_rank : (p : PlaceView) → IsPlace p → PairsRank (rank_at p) (pairs_at p)
pairs_rank (short s l c) h =
    let fits : l ≤ 8 = h.1 in
    let len : length (take l (slice_bytes s)) ≡ l = length-take-le l (slice_bytes s) (omega (arith, slice_bytes-length s)) in
    (omega (arith, slice_in-take s l h.0 h.2, len), tt)
pairs_rank (long s t c) h = (long_rank s t h.0 h.1, tt)
pairs_rank (link s w) h = link_ranks s w h.0 h.2

rank_miss : (k : List ℕ) (r : ℕ) (w : List Pair) → PairsRank r w → key_rank k ≢ r → find_key k w ≡ None
rank_miss k r [] h n = refl
rank_miss k r (p ∷ w) h n = ap (λ b. if b then Some p.1 else find_key k w) (unequal k p.0 (λ e. n (ap key_rank e ∙ h.0))) ∙ rank_miss k r w h.1 n

place_miss : (k : List ℕ) (p : PlaceView) → IsPlace p → key_rank k ≢ rank_at p → find_key k (pairs_at p) ≡ None
place_miss k p h n = rank_miss k (rank_at p) (pairs_at p) (pairs_rank p h) n

above_miss : (k : List ℕ) (low : ℕ) (ps : List PlaceView) → IsLayerFrom low ps → key_rank k < low → find_key k (walk ps) ≡ None
above_miss k low [] h l = refl
above_miss k low (p ∷ ps) h l =
    let le : low ≤ rank_at p = h.1 in
    find-back k (pairs_at p) (walk ps) (place_miss k p h.0 (λ e. omega arith)) ∙ above_miss k (suc (rank_at p)) ps h.2 (omega arith)

pub walk_absent : (k : List ℕ) (low : ℕ) (ps : List PlaceView) → IsLayerFrom low ps → AllByRecursion (λ p. rank_at p ≢ key_rank k) ps → find_key k (walk ps) ≡ None
walk_absent k low [] h n = refl
walk_absent k low (p ∷ ps) h n =
    find-back k (pairs_at p) (walk ps) (place_miss k p h.0 (λ e. n.0 (sym e))) ∙ walk_absent k (suc (rank_at p)) ps h.2 n.1

rank_from : (low : ℕ) (ps : List PlaceView) (i : ℕ) (d : PlaceView) → IsLayerFrom low ps → i < length ps → low ≤ rank_at (get_or ps i d)
rank_from low [] i d h l = absurd (omega arith)
rank_from low (p ∷ ps) zero d h l = h.1
rank_from low (p ∷ ps) (suc i) d h l = let le : low ≤ rank_at p = h.1 in omega (arith, rank_from (suc (rank_at p)) ps i d h.2 (omega arith))

-- to find a key in the walk, it is enough to look at the place of its rank
pub walk_find : (k : List ℕ) (low : ℕ) (ps : List PlaceView) (i : ℕ) (d : PlaceView) → IsLayerFrom low ps → i < length ps → rank_at (get_or ps i d) ≡ key_rank k → find_key k (walk ps) ≡ find_key k (pairs_at (get_or ps i d))
walk_find k low [] i d h l e = absurd (omega arith)
walk_find k low (p ∷ ps) zero d h l e = find-front k (pairs_at p) (walk ps) (above_miss k (suc (rank_at p)) ps h.2 (omega arith))
walk_find k low (p ∷ ps) (suc i) d h l e =
    let from = rank_from (suc (rank_at p)) ps i d h.2 (omega arith) in
    find-back k (pairs_at p) (walk ps) (place_miss k p h.0 (λ f. omega arith)) ∙ walk_find k (suc (rank_at p)) ps i d h.2 (omega arith) e

-- ---- at the place
pub short_hit : (k : List ℕ) (s l : ℕ) (c : List (ℕ × List ℕ)) → AreBytes k → l ≤ 8 → s * 10 + l ≡ key_rank k → find_key k (pairs_at (short s l c)) ≡ Some c
short_hit k s l c bytes fits e =
    let len : l ≡ length k = omega arith in
    let slice : s ≡ slice_in k = omega arith in
    let short : length k ≤ 8 = omega arith in
    let same : take l (slice_bytes s) ≡ k = rw (len, slice) (slice_bytes-short k short (bytes_take 8 k bytes)) in
    ap (λ b. if b then Some c else None) (equal k (take l (slice_bytes s)) (sym same))

pub long_is : (k : List ℕ) (s : ℕ) → AreBytes k → s * 10 + 9 ≡ key_rank k → (8 < length k) × (k ≡ slice_bytes s ++ drop 8 k)
long_is k s bytes e =
    let long : 8 < length k = omega arith in
    let slice : s ≡ slice_in k = omega arith in
    let some : 8 ≤ length k = omega arith in
    (long, sym (rw slice (slice_bytes-long k some (bytes_take 8 k bytes))))

unprefixed : (b x y : List ℕ) → pointwise nat_eq (b ++ x) (b ++ y) ≡ pointwise nat_eq x y
unprefixed [] x y = refl
unprefixed (a ∷ b) x y = rw (eq-eqb a a refl) (unprefixed b x y)

link_find : (b x : List ℕ) (w : List Pair) → find_key (b ++ x) (put_before b w) ≡ find_key x w
link_find b x [] = refl
link_find b x (p ∷ w) = λ i. if unprefixed b x p.0 i then Some p.1 else link_find b x w i

pub link_hit : (k : List ℕ) (s : ℕ) (w : List Pair) → AreBytes k → s * 10 + 9 ≡ key_rank k → find_key k (pairs_at (link s w)) ≡ find_key (drop 8 k) w
link_hit k s w bytes e = ap (λ (z : List ℕ). find_key z (put_before (slice_bytes s) w)) (long_is k s bytes e).1 ∙ link_find (slice_bytes s) (drop 8 k) w

pub long_hit : (k : List ℕ) (s : ℕ) (t : List ℕ) (c : List (ℕ × List ℕ)) → AreBytes k → s * 10 + 9 ≡ key_rank k → find_key k (pairs_at (long s t c)) ≡ (if pointwise nat_eq (drop 8 k) t then Some c else None)
long_hit k s t c bytes e = link_hit k s ((t, c) ∷ []) bytes e

-- ---- among the children
slices_miss : (k : List ℕ) (low : ℕ) (ps : List PlaceView) → IsLayerFrom low ps → AllByRecursion (λ p. slice_at p ≢ slice_in k) ps → find_key k (walk ps) ≡ None
slices_miss k low [] h n = refl
slices_miss k low (p ∷ ps) h n =
    find-back k (pairs_at p) (walk ps) (place_miss k p h.0 (λ e. n.0 (let f = at_most p h.0 in omega arith))) ∙ slices_miss k (suc (rank_at p)) ps h.2 n.1
  where
    at_most : (p : PlaceView) → IsPlace p → length_at p ≤ 9
    at_most (short s l c) h = let fits : l ≤ 8 = h.1 in omega arith
    at_most (long s t c) h = omega arith
    at_most (link s w) h = omega arith

weaker : {X : Type 0} (P Q : X → Type 0) → ((x : X) → P x → Q x) → (xs : List X) → AllByRecursion P xs → AllByRecursion Q xs
weaker P Q f [] h = tt
weaker P Q f (x ∷ xs) h = (f x h.0, weaker P Q f xs h.1)

kids_walk : (n : NodeView) (ns : List NodeView) → walk (joined (borders_of (n ∷ ns))) ≡ node_walk n ++ walk (joined (borders_of ns))
kids_walk n ns = ap walk (joined-append n.tree.borders (borders_of ns)) ∙ walk-append (places n) (joined (borders_of ns))

kids_miss : (k : List ℕ) (s : ℕ) (ns : List NodeView) → AllByRecursion IsNode ns → AllByRecursion (λ b. SlicesFrom s (joined b.borders)) (branches ns) → slice_in k < s → find_key k (walk (joined (borders_of ns))) ≡ None
kids_miss k s [] h f l = refl
kids_miss k s (n ∷ ns) h f l =
    ap (find_key k) (kids_walk n ns)
    ∙ find-back k (node_walk n) (walk (joined (borders_of ns))) (slices_miss k 0 (places n) (ranked (places n) h.0.tree.layer) (weaker (λ p. s ≤ slice_at p) (λ p. slice_at p ≢ slice_in k) (λ p le e. omega arith) (places n) f.0))
    ∙ kids_miss k s ns h.1 f.1 l

pub kids_find : (k : List ℕ) (ss : List ℕ) (ns : List NodeView) (i : ℕ) (d : NodeView) → AllByRecursion IsNode ns → AreSeparated ss (branches ns) → length ss + 1 ≡ length ns → i ≤ length ss
    → ((j : ℕ) → j < i → get_or ss j 0 ≤ slice_in k) → (i < length ss → slice_in k < get_or ss i 0) → find_key k (walk (joined (borders_of ns))) ≡ find_key k (node_walk (get_or ns i d))
kids_find k ss [] i d h a e l before after = absurd (omega arith)
kids_find k [] (n ∷ []) zero d h a e l before after = ap (find_key k) (kids_walk n []) ∙ ap (find_key k) (append-nil (node_walk n))
kids_find k [] (n ∷ m ∷ ns) i d h a e l before after = absurd (omega arith)
kids_find k [] (n ∷ []) (suc i) d h a e l before after = absurd (omega arith)
kids_find k (s ∷ ss) (n ∷ ns) zero d h a e l before after =
    ap (find_key k) (kids_walk n ns) ∙ find-front k (node_walk n) (walk (joined (borders_of ns))) (kids_miss k s ns h.1 a.1 (after (omega arith)))
kids_find k (s ∷ ss) (n ∷ ns) (suc i) d h a e l before after =
    let le : s ≤ slice_in k = before 0 (omega arith) in
    ap (find_key k) (kids_walk n ns)
    ∙ find-back k (node_walk n) (walk (joined (borders_of ns))) (slices_miss k 0 (places n) (ranked (places n) h.0.tree.layer) (weaker (λ p. slice_at p < s) (λ p. slice_at p ≢ slice_in k) (λ p lt f. omega arith) (places n) a.0))
    ∙ kids_find k ss ns i d h.1 a.2 (omega arith) (omega arith) (λ j lt. before (suc j) (omega arith)) (λ lt. after (omega arith))

-- ---- views
pub view_lawful : (xs : List (Place NodeView)) (i : ℕ) (d : Place NodeView) → AllByRecursion IsPlace (views node_walk xs) → i < length xs → IsPlace (view_of node_walk (get_or xs i d))
view_lawful [] i d h l = absurd (omega arith)
view_lawful (x ∷ xs) zero d h l = h.0
view_lawful (x ∷ xs) (suc i) d h l = view_lawful xs i d h.1 (omega arith)

pub view_at : (xs : List (Place NodeView)) (i : ℕ) (x : Place NodeView) (d : PlaceView) → i < length xs → x ≡ get_or xs i x → get_or (views node_walk xs) i d ≡ view_of node_walk x
view_at xs i x d l e = get_or-map (view_of node_walk) xs i x d l ∙ ap (view_of node_walk) (sym e)

pub layer_lawful : (low : ℕ) (ps : List PlaceView) → IsLayerFrom low ps → AllByRecursion IsPlace ps
layer_lawful low [] h = tt
layer_lawful low (p ∷ ps) h = (h.0, layer_lawful (suc (rank_at p)) ps h.2)

pub border_walk : (k : NodeKind) (v : NodeView) (b : Vec (Place NodeView) Global) → node_view k ≡ v → k ≡ Border b → node_walk v ≡ walk (views node_walk b.items)
border_walk k v b e f = ap (λ (n : NodeView). node_walk n) (sym e ∙ ap node_view f) ∙ ap walk (append-nil (views node_walk b.items))

pub border_layer : (k : NodeKind) (b : Vec (Place NodeView) Global) → IsNodeKind k → k ≡ Border b → IsRanked (views node_walk b.items)
border_layer k b h f = subst IsRanked (append-nil (views node_walk b.items)) (ranked _ (subst IsNodeKind f h).tree.layer)

-- the children of an interior node
pub record AreChildren (ss : List ℕ) (ks : List NodeView) : Type 0 where
  pub two : 2 ≤ length ks
  pub between : length ss + 1 ≡ length ks
  pub nodes : AllByRecursion IsNode ks
  pub separated : AreSeparated ss (branches ks)

pub interior_is : (k : NodeKind) (ss : Box (ArrayVec ℕ 15 (Unit {0}))) (ks : Vec NodeView Global) → IsNodeKind k → k ≡ Interior ss ks → AreChildren ss.value.items ks.items
interior_is k ss ks h f =
    let here : IsNodeKind (Interior ss ks) = subst IsNodeKind f h in
    let n = here.1.tree.interiors.0 in
    let count = branches_length ks.items in
    record {
      two = omega (arith, n.two, count);
      between = omega (arith, n.between, count);
      nodes = here.0;
      separated = n.separated;
    }

pub interior_walk : (k : NodeKind) (v : NodeView) (ss : Box (ArrayVec ℕ 15 (Unit {0}))) (ks : Vec NodeView Global) → node_view k ≡ v → k ≡ Interior ss ks → node_walk v ≡ walk (joined (borders_of ks.items))
interior_walk k v ss ks e f = ap (λ (n : NodeView). node_walk n) (sym e ∙ ap node_view f)

-- ---- what a border's place returns
pub record FoundAt (k : List ℕ) (w : List Pair) (x : Place NodeView) : Type 0 where
  pub lawful : IsPlace (view_of node_walk x)
  pub ranks : rank_at (view_of node_walk x) ≡ key_rank k
  pub is : find_key k w ≡ find_key k (pairs_at (view_of node_walk x))

pub found_at : (k : List ℕ) (w : List Pair) (xs ys : List (Place NodeView)) (i s : ℕ) (x : Place NodeView) → w ≡ walk (views node_walk xs) → IsRanked (views node_walk xs) → ys ≡ xs → i < length ys
    → ((d : PlaceView) → rank_at (get_or (views node_walk ys) i d) ≡ s * 10 + min (length k) 9) → s ≡ slice_in k → x ≡ get_or xs i x → FoundAt k w x
found_at k w xs ys i s x e layer same lt rank slice is =
    let inside : i < length xs = omega (arith, ap (λ (z : List (Place NodeView)). length z) same) in
    let here_is : get_or (views node_walk xs) i (view_of node_walk x) ≡ view_of node_walk x = view_at xs i x (view_of node_walk x) inside is in
    let r : rank_at (get_or (views node_walk xs) i (view_of node_walk x)) ≡ key_rank k = ap (λ (z : List (Place NodeView)). rank_at (get_or (views node_walk z) i (view_of node_walk x))) (sym same) ∙ rank (view_of node_walk x) ∙ ap (λ n. n * 10 + min (length k) 9) slice in
    record {
      lawful = subst (λ (z : Place NodeView). IsPlace (view_of node_walk z)) (sym is) (view_lawful xs i x (layer_lawful 0 (views node_walk xs) layer) inside);
      ranks = ap rank_at (sym here_is) ∙ r;
      is = ap (find_key k) e ∙ walk_find k 0 (views node_walk xs) i (view_of node_walk x) layer (omega (arith, length-map xs (view_of node_walk))) r ∙ ap (λ (z : PlaceView). find_key k (pairs_at z)) here_is;
    }

module _ (k : List ℕ) (w : List Pair) (x : Place NodeView) (f : FoundAt k w x) (bytes : AreBytes k) where
  at_held : (h : Content NodeView) → x.content ≡ h → IsPlace (view_of_content node_walk x.slice h) × (rank_at (view_of_content node_walk x.slice h) ≡ key_rank k) × (find_key k w ≡ find_key k (pairs_at (view_of_content node_walk x.slice h)))
  at_held h e = subst (λ (z : Content NodeView). IsPlace (view_of_content node_walk x.slice z) × (rank_at (view_of_content node_walk x.slice z) ≡ key_rank k) × (find_key k w ≡ find_key k (pairs_at (view_of_content node_walk x.slice z)))) e (f.lawful, f.ranks, f.is)

  pub short_case : (l : ℕ) (c : List (ℕ × List ℕ)) → x.content ≡ Short l c → find_key k w ≡ Some c
  short_case l c e = let g = at_held (Short l c) e in g.2 ∙ short_hit k x.slice l c bytes g.0.1 g.1

  pub suffix_long : (t : SmallVec ℕ) (c : List (ℕ × List ℕ)) → x.content ≡ Suffix t c → 8 ≤ length k
  suffix_long t c e = let g = at_held (Suffix t c) e in omega (arith, (long_is k x.slice bytes g.1).0)

  pub suffix_true : (t : SmallVec ℕ) (c : List (ℕ × List ℕ)) → x.content ≡ Suffix t c → t.items ≡ drop 8 k → find_key k w ≡ Some c
  suffix_true t c e same = let g = at_held (Suffix t c) e in
      g.2 ∙ long_hit k x.slice t.items c bytes g.1 ∙ ap (λ b. if b then Some c else None) (equal (drop 8 k) t.items (sym same))

  pub suffix_false : (t : SmallVec ℕ) (c : List (ℕ × List ℕ)) → x.content ≡ Suffix t c → (t.items ≡ drop 8 k → ⊥) → find_key k w ≡ None
  suffix_false t c e other = let g = at_held (Suffix t c) e in
      g.2 ∙ long_hit k x.slice t.items c bytes g.1 ∙ ap (λ b. if b then Some c else None) (unequal (drop 8 k) t.items (λ s. other (sym s)))

  pub link_long : (n : NodeView) → x.content ≡ Link n → 8 ≤ length k
  link_long n e = let g = at_held (Link n) e in omega (arith, (long_is k x.slice bytes g.1).0)

  pub link_case : (n : NodeView) → x.content ≡ Link n → find_key k w ≡ find_key (drop 8 k) (node_walk n)
  link_case n e = let g = at_held (Link n) e in g.2 ∙ link_hit k x.slice (node_walk n) bytes g.1

-- a key is absent if no place of the border has its rank
pub not_found : (k : List ℕ) (w : List Pair) (xs ys : List (Place NodeView)) (s : ℕ) → w ≡ walk (views node_walk xs) → IsRanked (views node_walk xs) → ys ≡ xs → s ≡ slice_in k
    → All (λ p. rank_at p ≡ s * 10 + min (length k) 9 → ⊥) (views node_walk ys) → find_key k w ≡ None
not_found k w xs ys s e layer same slice none =
    let each : AllByRecursion (λ p. rank_at p ≡ key_rank k → ⊥) (views node_walk xs) =
    recursion_from_All (λ p. rank_at p ≡ key_rank k → ⊥) (views node_walk xs) (λ i d lt f. subst (λ (z : List (Place NodeView)). All (λ p. rank_at p ≡ s * 10 + min (length k) 9 → ⊥) (views node_walk z)) same none i d lt (f ∙ ap (λ n. n * 10 + min (length k) 9) (sym slice))) in
    ap (find_key k) e ∙ walk_absent k 0 (views node_walk xs) layer each

pub rest_is : (k : List ℕ) → take (length k - 8) (drop 8 k) ≡ drop 8 k
rest_is k = take_all (length k - 8) (drop 8 k) (omega (arith, length-drop 8 k))

-- ---- the columns that are found are those of the key
find_step : (k : List ℕ) (p : Pair) (w : List Pair) (r : Option (List (ℕ × List ℕ))) (b : Bool) → pointwise nat_eq k p.0 ≡ b → find_key k (p ∷ w) ≡ r → (if b then Some p.1 else find_key k w) ≡ r
find_step k p w r b t e = ap (λ (c : Bool). if c then Some p.1 else find_key k w) (sym t) ∙ e

find_some : (k : List ℕ) (w : List Pair) (columns : List (ℕ × List ℕ)) → find_key k w ≡ Some columns → Contains w (k, columns)
find_some k [] columns e = cc
find_some k (p ∷ w) columns e = by (find_some k w columns) (pointwise nat_eq k p.0) refl
  where
    by : (find_key k w ≡ Some columns → Contains w (k, columns)) → (b : Bool) → pointwise nat_eq k p.0 ≡ b → Contains (p ∷ w) (k, columns)
    by rest true t =
        let here : Some p.1 ≡ Some columns = find_step k p w (Some columns) true t e in
        let same : p.1 ≡ columns = cc in
        let key : k ≡ p.0 = (bytes_decides k p.0).0 t in
        subst (Contains (p ∷ w)) (λ i. (sym key i, same i)) (head_in p w)
    by rest false t = tail_in p (k, columns) w (rest (find_step k p w (Some columns) false t e))

find_none : (k : List ℕ) (w : List Pair) (columns : List (ℕ × List ℕ)) → find_key k w ≡ None → Contains w (k, columns) → ⊥
find_none k [] columns e at = no_element (k, columns) at
find_none k (p ∷ w) columns e at = by (find_none k w columns) (pointwise nat_eq k p.0) refl (head_or_tail p (k, columns) w at)
  where
    by : (find_key k w ≡ None → Contains w (k, columns) → ⊥) → (b : Bool) → pointwise nat_eq k p.0 ≡ b → (p ≡ (k, columns)) ⊎ Contains w (k, columns) → ⊥
    by rest true t m = let some : Some p.1 ≡ None = find_step k p w None true t e in cc
    by rest false t (inl here) = let same : pointwise nat_eq k p.0 ≡ true = equal k p.0 (sym (ap (λ (q : Pair). q.0) here)) in let never : true ≡ false = sym same ∙ t in cc
    by rest false t (inr later) = rest (find_step k p w None false t e) later

pub found_or_absent : (k : List ℕ) (w : List Pair) (r : Option (Bor (List (ℕ × List ℕ)))) → option_copied r ≡ find_key k w
    → MatchOption r ((columns : List (ℕ × List ℕ)) → Contains w (k, columns) → ⊥) (λ found. Contains w (k, found.now))
found_or_absent k w (Some found) e = find_some k w found.now (sym e)
found_or_absent k w None e = λ columns. find_none k w columns (sym e)
