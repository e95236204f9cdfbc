-- What a node and a place add to the hits of a range.
use Rattle.std.proofs.Common.{◌≡◌, ◌≢◌, ℕ, zero, suc, ◌+◌, ◌-◌, ◌*◌, ◌<◌, ◌≤◌, min, Bool, true, false, List, [], ◌∷◌, ◌++◌, length, take, drop, get_or, sym, refl, ap, ◌∙◌, subst, arith, length-append, length-drop}
use Rattle.std.specs.List.{AllByRecursion}
use Rattle.std.proofs.Common.{Vec, Global}
use Rattle.std.specs.Global.{Box}
use Rattle.std.proofs.Common.{inl, inr, ◌⊎◌}
use Rattle.std.proofs.lemmas.Bool.{cases_lt}
use Rattle.std.proofs.lemmas.List.{take_all, take_rest, get_or-drop}
use Rattle.smallvec.specs.SmallVec.{SmallVec}
use Rattle.mt_words.specs.Limits.{widest}
use Rattle.mt_words.specs.Slices.{AreBytes, slice_in, slice_bytes}
use Rattle.mt_tree.specs.Steps.Pairs.{key_rank, weight, FitsAfter}
use Rattle.mt_words.proofs.SliceBytes.{bytes_take}
use Rattle.mt_tree.specs.Layer.{PlaceView, long, link, slice_at, pairs_at, put_before, walk, IsPlace}
use Rattle.mt_tree.specs.Steps.Ranks.{rank_at, IsLayerFrom, length_at-le, ranked}
use Rattle.mt_words.specs.Walks.{Pair, joined}
use Rattle.mt_tree.specs.Nodes.{NodeView, places, IsNode, AreSeparated, SlicesFrom}
use Rattle.mt_tree.specs.Steps.Levels.{borders_of, branches, node_walk}
use Rattle.mt_tree.specs.Steps.NodeViews.{node_view, IsNodeKind}
use Rattle.mt_tree.specs.Range.{from}
use Rattle.mt_tree.specs.declared.node.NodeKind.{NodeKind}
use Rattle.mt_tree.specs.declared.node.NodeKind.TheVariants.{Border, Interior}
use Rattle.arrayvec.specs.declared.array_vec.ArrayVec.{ArrayVec}
use Rattle.mt_tree.specs.declared.place.Content.TheVariants.{Short, Suffix, Link}
use Rattle.mt_tree.proofs.Finds.{pairs_rank, view_lawful, layer_lawful, border_layer, border_walk, interior_is, interior_walk}
use Rattle.mt_tree.proofs.Orders.{pairs_bytes}
use Rattle.mt_tree.proofs.Lights.{kid_lighter, view_light, kids_more}
use Rattle.mt_tree.proofs.Ranged.{from-append, from_kept, from_empty, short_from, below_from, place_gone}
use Rattle.mt_tree.specs.Steps.Falls.{walk-append, joined-append, all_weight}
use Rattle.mt_tree.proofs.Joins.{put_before-append, all_weaker, all_front, all_back}
use Rattle.mt_tree.specs.Steps.Places.{views, view_of, view_of_content}
use Rattle.mt_tree.specs.declared.place.Place.{Place}
use Rattle.mt_tree.specs.declared.place.Content.{Content}

-- ---- what a place's test says
pub not_before : (rank s : ℕ) (start : List ℕ) (r : Bool) → s ≡ slice_in start → r ≡ false → (rank < s * 10 + min (length start) 9 → r ≡ true) → key_rank start ≤ rank
not_before rank s start r e f g = by (cases_lt rank (s * 10 + min (length start) 9))
  where
    by : (rank < s * 10 + min (length start) 9) ⊎ (s * 10 + min (length start) 9 ≤ rank) → key_rank start ≤ rank
    by (inl lt) = absurd (let t : true ≡ false = sym (g lt) ∙ f in cc)
    by (inr le) = omega arith

pub is_before : (rank s : ℕ) (start : List ℕ) (r : Bool) → s ≡ slice_in start → r ≡ true → (r ≡ true → rank < s * 10 + min (length start) 9) → rank < key_rank start
is_before rank s start r e f g = let lt : rank < s * 10 + min (length start) 9 = g f in omega arith

-- ---- one place
module _ (start : List ℕ) (s : ℕ) (h : Content NodeView) (bytes : AreBytes start) (lawful : IsPlace (view_of_content node_walk s h)) (le : key_rank start ≤ rank_at (view_of_content node_walk s h)) where
  pub short_pairs : (l : ℕ) (c : List (ℕ × List ℕ)) → h ≡ Short l c → from start (pairs_at (view_of_content node_walk s h)) ≡ (take l (slice_bytes s), c) ∷ []
  short_pairs l c e =
      ap (λ (z : Content NodeView). from start (pairs_at (view_of_content node_walk s z))) e
      ∙ short_from start bytes s l c (subst (λ (z : Content NodeView). IsPlace (view_of_content node_walk s z)) e lawful) (subst (λ (z : Content NodeView). key_rank start ≤ rank_at (view_of_content node_walk s z)) e le)

  pub suffix_pairs : (t : SmallVec ℕ) (c : List (ℕ × List ℕ)) (rest : List ℕ) → h ≡ Suffix t c → (rank_at (view_of_content node_walk s h) ≡ key_rank start → rest ≡ drop 8 start) → (rank_at (view_of_content node_walk s h) ≢ key_rank start → rest ≡ [])
      → from start (pairs_at (view_of_content node_walk s h)) ≡ put_before (slice_bytes s) (from rest ((t.items, c) ∷ []))
  suffix_pairs t c rest e here past =
      let place : IsPlace (long s t.items c) = subst (λ (z : Content NodeView). IsPlace (view_of_content node_walk s z)) e lawful in
      let same : rank_at (view_of_content node_walk s h) ≡ s * 10 + 9 = ap (λ (z : Content NodeView). rank_at (view_of_content node_walk s z)) e in
      ap (λ (z : Content NodeView). from start (pairs_at (view_of_content node_walk s z))) e
      ∙ below_from start bytes s ((t.items, c) ∷ []) rest place.0 (place.1, tt) (omega arith) (λ r. here (same ∙ r)) (λ n. past (λ r. n (sym same ∙ r)))

  pub link_pairs : (n : NodeView) (rest : List ℕ) → h ≡ Link n → (rank_at (view_of_content node_walk s h) ≡ key_rank start → rest ≡ drop 8 start) → (rank_at (view_of_content node_walk s h) ≢ key_rank start → rest ≡ [])
      → from start (pairs_at (view_of_content node_walk s h)) ≡ put_before (slice_bytes s) (from rest (node_walk n))
  link_pairs n rest e here past =
      let place : IsPlace (link s (node_walk n)) = subst (λ (z : Content NodeView). IsPlace (view_of_content node_walk s z)) e lawful in
      let same : rank_at (view_of_content node_walk s h) ≡ s * 10 + 9 = ap (λ (z : Content NodeView). rank_at (view_of_content node_walk s z)) e in
      ap (λ (z : Content NodeView). from start (pairs_at (view_of_content node_walk s z))) e
      ∙ below_from start bytes s (node_walk n) rest place.0 place.2 (omega arith) (λ r. here (same ∙ r)) (λ m. past (λ r. m (sym same ∙ r)))

fits_below : (k : ℕ) (b : List ℕ) (w : List Pair) → FitsAfter k (put_before b w) → FitsAfter (k + length b) w
fits_below k b [] h = tt
fits_below k b (p ∷ w) h = (let le = h.0 in omega (arith, length-append b p.0), fits_below k b w h.1)

pub fits_link : (s : ℕ) (h : Content NodeView) (n : NodeView) (before bytes after : List ℕ) → h ≡ Link n → after ≡ before ++ bytes → bytes ≡ slice_bytes s → FitsAfter (length before) (pairs_at (view_of_content node_walk s h)) → FitsAfter (length after) (node_walk n)
fits_link s h n before bytes after e f g a =
    let len : length before + length (slice_bytes s) ≡ length after = sym (ap length f ∙ ap (λ (z : List ℕ). length (before ++ z)) g ∙ length-append before (slice_bytes s)) in
    subst (λ (j : ℕ). FitsAfter j (node_walk n)) len (fits_below (length before) (slice_bytes s) (node_walk n) (subst (λ (z : Content NodeView). FitsAfter (length before) (pairs_at (view_of_content node_walk s z))) e a))

-- ---- among the children
slices_gone : (start : List ℕ) (low : ℕ) (ps : List PlaceView) → AreBytes start → IsLayerFrom low ps → AllByRecursion (λ p. slice_at p < slice_in start) ps → from start (walk ps) ≡ []
slices_gone start low [] b h l = refl
slices_gone start low (p ∷ ps) b h l =
    let lt : slice_at p < slice_in start = l.0 in
    from-append start (pairs_at p) (walk ps)
    ∙ (λ i. place_gone start b p h.0 (omega (arith, length_at-le p h.0)) i ++ slices_gone start (suc (rank_at p)) ps b h.2 l.1 i)

place_kept : (start : List ℕ) (p : PlaceView) → AreBytes start → IsPlace p → key_rank start < rank_at p → from start (pairs_at p) ≡ pairs_at p
place_kept start p b h lt = from_kept start (pairs_at p) (bytes_take 8 start b) (pairs_bytes p h)
    (all_weaker (λ q. key_rank q.0 ≡ rank_at p) (λ q. key_rank start < key_rank q.0) (λ q e. omega arith) (pairs_at p) (pairs_rank p h))

slices_kept : (start : List ℕ) (low : ℕ) (ps : List PlaceView) → AreBytes start → IsLayerFrom low ps → AllByRecursion (λ p. slice_in start < slice_at p) ps → from start (walk ps) ≡ walk ps
slices_kept start low [] b h l = refl
slices_kept start low (p ∷ ps) b h l =
    let lt : slice_in start < slice_at p = l.0 in
    from-append start (pairs_at p) (walk ps)
    ∙ (λ i. place_kept start p b h.0 (omega arith) i ++ slices_kept start (suc (rank_at p)) ps b h.2 l.1 i)

kids_walk : (n : NodeView) (ns : List NodeView) → walk (joined (borders_of (n ∷ ns))) ≡ node_walk n ++ walk (joined (borders_of ns))
kids_walk n ns = ap walk (joined-append n.tree.borders (borders_of ns)) ∙ walk-append (places n) (joined (borders_of ns))

kids_from-cons : (start : List ℕ) (n : NodeView) (ns : List NodeView) → from start (walk (joined (borders_of (n ∷ ns)))) ≡ from start (node_walk n) ++ from start (walk (joined (borders_of ns)))
kids_from-cons start n ns = ap (from start) (kids_walk n ns) ∙ from-append start (node_walk n) (walk (joined (borders_of ns)))

kids_kept : (start : List ℕ) (s : ℕ) (ns : List NodeView) → AreBytes start → AllByRecursion IsNode ns → AllByRecursion (λ b. SlicesFrom s (joined b.borders)) (branches ns) → slice_in start < s → from start (walk (joined (borders_of ns))) ≡ walk (joined (borders_of ns))
kids_kept start s [] b h f l = refl
kids_kept start s (n ∷ ns) b h f l =
    kids_from-cons start n ns
    ∙ (λ i. slices_kept start 0 (places n) b (ranked (places n) h.0.tree.layer) (all_weaker (λ p. s ≤ slice_at p) (λ p. slice_in start < slice_at p) (λ p le. omega arith) (places n) f.0) i ++ kids_kept start s ns b h.1 f.1 l i)
    ∙ sym (kids_walk n ns)

-- the pairs at or after the start are those of the child at the start, and all pairs of the later children
pub kids_from : (start : List ℕ) (ss : List ℕ) (ns : List NodeView) (i : ℕ) (d : NodeView) → AreBytes start → AllByRecursion IsNode ns → AreSeparated ss (branches ns) → length ss + 1 ≡ length ns → i ≤ length ss
    → ((j : ℕ) → j < i → get_or ss j 0 ≤ slice_in start) → (i < length ss → slice_in start < get_or ss i 0)
    → from start (walk (joined (borders_of ns))) ≡ from start (node_walk (get_or ns i d)) ++ walk (joined (borders_of (drop (suc i) ns)))
kids_from start ss [] i d b h a e l before after = absurd (omega arith)
kids_from start [] (n ∷ []) zero d b h a e l before after = kids_from-cons start n []
kids_from start [] (n ∷ m ∷ ns) i d b h a e l before after = absurd (omega arith)
kids_from start [] (n ∷ []) (suc i) d b h a e l before after = absurd (omega arith)
kids_from start (s ∷ ss) (n ∷ ns) zero d b h a e l before after =
    kids_from-cons start n ns ∙ ap (λ (z : List Pair). from start (node_walk n) ++ z) (kids_kept start s ns b h.1 a.1 (after (omega arith)))
kids_from start (s ∷ ss) (n ∷ ns) (suc i) d b h a e l before after =
    let le : s ≤ slice_in start = before 0 (omega arith) in
    kids_from-cons start n ns
    ∙ ap (λ (z : List Pair). z ++ from start (walk (joined (borders_of ns)))) (slices_gone start 0 (places n) b (ranked (places n) h.0.tree.layer) (all_weaker (λ p. slice_at p < s) (λ p. slice_at p < slice_in start) (λ p lt. omega arith) (places n) a.0))
    ∙ kids_from start ss ns i d b h.1 a.2 (omega arith) (omega arith) (λ j lt. before (suc j) (omega arith)) (λ lt. after (omega arith))

-- ---- what is visited below a node
fits_kid : (k : ℕ) (ks : List NodeView) (i : ℕ) (d : NodeView) → FitsAfter k (walk (joined (borders_of ks))) → i < length ks → FitsAfter k (node_walk (get_or ks i d))
fits_kid k [] i d h l = absurd (omega arith)
fits_kid k (n ∷ ns) zero d h l = all_front (λ p. k + length p.0 ≤ widest.key) (node_walk n) (walk (joined (borders_of ns))) (subst (FitsAfter k) (kids_walk n ns) h)
fits_kid k (n ∷ ns) (suc i) d h l = fits_kid k ns i d (all_back (λ p. k + length p.0 ≤ widest.key) (node_walk n) (walk (joined (borders_of ns))) (subst (FitsAfter k) (kids_walk n ns) h)) (omega arith)

fits_view : (k : ℕ) (xs : List (Place NodeView)) (i : ℕ) (d : Place NodeView) → FitsAfter k (walk (views node_walk xs)) → i < length xs → FitsAfter k (pairs_at (view_of node_walk (get_or xs i d)))
fits_view k [] i d h l = absurd (omega arith)
fits_view k (x ∷ xs) zero d h l = all_front (λ p. k + length p.0 ≤ widest.key) (pairs_at (view_of node_walk x)) (walk (views node_walk xs)) h
fits_view k (x ∷ xs) (suc i) d h l = fits_view k xs i d (all_back (λ p. k + length p.0 ≤ widest.key) (pairs_at (view_of node_walk x)) (walk (views node_walk xs)) h) (omega arith)

-- a place of a node's border
pub record IsPlaceIn (n : NodeView) (k : ℕ) (x : Place NodeView) : Type 0 where
  pub light : weight (pairs_at (view_of node_walk x)) ≤ weight (node_walk n)
  pub lawful : IsPlace (view_of node_walk x)
  pub fits : FitsAfter k (pairs_at (view_of node_walk x))

pub place_in : (kind : NodeKind) (n : NodeView) (b : Vec (Place NodeView) Global) (xs : List (Place NodeView)) (i : ℕ) (x : Place NodeView) (before own : List ℕ) → node_view kind ≡ n → IsNodeKind kind → kind ≡ Border b → xs ≡ b.items → x ≡ get_or xs i x → i < length xs
    → own ≡ before → FitsAfter (length before) (node_walk n) → IsPlaceIn n (length own) x
place_in kind n b xs i x before own view lawful is items at lt same fits =
    let whole : node_walk n ≡ walk (views node_walk xs) = border_walk kind n b view is ∙ ap (λ (z : List (Place NodeView)). walk (views node_walk z)) (sym items) in
    let each : AllByRecursion IsPlace (views node_walk xs) = subst (λ (z : List (Place NodeView)). AllByRecursion IsPlace (views node_walk z)) (sym items) (layer_lawful 0 (views node_walk b.items) (border_layer kind b lawful is)) in
    let here : weight (pairs_at (view_of node_walk x)) ≤ weight (walk (views node_walk xs)) = subst (λ (z : Place NodeView). weight (pairs_at (view_of node_walk z)) ≤ weight (walk (views node_walk xs))) (sym at) (view_light xs i x lt) in
    let room : FitsAfter (length own) (walk (views node_walk xs)) = subst (FitsAfter (length own)) whole (subst (λ (z : List ℕ). FitsAfter (length z) (node_walk n)) (sym same) fits) in
    record {
      light = omega (arith, here, ap weight whole);
      lawful = subst (λ (z : Place NodeView). IsPlace (view_of node_walk z)) (sym at) (view_lawful xs i x each lt);
      fits = subst (λ (z : Place NodeView). FitsAfter (length own) (pairs_at (view_of node_walk z))) (sym at) (fits_view (length own) xs i x room lt);
    }

-- a child of an interior node
pub record IsChildIn (n : NodeView) (k : ℕ) (x : NodeView) : Type 0 where
  pub lighter : weight (node_walk x) < weight (node_walk n)
  pub fits : FitsAfter k (node_walk x)

pub child_in : (kind : NodeKind) (n : NodeView) (ss : Box (ArrayVec ℕ 15 (Unit {0}))) (ks : Vec NodeView Global) (xs : List NodeView) (i : ℕ) (x : NodeView) (before own : List ℕ) → node_view kind ≡ n → IsNodeKind kind → kind ≡ Interior ss ks
    → xs ≡ ks.items → x ≡ get_or xs i x → i < length xs → own ≡ before → FitsAfter (length before) (node_walk n) → IsChildIn n (length own) x
child_in kind n ss ks xs i x before own view lawful is items at lt same fits =
    let h = interior_is kind ss ks lawful is in
    let two : 2 ≤ length xs = subst (λ (z : List NodeView). 2 ≤ length z) (sym items) h.two in
    let nodes : AllByRecursion IsNode xs = subst (AllByRecursion IsNode) (sym items) h.nodes in
    let whole : node_walk n ≡ walk (joined (borders_of xs)) = interior_walk kind n ss ks view is ∙ ap (λ (z : List NodeView). walk (joined (borders_of z))) (sym items) in
    let here : weight (node_walk x) < all_weight xs = subst (λ (z : NodeView). weight (node_walk z) < all_weight xs) (sym at) (kid_lighter xs i x two nodes lt) in
    let room : FitsAfter (length own) (walk (joined (borders_of xs))) = subst (FitsAfter (length own)) whole (subst (λ (z : List ℕ). FitsAfter (length z) (node_walk n)) (sym same) fits) in
    record {
      lighter = omega (arith, here, ap weight whole);
      fits = subst (λ (z : NodeView). FitsAfter (length own) (node_walk z)) (sym at) (fits_kid (length own) xs i x room lt);
    }

-- ---- the loops
pub later_kid : (ks : List NodeView) (m i : ℕ) (x : NodeView) → i < length (take (length ks - m) (drop m ks)) → x ≡ get_or (take (length ks - m) (drop m ks)) i x → (m + i < length ks) × (x ≡ get_or ks (m + i) x)
later_kid ks m i x l e =
    let same : take (length ks - m) (drop m ks) ≡ drop m ks = take_rest ks m in
    let len : length (take (length ks - m) (drop m ks)) ≡ length (drop m ks) = ap length same in
    (omega (arith, len, length-drop m ks), e ∙ ap (λ (z : List NodeView). get_or z i x) same ∙ get_or-drop m ks i x)

-- a walk that went on with another child
pub kids_then : (prefix own : List ℕ) (ys : List NodeView) (i : ℕ) (x : NodeView) → own ≡ prefix → i < length ys → x ≡ get_or ys i x
    → put_before prefix (walk (joined (borders_of (take i ys)))) ++ put_before own (from [] (node_walk x)) ≡ put_before prefix (walk (joined (borders_of (take (i + 1) ys))))
kids_then prefix own ys i x p l at =
    let before = walk (joined (borders_of (take i ys))) in
    (λ j. put_before prefix before ++ put_before (p j) (from_empty (node_walk x) j))
    ∙ sym (put_before-append prefix before (node_walk x))
    ∙ ap (put_before prefix) (sym (ap walk (kids_more ys i x l at) ∙ walk-append (joined (borders_of (take i ys))) (places x)))

-- all children: the child at the start, then the later ones
pub kids_done : (prefix start : List ℕ) (whole : List Pair) (ks : List NodeView) (x : NodeView) (at i : ℕ)
    → whole ≡ from start (node_walk x) ++ walk (joined (borders_of (drop (suc at) ks))) → length (take (length ks - (at + 1)) (drop (at + 1) ks)) ≤ i
    → put_before prefix (from start (node_walk x)) ++ put_before prefix (walk (joined (borders_of (take i (take (length ks - (at + 1)) (drop (at + 1) ks)))))) ≡ put_before prefix whole
kids_done prefix start whole ks x at i is l =
    let here = from start (node_walk x) in
    let next : at + 1 ≡ suc at = omega arith in
    let all_later : take i (take (length ks - (at + 1)) (drop (at + 1) ks)) ≡ drop (suc at) ks = take_all i _ l ∙ take_rest ks (at + 1) ∙ ap (λ (z : ℕ). drop z ks) next in
    ap (λ (z : List NodeView). put_before prefix here ++ put_before prefix (walk (joined (borders_of z)))) all_later
    ∙ sym (put_before-append prefix here (walk (joined (borders_of (drop (suc at) ks)))))
    ∙ ap (put_before prefix) (sym is)
