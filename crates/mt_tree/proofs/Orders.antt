-- Whether one walk lies below another, by their edges.
use Rattle.std.proofs.Common.{◌≡◌, ◌≢◌, ℕ, zero, suc, ◌+◌, ◌-◌, ◌*◌, ◌^◌, ◌<◌, ◌≤◌, min, List, [], ◌∷◌, ◌++◌, length, take, drop, sym, refl, ap, ◌∙◌, subst, inl, inr, ◌⊎◌, arith}
use Rattle.std.specs.List.{AllByRecursion}
use Rattle.std.proofs.lemmas.List.{append-nil, length-map}
use Rattle.mt_words.specs.Slices.{AreBytes, slice_in, slice_bytes}
use Rattle.mt_tree.specs.Steps.Pairs.{key_rank, weight}
use Rattle.mt_words.proofs.SliceBytes.{slice_bytes-bytes, slice_bytes-long, bytes_take}
use Rattle.mt_tree.proofs.Ranks.{ranks_of_less, less_of_ranks, IsBelowAt}
use Rattle.mt_words.proofs.SliceBytes.{slice_bytes-length}
use Rattle.mt_tree.specs.Layer.{PlaceView, short, long, link, pairs_at, put_before, walk, IsPlace, AllKeysBelow}
use Rattle.mt_tree.specs.Steps.Ranks.{rank_at, IsLayerFrom, IsRanked, length_at-le}
use Rattle.mt_words.specs.Walks.{Pair}
use Rattle.mt_words.specs.Words.{IsBelow}
use Rattle.mt_tree.specs.Steps.Edges.{PlaceEdge, IsEdge, LastEdge, FirstEdge, HasBytes}
use Rattle.mt_tree.specs.Steps.Falls.{weight-append, walk-append, layer_back}
use Rattle.mt_tree.proofs.Joins.{all_append, below_unprefixed, below_lighter, all_front, all_back, all_weaker, long_bytes}
use Rattle.mt_tree.proofs.Finds.{pairs_rank, rest_is}
use Rattle.mt_words.proofs.SliceBytes.{below-prefixed}
use Rattle.std.specs.Prelude.{slice_get, Some}

-- ---- bytes of places
pub link_bytes : (s : ℕ) (w : List Pair) → s < 2 ^ 64 → HasBytes (put_before (slice_bytes s) w)
link_bytes s [] h = tt
link_bytes s (p ∷ w) h = (long_bytes s p.0 h, link_bytes s w h)

pub pairs_bytes : (p : PlaceView) → IsPlace p → HasBytes (pairs_at p)
pairs_bytes (short s l c) h = (bytes_take 8 _ (bytes_take l _ (slice_bytes-bytes s h.0)), tt)
pairs_bytes (long s t c) h = (long_bytes s t h.0, tt)
pairs_bytes (link s w) h = link_bytes s w h.0

pub walk_bytes : (low : ℕ) (ps : List PlaceView) → IsLayerFrom low ps → HasBytes (walk ps)
walk_bytes low [] h = tt
walk_bytes low (p ∷ ps) h = all_append _ (pairs_at p) (walk ps) (pairs_bytes p h.0) (walk_bytes (suc (rank_at p)) ps h.2)

pairs_some : (p : PlaceView) → IsPlace p → 0 < length (pairs_at p)
pairs_some (short s l c) h = omega arith
pairs_some (long s t c) h = omega arith
pairs_some (link s w) h = let two : 2 ≤ length w = h.1 in omega (arith, length-map {B = Pair} w (λ p. (slice_bytes s ++ p.0, p.1)))

-- ---- ranks of walks
pub walk_from : (low : ℕ) (ps : List PlaceView) → IsLayerFrom low ps → AllByRecursion (λ p. low ≤ key_rank p.0) (walk ps)
walk_from low [] h = tt
walk_from low (p ∷ ps) h =
    let from : low ≤ rank_at p = h.1 in
    all_append _ (pairs_at p) (walk ps)
    (all_weaker (λ q. key_rank q.0 ≡ rank_at p) (λ q. low ≤ key_rank q.0) (λ q e. omega arith) (pairs_at p) (pairs_rank p h.0))
    (all_weaker (λ q. suc (rank_at p) ≤ key_rank q.0) (λ q. low ≤ key_rank q.0) (λ q e. omega arith) (walk ps) (walk_from (suc (rank_at p)) ps h.2))

pub walk_before : (low : ℕ) (xs : List PlaceView) (p : PlaceView) (ys : List PlaceView) → IsLayerFrom low (xs ++ p ∷ ys) → AllByRecursion (λ q. key_rank q.0 < rank_at p) (walk xs)
walk_before low [] p ys h = tt
walk_before low (x ∷ xs) p ys h =
    let rest = layer_back (suc (rank_at x)) xs (p ∷ ys) h.2 in
    let less : suc (rank_at x) ≤ rank_at p = rest.1 in
    all_append _ (pairs_at x) (walk xs)
    (all_weaker (λ q. key_rank q.0 ≡ rank_at x) (λ q. key_rank q.0 < rank_at p) (λ q e. omega arith) (pairs_at x) (pairs_rank x h.0))
    (walk_before (suc (rank_at x)) xs p ys h.2)

place_edge : (w : List Pair) (p : PlaceView) (s m : ℕ) (below : List Pair) → HasBytes w → IsPlace p → PlaceEdge p s m below → IsEdge w (pairs_at p) s m below
place_edge w p s m below bytes place e =
    let rank : rank_at p ≡ s * 10 + m = omega (arith, e.slices, e.lengths) in
    record {
      bytes = bytes;
      fits = omega (arith, e.lengths, length_at-le p place);
      some = pairs_some p place;
      ranks = all_weaker (λ q. key_rank q.0 ≡ rank_at p) (λ q. key_rank q.0 ≡ s * 10 + m) (λ q l. l ∙ rank) (pairs_at p) (pairs_rank p place);
      rests = e.rests;
    }

pub last_edge : (xs : List PlaceView) (p : PlaceView) (s m : ℕ) (below : List Pair) → IsRanked (xs ++ p ∷ []) → PlaceEdge p s m below → LastEdge (walk (xs ++ p ∷ [])) s m below
last_edge xs p s m below h e = record {
  before = walk xs;
  top = pairs_at p;
  is = walk-append xs (p ∷ []) ∙ ap (λ w. walk xs ++ w) (append-nil (pairs_at p));
  lower = all_weaker (λ q. key_rank q.0 < rank_at p) (λ q. key_rank q.0 < s * 10 + m) (λ q l. omega (arith, e.slices, e.lengths)) (walk xs) (walk_before 0 xs p [] h);
  edge = place_edge (walk (xs ++ p ∷ [])) p s m below (walk_bytes 0 (xs ++ p ∷ []) h) (layer_back 0 xs (p ∷ []) h).0 e;
}

pub first_edge : (p : PlaceView) (ys : List PlaceView) (s m : ℕ) (below : List Pair) → IsRanked (p ∷ ys) → PlaceEdge p s m below → FirstEdge (walk (p ∷ ys)) s m below
first_edge p ys s m below h e = record {
  after = walk ys;
  top = pairs_at p;
  is = refl;
  higher = all_weaker (λ q. suc (rank_at p) ≤ key_rank q.0) (λ q. s * 10 + m < key_rank q.0) (λ q l. omega (arith, e.slices, e.lengths)) (walk ys) (walk_from (suc (rank_at p)) ys h.2);
  edge = place_edge (walk (p ∷ ys)) p s m below (walk_bytes 0 (p ∷ ys) h) h.0 e;
}

-- ---- what the edges decide

below_ranks : (rank : ℕ) (v w : List Pair) → HasBytes v → HasBytes w → AllByRecursion (λ p. key_rank p.0 < rank) v → AllByRecursion (λ q. rank ≤ key_rank q.0) w → AllKeysBelow v w
below_ranks rank [] w hv hw low high = tt
below_ranks rank (p ∷ v) w hv hw low high = (one w hw high, below_ranks rank v w hv.1 hw low.1 high)
  where
    one : (w : List Pair) → HasBytes w → AllByRecursion (λ q. rank ≤ key_rank q.0) w → AllByRecursion (λ q. IsBelow p.0 q.0) w
    one [] h r = tt
    one (q ∷ w) h r =
        let below : key_rank p.0 < rank = low.0 in
        let from : rank ≤ key_rank q.0 = r.0 in
        (less_of_ranks p.0 q.0 hv.0 h.0 (omega arith), one w h.1 r.1)

-- the first rank is lower, or both are the rank of the keys longer than 8 bytes of one slice
abbrev CanBeBelow : ℕ → ℕ → Type 0
CanBeBelow a b = (a < b) ⊎ ((a ≡ b) × ((n : ℕ) (s : ℕ) → a ≡ s * 10 + n → n ≤ 9 → n ≡ 9))

-- if all keys of one edge are below those of another, its rank can be below
first_pair_ranks : (a b : ℕ) (v w : List Pair) → 0 < length v → 0 < length w → HasBytes v → HasBytes w → AllByRecursion (λ p. key_rank p.0 ≡ a) v → AllByRecursion (λ q. key_rank q.0 ≡ b) w → AllKeysBelow v w → CanBeBelow a b
first_pair_ranks a b [] w sv sw hv hw rv rw' below = absurd (omega arith)
first_pair_ranks a b (p ∷ v) [] sv sw hv hw rv rw' below = absurd (omega arith)
first_pair_ranks a b (p ∷ v) (q ∷ w) sv sw hv hw rv rw' below =
    let ra : key_rank p.0 ≡ a = rv.0 in
    let rb : key_rank q.0 ≡ b = rw'.0 in
    by ra rb (ranks_of_less p.0 q.0 hv.0 hw.0 below.0.0)
  where
    by : key_rank p.0 ≡ a → key_rank q.0 ≡ b → (key_rank p.0 < key_rank q.0) ⊎ IsBelowAt p.0 q.0 → CanBeBelow a b
    by ra rb (inl l) = inl (omega arith)
    by ra rb (inr h) =
        let same : key_rank p.0 ≡ key_rank q.0 = h.same_rank in
        let long : 8 < length p.0 = h.long in
        inr (omega arith, λ n s e le. omega arith)

module _ (v w b d : List Pair) (s m t n : ℕ) (f : LastEdge v s m b) (g : FirstEdge w t n d) where
  v_low : AllByRecursion (λ p. key_rank p.0 ≤ s * 10 + m) v
  v_low = subst (AllByRecursion (λ p. key_rank p.0 ≤ s * 10 + m)) (sym f.is)
      (all_append _ f.before f.top
      (all_weaker (λ p. key_rank p.0 < s * 10 + m) (λ p. key_rank p.0 ≤ s * 10 + m) (λ p l. omega arith) f.before f.lower)
      (all_weaker (λ p. key_rank p.0 ≡ s * 10 + m) (λ p. key_rank p.0 ≤ s * 10 + m) (λ p l. omega arith) f.top f.edge.ranks))

  w_high : AllByRecursion (λ p. t * 10 + n ≤ key_rank p.0) w
  w_high = subst (AllByRecursion (λ p. t * 10 + n ≤ key_rank p.0)) (sym g.is)
      (all_append _ g.top g.after
      (all_weaker (λ p. key_rank p.0 ≡ t * 10 + n) (λ p. t * 10 + n ≤ key_rank p.0) (λ p l. omega arith) g.top g.edge.ranks)
      (all_weaker (λ p. t * 10 + n < key_rank p.0) (λ p. t * 10 + n ≤ key_rank p.0) (λ p l. omega arith) g.after g.higher))

  edges_less : s * 10 + m < t * 10 + n → AllKeysBelow v w
  edges_less l = below_ranks (t * 10 + n) v w f.edge.bytes g.edge.bytes (all_weaker (λ p. key_rank p.0 ≤ s * 10 + m) (λ p. key_rank p.0 < t * 10 + n) (λ p le. omega arith) v v_low) w_high

  top_bytes : HasBytes f.top
  top_bytes = all_back _ f.before f.top (subst HasBytes f.is f.edge.bytes)

  top_bytes' : HasBytes g.top
  top_bytes' = all_front _ g.top g.after (subst HasBytes g.is g.edge.bytes)

  tops_below : AllKeysBelow v w → AllKeysBelow f.top g.top
  tops_below h =
      all_weaker (λ p. AllByRecursion (λ q. IsBelow p.0 q.0) w) (λ p. AllByRecursion (λ q. IsBelow p.0 q.0) g.top)
      (λ p k. all_front (λ q. IsBelow p.0 q.0) g.top g.after (subst (AllByRecursion (λ q. IsBelow p.0 q.0)) g.is k)) f.top
      (all_back _ f.before f.top (subst (λ z. AllKeysBelow z w) f.is h))

  edges_order : AllKeysBelow v w → CanBeBelow (s * 10 + m) (t * 10 + n)
  edges_order h = first_pair_ranks (s * 10 + m) (t * 10 + n) f.top g.top f.edge.some g.edge.some top_bytes top_bytes' f.edge.ranks g.edge.ranks (tops_below h)

  -- if both are longer than 8 and of one slice, what lies below decides
  edges_down : s ≡ t → m ≡ 9 → n ≡ 9 → AllKeysBelow v w → AllKeysBelow b d
  edges_down e k l h =
      below_unprefixed (slice_bytes s) b d
      (subst (λ z. AllKeysBelow (put_before (slice_bytes s) b) z) (sym (ap (λ z. put_before (slice_bytes z) d) e ∙ g.edge.rests l)) (subst (λ z. AllKeysBelow z g.top) (sym (f.edge.rests k)) (tops_below h)))

  edges_up : s ≡ t → m ≡ 9 → n ≡ 9 → AllKeysBelow b d → AllKeysBelow v w
  edges_up e k l h =
      subst (λ z. AllKeysBelow z w) (sym f.is) (subst (AllKeysBelow (f.before ++ f.top)) (sym g.is)
      (all_append _ f.before f.top
      (below_ranks (t * 10 + n) f.before (g.top ++ g.after) (all_front _ f.before f.top (subst HasBytes f.is f.edge.bytes)) (subst HasBytes g.is g.edge.bytes)
      (all_weaker (λ p. key_rank p.0 < s * 10 + m) (λ p. key_rank p.0 < t * 10 + n) (λ p lt. omega arith) f.before f.lower) (subst (AllByRecursion (λ p. t * 10 + n ≤ key_rank p.0)) g.is w_high))
      (right_append f.top g.top g.after
      (subst (λ z. AllKeysBelow f.top z) (ap (λ z. put_before (slice_bytes z) d) e ∙ g.edge.rests l) (subst (λ z. AllKeysBelow z (put_before (slice_bytes s) d)) (f.edge.rests k) (below_prefixed (slice_bytes s) b d h)))
      (below_ranks (suc (t * 10 + n)) f.top g.after top_bytes (all_back _ g.top g.after (subst HasBytes g.is g.edge.bytes))
      (all_weaker (λ p. key_rank p.0 ≡ s * 10 + m) (λ p. key_rank p.0 < suc (t * 10 + n)) (λ p q. omega arith) f.top f.edge.ranks)
      (all_weaker (λ p. t * 10 + n < key_rank p.0) (λ p. suc (t * 10 + n) ≤ key_rank p.0) (λ p q. omega arith) g.after g.higher)))))
    where
      right_append : (x y z : List Pair) → AllKeysBelow x y → AllKeysBelow x z → AllKeysBelow x (y ++ z)
      right_append [] y z hy hz = tt
      right_append (p ∷ x) y z hy hz = (all_append _ y z hy.0 hz.0, right_append x y z hy.1 hz.1)

      one_prefixed : (c key : List ℕ) (y : List Pair) → AllByRecursion (λ q. IsBelow key q.0) y → AllByRecursion (λ q. IsBelow (c ++ key) q.0) (put_before c y)
      one_prefixed c key [] h' = tt
      one_prefixed c key (q ∷ y) h' = (below-prefixed c key q.0 h'.0, one_prefixed c key y h'.1)

      below_prefixed : (c : List ℕ) (x y : List Pair) → AllKeysBelow x y → AllKeysBelow (put_before c x) (put_before c y)
      below_prefixed c [] y h' = tt
      below_prefixed c (p ∷ x) y h' = (one_prefixed c p.0 y h'.0, below_prefixed c x y h'.1)

  pub by_slices : s ≢ t → (s < t → AllKeysBelow v w) × (AllKeysBelow v w → s < t)
  by_slices other = (λ l. edges_less (let few = f.edge.fits in omega arith), λ h. from (edges_order h))
    where
      from : CanBeBelow (s * 10 + m) (t * 10 + n) → s < t
      from (inl l) = let few = f.edge.fits in let few' = g.edge.fits in let o : s ≢ t = other in omega arith
      from (inr e) = let few = f.edge.fits in let few' = g.edge.fits in let same : s * 10 + m ≡ t * 10 + n = e.0 in absurd (other (omega arith))

  pub by_lengths : s ≡ t → m ≢ n → (m < n → AllKeysBelow v w) × (AllKeysBelow v w → m < n)
  by_lengths same other = (λ l. edges_less (omega arith), λ h. from (edges_order h))
    where
      from : CanBeBelow (s * 10 + m) (t * 10 + n) → m < n
      from (inl l) = omega arith
      from (inr e) = let even : s * 10 + m ≡ t * 10 + n = e.0 in absurd (other (omega arith))

  pub by_short : s ≡ t → m ≡ n → m < 9 → AllKeysBelow v w → ⊥
  by_short same even few8 h = from (edges_order h)
    where
      from : CanBeBelow (s * 10 + m) (t * 10 + n) → ⊥
      from (inl l) = omega arith
      from (inr e) = let nine : m ≡ 9 = e.1 m s refl (omega arith) in omega arith

  pub by_below : s ≡ t → m ≡ n → 9 ≤ m → (AllKeysBelow b d → AllKeysBelow v w) × (AllKeysBelow v w → AllKeysBelow b d)
  by_below same even nine_on =
      let few = f.edge.fits in
      let nine : m ≡ 9 = omega arith in
      let nine' : n ≡ 9 = omega arith in
      (edges_up same nine nine', edges_down same nine nine')

-- what lies below the last place of a walk is lighter than the walk
pub edge_falls : (v b : List Pair) (s m : ℕ) → LastEdge v s m b → m ≡ 9 → weight b < weight v
edge_falls v b s m f e =
    let top = f.edge.rests e in
    let some : 0 < length b = omega (arith, f.edge.some, ap (λ (z : List Pair). length z) top, length-map {B = Pair} b (λ p. (slice_bytes s ++ p.0, p.1))) in
    omega (arith, below_lighter (slice_bytes s) b (slice_bytes-length s) some, ap weight top, ap weight f.is, weight-append f.before f.top)

-- ---- the edges of one pair
pair_rests : (key : List ℕ) (c : List (ℕ × List ℕ)) → AreBytes key → min (length key) 9 ≡ 9 → put_before (slice_bytes (slice_in key)) ((drop 8 key, c) ∷ []) ≡ (key, c) ∷ []
pair_rests key c bytes e = ap (λ (k : List ℕ). (k, c) ∷ []) (slice_bytes-long key (omega arith) (bytes_take 8 key bytes))

pair_edge : (key rest : List ℕ) (c : List (ℕ × List ℕ)) (s m : ℕ) → AreBytes key → s ≡ slice_in key → m ≡ min (length key) 9 → (m ≡ 9 → rest ≡ drop 8 key) → IsEdge ((key, c) ∷ []) ((key, c) ∷ []) s m ((rest, c) ∷ [])
pair_edge key rest c s m bytes e f g = record {
  bytes = (bytes_take 8 key bytes, tt);
  fits = omega arith;
  some = omega arith;
  ranks = (omega arith, tt);
  rests = λ h. ap (λ z. put_before (slice_bytes z) ((rest, c) ∷ [])) e ∙ ap (λ (z : List ℕ). put_before (slice_bytes (slice_in key)) ((z, c) ∷ [])) (g h) ∙ pair_rests key c bytes (sym f ∙ h);
}

pub pair_last : (key rest : List ℕ) (c : List (ℕ × List ℕ)) (s m : ℕ) → AreBytes key → s ≡ slice_in key → m ≡ min (length key) 9 → (m ≡ 9 → rest ≡ drop 8 key) → LastEdge ((key, c) ∷ []) s m ((rest, c) ∷ [])
pair_last key rest c s m bytes e f g = record { before = []; top = (key, c) ∷ []; is = refl; lower = tt; edge = pair_edge key rest c s m bytes e f g }

pub pair_first : (key rest : List ℕ) (c : List (ℕ × List ℕ)) (s m : ℕ) → AreBytes key → s ≡ slice_in key → m ≡ min (length key) 9 → (m ≡ 9 → rest ≡ drop 8 key) → FirstEdge ((key, c) ∷ []) s m ((rest, c) ∷ [])
pair_first key rest c s m bytes e f g = record { after = []; top = (key, c) ∷ []; is = refl; higher = tt; edge = pair_edge key rest c s m bytes e f g }

pub rest_past : (key : List ℕ) (k m : ℕ) → k ≡ min (length key) 8 → m ≡ min (length key) 9 → m ≡ 9 → take (length key - k) (drop k key) ≡ drop 8 key
rest_past key k m e f h = let is : k ≡ 8 = omega arith in rw is (rest_is key)

-- ---- the ends of a stored layer
last_front : {X : Type 0} (xs : List X) (x : X) (i : ℕ) → i + 1 ≡ length xs → Some x ≡ slice_get xs i → (front : List X) × (xs ≡ front ++ x ∷ [])
last_front [] x i e f = absurd (omega arith)
last_front (y ∷ []) x zero e f = ([], ap (λ z. z ∷ []) (let same : y ≡ x = cc f in same))
last_front (y ∷ []) x (suc i) e f = absurd (omega arith)
last_front (y ∷ z ∷ zs) x zero e f = absurd (omega arith)
last_front (y ∷ z ∷ zs) x (suc i) e f = let rest = last_front (z ∷ zs) x i (omega arith) f in (y ∷ rest.0, ap (λ k. y ∷ k) rest.1)

pub last_of : {X : Type 0} (xs : List X) (x : X) → Some x ≡ slice_get xs (length xs - 1) → (front : List X) × (xs ≡ front ++ x ∷ [])
last_of [] x e = cc e
last_of (y ∷ ys) x e = let at : length (y ∷ ys) - 1 ≡ length ys = omega arith in last_front (y ∷ ys) x (length ys) (omega arith) (e ∙ ap (slice_get (y ∷ ys)) at)

pub first_of : {X : Type 0} (xs : List X) (x : X) → Some x ≡ slice_get xs 0 → (rest : List X) × (xs ≡ x ∷ rest)
first_of [] x e = cc e
first_of (y ∷ ys) x e = (ys, ap (λ z. z ∷ ys) (let same : y ≡ x = cc e in same))
