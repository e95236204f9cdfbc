-- Two layers are joined at their seam.
use Rattle.std.proofs.Common.{◌≡◌, ℕ, suc, ◌+◌, ◌*◌, ◌^◌, ◌<◌, ◌≤◌, List, [], ◌∷◌, ◌++◌, length, take, get_or, sym, refl, ap, ◌∙◌, subst, inl, inr, ◌⊎◌, arith, length-append}
use Rattle.std.specs.List.{AllByRecursion, remove}
use Rattle.std.proofs.lemmas.List.{append-nil, take_at, map-append, length-take-le}
use Rattle.mt_words.specs.Slices.{AreBytes, slice_bytes}
use Rattle.mt_tree.specs.Steps.Pairs.{key_rank, weight}
use Rattle.mt_words.proofs.SliceBytes.{below-unprefixed}
use Rattle.mt_words.proofs.SliceBytes.{slice_bytes-bytes, slice_in-append, slice_in-take, bytes_take}
use Rattle.mt_tree.proofs.Ranks.{ranks_of_less, IsBelowAt}
use Rattle.mt_words.proofs.SliceBytes.{slice_bytes-length}
use Rattle.mt_tree.specs.Layer.{PlaceView, short, long, link, slice_at, length_at, pairs_at, put_before, walk, IsPlace, HasNoEmptyKey, AllKeysBelow}
use Rattle.mt_tree.specs.Steps.Ranks.{rank_at, IsLayerFrom, IsRanked, length_at-le}
use Rattle.mt_tree.specs.Steps.Seams.{Meet}
use Rattle.mt_words.specs.Walks.{Pair, KeysRise}
use Rattle.mt_words.specs.Words.{IsBelow}
use Rattle.mt_tree.specs.declared.place.Content.TheVariants.{Short, Suffix, Link}
use Rattle.mt_tree.specs.Steps.Falls.{weight-append, weight-put_before, walk-append}
use Rattle.mt_tree.specs.Steps.Places.{views, view_of, view_of_content}
use Rattle.mt_tree.specs.Borders.{layer_walk, DraftView}
use Rattle.mt_tree.specs.declared.place.Place.{Place}
use Rattle.mt_tree.specs.declared.place.Content.{Content}

-- ---- keys below keys
pub all_back : {X : Type 0} (P : X → Type 0) (xs ys : List X) → AllByRecursion P (xs ++ ys) → AllByRecursion P ys
all_back P [] ys h = h
all_back P (x ∷ xs) ys h = all_back P xs ys h.1

pub all_front : {X : Type 0} (P : X → Type 0) (xs ys : List X) → AllByRecursion P (xs ++ ys) → AllByRecursion P xs
all_front P [] ys h = tt
all_front P (x ∷ xs) ys h = (h.0, all_front P xs ys h.1)

pub all_weaker : {X : Type 0} (P Q : X → Type 0) → ((x : X) → P x → Q x) → (xs : List X) → AllByRecursion P xs → AllByRecursion Q xs
all_weaker P Q f [] h = tt
all_weaker P Q f (x ∷ xs) h = (f x h.0, all_weaker P Q f xs h.1)

pub all_append : {X : Type 0} (P : X → Type 0) (xs ys : List X) → AllByRecursion P xs → AllByRecursion P ys → AllByRecursion P (xs ++ ys)
all_append P [] ys h k = k
all_append P (x ∷ xs) ys h k = (h.0, all_append P xs ys h.1 k)

pub below_first : (v w w' : List Pair) → AllKeysBelow v (w ++ w') → AllKeysBelow v w
below_first v w w' h = all_weaker (λ p. AllByRecursion (λ q. IsBelow p.0 q.0) (w ++ w')) (λ p. AllByRecursion (λ q. IsBelow p.0 q.0) w) (λ p k. all_front (λ q. IsBelow p.0 q.0) w w' k) v h

one_unprefixed : (b : List ℕ) (key : List ℕ) (w : List Pair) → AllByRecursion (λ q. IsBelow (b ++ key) q.0) (put_before b w) → AllByRecursion (λ q. IsBelow key q.0) w
one_unprefixed b key [] h = tt
one_unprefixed b key (q ∷ w) h = (below-unprefixed b key q.0 h.0, one_unprefixed b key w h.1)

pub below_unprefixed : (b : List ℕ) (v w : List Pair) → AllKeysBelow (put_before b v) (put_before b w) → AllKeysBelow v w
below_unprefixed b [] w h = tt
below_unprefixed b (p ∷ v) w h = (one_unprefixed b p.0 w h.0, below_unprefixed b v w h.1)

-- ---- the rank of a place is that of its keys
record FirstPair (w : List Pair) (rank : ℕ) : Type 0 where
  key : List ℕ
  columns : List (ℕ × List ℕ)
  rest : List Pair
  is : w ≡ (key, columns) ∷ rest
  bytes : AreBytes (take 8 key)
  ranks : key_rank key ≡ rank

-- a key longer than 8 bytes that begins with the bytes of a slice
pub long_bytes : (s : ℕ) (t : List ℕ) → s < 2 ^ 64 → AreBytes (take 8 (slice_bytes s ++ t))
long_bytes s t h = subst AreBytes (sym (take_at (slice_bytes s) t 8 (slice_bytes-length s))) (slice_bytes-bytes s h)

pub long_rank : (s : ℕ) (t : List ℕ) → s < 2 ^ 64 → 0 < length t → key_rank (slice_bytes s ++ t) ≡ s * 10 + 9
long_rank s t h some = omega (arith, slice_in-append s t h, length-append (slice_bytes s) t, slice_bytes-length s)

first_pair : (p : PlaceView) → IsPlace p → FirstPair (pairs_at p) (rank_at p)
first_pair (short s l c) h =
    let below : s < 2 ^ 64 = h.0 in
    let fits : l ≤ 8 = h.1 in
    let len : length (take l (slice_bytes s)) ≡ l = length-take-le l (slice_bytes s) (omega (arith, slice_bytes-length s)) in
    record {
      key = take l (slice_bytes s);
      columns = c;
      rest = [];
      is = refl;
      bytes = bytes_take 8 _ (bytes_take l _ (slice_bytes-bytes s below));
      ranks = omega (arith, slice_in-take s l below h.2, len);
    }
first_pair (long s t c) h = record { key = slice_bytes s ++ t; columns = c; rest = []; is = refl; bytes = long_bytes s t h.0; ranks = long_rank s t h.0 h.1 }
first_pair (link s []) h = absurd (let two : 2 ≤ 0 = h.1 in omega arith)
first_pair (link s (p ∷ w)) h = record { key = slice_bytes s ++ p.0; columns = p.1; rest = put_before (slice_bytes s) w; is = refl; bytes = long_bytes s p.0 h.0; ranks = long_rank s p.0 h.0 h.2.0 }

-- if all keys of one place are below those of another, the two places rise or meet
pub ranks_seam : (p q : PlaceView) → IsPlace p → IsPlace q → AllKeysBelow (pairs_at p) (pairs_at q) → (rank_at p < rank_at q) ⊎ Meet p q
ranks_seam p q hp hq below = by (first_pair p hp) (first_pair q hq)
  where
    decide : (x y : List ℕ) → key_rank x ≡ rank_at p → key_rank y ≡ rank_at q → (key_rank x < key_rank y) ⊎ IsBelowAt x y → (rank_at p < rank_at q) ⊎ Meet p q
    decide x y e f (inl h) = inl (omega arith)
    decide x y e f (inr h) =
        let same : key_rank x ≡ key_rank y = h.same_rank in
        let above : 8 < length x = h.long in
        let lp = length_at-le p hp in
        let lq = length_at-le q hq in
        inr (omega arith, omega arith, omega arith)

    by : FirstPair (pairs_at p) (rank_at p) → FirstPair (pairs_at q) (rank_at q) → (rank_at p < rank_at q) ⊎ Meet p q
    by f g =
        let less : IsBelow f.key g.key = (subst (λ w. AllKeysBelow ((f.key, f.columns) ∷ f.rest) w) g.is (subst (λ v. AllKeysBelow v (pairs_at q)) f.is below)).0.0 in
        decide f.key g.key f.ranks g.ranks (ranks_of_less f.key g.key f.bytes g.bytes less)

-- ---- layers
-- the last place may be replaced by one of its rank or a higher one, and what follows that
pub layer_seam : (low : ℕ) (xs : List PlaceView) (p q : PlaceView) (ys : List PlaceView) → IsLayerFrom low (xs ++ p ∷ []) → IsPlace q → rank_at p ≤ rank_at q → IsLayerFrom (suc (rank_at q)) ys → IsLayerFrom low (xs ++ q ∷ ys)
layer_seam low [] p q ys h k le rest = let from : low ≤ rank_at p = h.1 in (k, omega arith, rest)
layer_seam low (x ∷ xs) p q ys h k le rest = (h.0, h.1, layer_seam (suc (rank_at x)) xs p q ys h.2 k le rest)

pub last_place : (low : ℕ) (xs : List PlaceView) (p : PlaceView) → IsLayerFrom low (xs ++ p ∷ []) → IsPlace p
last_place low [] p h = h.0
last_place low (x ∷ xs) p h = last_place (suc (rank_at x)) xs p h.2

-- ---- the seam of two layers of places
views-append : (xs ys : List (Place DraftView)) → views layer_walk (xs ++ ys) ≡ views layer_walk xs ++ views layer_walk ys
views-append = map-append (view_of layer_walk)

-- two layers, the first's keys below the second's: the first ends with the place p, the second begins with the place q
pub record Seam (xs : List (Place DraftView)) (p q : Place DraftView) (ys : List (Place DraftView)) : Type 0 where
  pub left : IsRanked (views layer_walk (xs ++ p ∷ []))
  pub right : IsRanked (views layer_walk (q ∷ ys))
  pub below : AllKeysBelow (walk (views layer_walk (xs ++ p ∷ []))) (walk (views layer_walk (q ∷ ys)))

module _ (xs : List (Place DraftView)) (p q : Place DraftView) (ys : List (Place DraftView)) (s : Seam xs p q ys) where
  left_layer : IsRanked (views layer_walk xs ++ view_of layer_walk p ∷ [])
  left_layer = subst IsRanked (views-append xs (p ∷ [])) s.left

  pub last_lawful : IsPlace (view_of layer_walk p)
  last_lawful = last_place 0 (views layer_walk xs) (view_of layer_walk p) left_layer

  pub first_lawful : IsPlace (view_of layer_walk q)
  first_lawful = s.right.0

  left_walk : walk (views layer_walk (xs ++ p ∷ [])) ≡ walk (views layer_walk xs) ++ pairs_at (view_of layer_walk p)
  left_walk = ap walk (views-append xs (p ∷ [])) ∙ walk-append (views layer_walk xs) (view_of layer_walk p ∷ []) ∙ ap (λ w. walk (views layer_walk xs) ++ w) (append-nil (pairs_at (view_of layer_walk p)))

  pub below_at_seam : AllKeysBelow (pairs_at (view_of layer_walk p)) (pairs_at (view_of layer_walk q))
  below_at_seam =
      below_first (pairs_at (view_of layer_walk p)) (pairs_at (view_of layer_walk q)) (walk (views layer_walk ys))
      (all_back _ (walk (views layer_walk xs)) (pairs_at (view_of layer_walk p)) (subst (λ v. AllKeysBelow v (walk (views layer_walk (q ∷ ys)))) left_walk s.below))

  -- if they do not meet, both places stay as they are
  pub apart_layer : (Meet (view_of layer_walk p) (view_of layer_walk q) → ⊥) → IsRanked (views layer_walk (xs ++ p ∷ q ∷ ys))
  apart_layer apart = subst IsRanked (sym (views-append xs (p ∷ q ∷ ys))) (by (ranks_seam (view_of layer_walk p) (view_of layer_walk q) last_lawful first_lawful below_at_seam))
    where
      by : (rank_at (view_of layer_walk p) < rank_at (view_of layer_walk q)) ⊎ Meet (view_of layer_walk p) (view_of layer_walk q) → IsRanked (views layer_walk xs ++ view_of layer_walk p ∷ view_of layer_walk q ∷ views layer_walk ys)
      by (inl h) = layer_seam 0 (views layer_walk xs) (view_of layer_walk p) (view_of layer_walk p) (view_of layer_walk q ∷ views layer_walk ys) left_layer last_lawful (omega arith) (first_lawful, h, s.right.2)
      by (inr m) = absurd (apart m)

  -- if they meet, one place replaces both
  pub merged_layer : (m : Place DraftView) → Meet (view_of layer_walk p) (view_of layer_walk q) → IsPlace (view_of layer_walk m) → rank_at (view_of layer_walk m) ≡ rank_at (view_of layer_walk p) → IsRanked (views layer_walk (xs ++ m ∷ ys))
  merged_layer m meet lawful same =
      let e : slice_at (view_of layer_walk p) ≡ slice_at (view_of layer_walk q) = meet.0 in
      let f : length_at (view_of layer_walk p) ≡ 9 = meet.1 in
      let g : length_at (view_of layer_walk q) ≡ 9 = meet.2 in
      let ranks : rank_at (view_of layer_walk q) ≡ rank_at (view_of layer_walk m) = omega arith in
      subst IsRanked (sym (views-append xs (m ∷ ys))) (layer_seam 0 (views layer_walk xs) (view_of layer_walk p) (view_of layer_walk m) (views layer_walk ys) left_layer lawful (omega arith) (subst (λ r. IsLayerFrom (suc r) (views layer_walk ys)) ranks s.right.2))

  -- the last place is no heavier than its layer
  pub last_weight : weight (pairs_at (view_of layer_walk p)) ≤ weight (walk (views layer_walk (xs ++ p ∷ [])))
  last_weight = omega (arith, ap weight left_walk, weight-append (walk (views layer_walk xs)) (pairs_at (view_of layer_walk p)))

-- a list is the first element that was taken from it, and the rest
pub first_removed : {X : Type 0} (xs : List X) (x : X) (rest : List X) → 0 < length xs → x ≡ get_or xs 0 x → rest ≡ remove xs 0 → xs ≡ x ∷ rest
first_removed [] x rest h e f = absurd (omega arith)
first_removed (y ∷ ys) x rest h e f = λ i. sym e i ∷ sym f i

pub put_before-append : (b : List ℕ) (v w : List Pair) → put_before b (v ++ w) ≡ put_before b v ++ put_before b w
put_before-append b v w = map-append (λ p. (b ++ p.0, p.1)) v w

-- pairs are lighter than the same pairs with 8 bytes put before each key
pub below_lighter : (b : List ℕ) (w : List Pair) → length b ≡ 8 → 0 < length w → weight w < weight (put_before b w)
below_lighter b w e h =
    let eight : length b * length w ≡ 8 * length w = ap (λ n. n * length w) e in
    omega (arith, weight-put_before b w, eight)

slice_content : (s : ℕ) (c : Content DraftView) → slice_at (view_of_content layer_walk s c) ≡ s
slice_content s (Short l c) = refl
slice_content s (Suffix t c) = refl
slice_content s (Link l) = refl

pub slice_at-draft : (p : Place DraftView) → slice_at (view_of layer_walk p) ≡ p.slice
slice_at-draft p = slice_content p.slice p.content

pub slice_at-lt : (p : PlaceView) → IsPlace p → slice_at p < 2 ^ 64
slice_at-lt (short s l c) h = h.0
slice_at-lt (long s t c) h = h.0
slice_at-lt (link s w) h = h.0

-- the walks below two places that meet, and the joined walk
pub record Merging (p q : Place DraftView) (upper lower joined : List Pair) : Type 0 where
  pub meet : Meet (view_of layer_walk p) (view_of layer_walk q)
  pub upper_is : put_before (slice_bytes p.slice) upper ≡ pairs_at (view_of layer_walk p)
  pub upper_some : 0 < length upper
  pub lower_some : 0 < length lower
  pub upper_keys : HasNoEmptyKey upper
  pub lower_keys : HasNoEmptyKey lower
  pub is : joined ≡ upper ++ lower

pub same_slice : (p q : Place DraftView) → Meet (view_of layer_walk p) (view_of layer_walk q) → p.slice ≡ q.slice
same_slice p q meet = sym (slice_at-draft p) ∙ meet.0 ∙ slice_at-draft q

module _ (p q : Place DraftView) (upper lower joined : List Pair) (m : Merging p q upper lower joined) where
  pub merged_lawful : IsPlace (view_of layer_walk p) → IsPlace (link p.slice joined)
  merged_lawful h =
      let low : p.slice < 2 ^ 64 = subst (λ s. s < 2 ^ 64) (slice_at-draft p) (slice_at-lt (view_of layer_walk p) h) in
      let two : 2 ≤ length joined = omega (arith, ap (λ (w : List Pair). length w) m.is, length-append upper lower, m.upper_some, m.lower_some) in
      (low, two, subst HasNoEmptyKey (sym m.is) (all_append _ upper lower m.upper_keys m.lower_keys))

  pub merged_rank : rank_at (link p.slice joined) ≡ rank_at (view_of layer_walk p)
  merged_rank = let e : length_at (view_of layer_walk p) ≡ 9 = m.meet.1 in omega (arith, slice_at-draft p, e)

-- if two places meet, the keys below the first are below the keys below the second
pub below_shared : (p q : Place DraftView) (upper lower : List Pair) → Meet (view_of layer_walk p) (view_of layer_walk q) → put_before (slice_bytes p.slice) upper ≡ pairs_at (view_of layer_walk p) → put_before (slice_bytes q.slice) lower ≡ pairs_at (view_of layer_walk q)
    → AllKeysBelow (pairs_at (view_of layer_walk p)) (pairs_at (view_of layer_walk q)) → AllKeysBelow upper lower
below_shared p q upper lower meet eu el below =
    below_unprefixed (slice_bytes p.slice) upper lower
    (subst (λ s. AllKeysBelow (put_before (slice_bytes p.slice) upper) (put_before (slice_bytes s) lower)) (sym (same_slice p q meet))
    (subst (λ w. AllKeysBelow (put_before (slice_bytes p.slice) upper) w) (sym el) (subst (λ w. AllKeysBelow w (pairs_at (view_of layer_walk q))) (sym eu) below)))

-- in a rising walk, the keys before a pair are below its key
pub rising_middle : (v : List Pair) (p : Pair) (w : List Pair) → KeysRise (v ++ p ∷ w) → AllKeysBelow v (p ∷ [])
rising_middle [] p w h = tt
rising_middle (x ∷ v) p w h = (((all_back _ v (p ∷ w) h.0).0, tt), rising_middle v p w h.1)

-- the front of a rising walk rises
pub rising_front : (v w : List Pair) → KeysRise (v ++ w) → KeysRise v
rising_front [] w h = tt
rising_front (x ∷ v) w h = (all_front (λ q. IsBelow x.0 q.0) v w h.0, rising_front v w h.1)
