-- The number of trees that a layer needs, by its links.
use Rattle.std.proofs.Common.{◌≡◌, ◌≢◌, ℕ, zero, suc, ◌+◌, ◌-◌, ◌*◌, ◌^◌, ◌<◌, ◌≤◌, min, Bool, true, false, Option, Some, None, List, [], ◌∷◌, ◌++◌, length, take, drop, sym, refl, ap, ◌∙◌, subst, inl, inr, arith, append_assoc, length-append}
use Rattle.std.specs.Prelude.{Contains, nat_eq, nat_lt, ◌&&◌, sum_by, if◌then◌else◌}
use Rattle.std.specs.List.{AllByRecursion}
use Rattle.std.specs.Cmp.Lexicographic.{pointwise, bytes_decides}
use Rattle.std.proofs.lemmas.List.{append-nil, take_at, drop_at, take-append-drop, length-take, length-map}
use Rattle.std.proofs.lemmas.List.Sums.{sum_by-cons}
use Rattle.std.proofs.lemmas.Bool.{ltb-true, lt-ltb}
use Rattle.mt_words.specs.Slices.{slice_in, slice_bytes}
use Rattle.mt_tree.specs.Steps.Pairs.{key_rank}
use Rattle.mt_words.proofs.SliceBytes.{slice_bytes-bytes, slice_in-append, bytes_take}
use Rattle.mt_tree.proofs.Ranks.{less_of_ranks}
use Rattle.mt_words.proofs.SliceBytes.{slice_bytes-length}
use Rattle.mt_tree.specs.Layer.{PlaceView, short, long, link, pairs_at, put_before, walk, IsPlace, HasNoEmptyKey, linked_walks}
use Rattle.mt_tree.specs.Steps.Ranks.{rank_at, IsLayerFrom, IsRanked, ranked}
use Rattle.mt_words.specs.Walks.{Pair, joined}
use Rattle.mt_words.specs.Words.{IsBelow, AreRising}
use Rattle.mt_tree.specs.Layers.{under, lies_under, AreHeads, IsLayers, own_and_under, CountsLayers}
use Rattle.mt_tree.specs.Nodes.{NodeView, LayerView, places, IsLayerTree, IsTreeCount, AreLinked, each_borders, linked, unlinked, AreBelow}
use Rattle.mt_tree.specs.Trees.{tree_walk, tree_count, IsTree, HasLayers}
use Rattle.mt_tree.proofs.Finds.{pairs_rank}
use Rattle.mt_tree.proofs.Joins.{all_append, all_weaker, all_front, all_back}
use Rattle.mt_words.proofs.KeyOrder.{not_itself}
use Rattle.mt_tree.proofs.Uniques.{head_or_rest, below_all, later, same_sum}

-- the sum of the numbers of trees of these walks
abbrev SumsLayers : List (List Pair) → ℕ → Type 0
SumsLayers [] n = n ≡ 0
SumsLayers (w ∷ ws) n = (a : ℕ) × (b : ℕ) × IsLayers w a × SumsLayers ws b × (n ≡ a + b)

-- the sum of the numbers of trees below the links of these places
abbrev SumsLinks : List PlaceView → ℕ → Type 0
SumsLinks ps = SumsLayers (linked_walks ps)

-- ---- what lies under 8 bytes
under_step : (q : List ℕ) (p : Pair) (w : List Pair) (b : Bool) → lies_under q p.0 ≡ b → under q (p ∷ w) ≡ (elim b [ true ↦ (drop 8 p.0, p.1) ∷ under q w | false ↦ under q w ])
under_step q p w true e = rw e refl
under_step q p w false e = rw e refl

under-append : (q : List ℕ) (v w : List Pair) → under q (v ++ w) ≡ under q v ++ under q w
under-append q [] w = refl
under-append q (p ∷ v) w = by (under-append q v w) (lies_under q p.0) refl
  where
    by : under q (v ++ w) ≡ under q v ++ under q w → (b : Bool) → lies_under q p.0 ≡ b → under q (p ∷ (v ++ w)) ≡ under q (p ∷ v) ++ under q w
    by rest true e = rw e (ap (λ (z : List Pair). (drop 8 p.0, p.1) ∷ z) rest)
    by rest false e = rw e rest

-- a key that lies under 8 bytes begins with them and is longer
pub record LiesUnder (q k : List ℕ) : Type 0 where
  pub longer : 8 < length k
  pub same : q ≡ take 8 k

lies_under_is : (q k : List ℕ) → lies_under q k ≡ true → LiesUnder q k
lies_under_is q k e = by (nat_lt 8 (length k)) (pointwise nat_eq q (take 8 k)) refl refl e
  where
    by : (a b : Bool) → nat_lt 8 (length k) ≡ a → pointwise nat_eq q (take 8 k) ≡ b → (a && b) ≡ true → LiesUnder q k
    by true true f g h = record { longer = ltb-true 8 (length k) f; same = (bytes_decides q (take 8 k)).0 g }
    by true false f g h = cc
    by false b f g h = cc

-- a key that lies under the bytes of a slice has the rank of the slice's longer keys
rank_of_long : (k : List ℕ) (s : ℕ) → s < 2 ^ 64 → LiesUnder (slice_bytes s) k → key_rank k ≡ s * 10 + 9
rank_of_long k s h u =
    let long : 8 < length k = u.longer in
    let whole : slice_bytes s ++ drop 8 k ≡ k = ap (λ (z : List ℕ). z ++ drop 8 k) u.same ∙ take-append-drop 8 k in
    let slice : slice_in k ≡ s = sym (ap slice_in whole) ∙ slice_in-append s (drop 8 k) h in
    omega arith

under_missed : (s : ℕ) (w : List Pair) → s < 2 ^ 64 → AllByRecursion (λ p. key_rank p.0 ≢ s * 10 + 9) w → under (slice_bytes s) w ≡ []
under_missed s [] h n = refl
under_missed s (p ∷ w) h n = by (under_missed s w h n.1) (lies_under (slice_bytes s) p.0) refl
  where
    by : under (slice_bytes s) w ≡ [] → (b : Bool) → lies_under (slice_bytes s) p.0 ≡ b → under (slice_bytes s) (p ∷ w) ≡ []
    by rest true e = absurd (n.0 (rank_of_long p.0 s h (lies_under_is (slice_bytes s) p.0 e)))
    by rest false e = rw e rest

under_here : (q t : List ℕ) → length q ≡ 8 → 0 < length t → lies_under q (q ++ t) ≡ true
under_here q t e some =
    let long : 8 < length (q ++ t) = omega (arith, length-append q t) in
    let first : nat_lt 8 (length (q ++ t)) ≡ true = lt-ltb 8 (length (q ++ t)) long in
    let same : pointwise nat_eq q (take 8 (q ++ t)) ≡ true = (bytes_decides q (take 8 (q ++ t))).1 (sym (take_at q t 8 e)) in
    rw (first, same) refl

under_hit : (q : List ℕ) (w : List Pair) → length q ≡ 8 → HasNoEmptyKey w → under q (put_before q w) ≡ w
under_hit q [] e h = refl
under_hit q (p ∷ w) e h =
    under_step q (q ++ p.0, p.1) (put_before q w) true (under_here q p.0 e h.0)
    ∙ (λ i. (drop_at q p.0 8 e i, p.1) ∷ under_hit q w e h.1 i)

-- under other 8 bytes lies none of these pairs
under_other : (q r : List ℕ) (w : List Pair) → length q ≡ 8 → (r ≡ q → ⊥) → under r (put_before q w) ≡ []
under_other q r [] e n = refl
under_other q r (p ∷ w) e n = by (under_other q r w e n) (lies_under r (q ++ p.0)) refl
  where
    by : under r (put_before q w) ≡ [] → (b : Bool) → lies_under r (q ++ p.0) ≡ b → under r (put_before q (p ∷ w)) ≡ []
    by rest true f = absurd (n ((lies_under_is r (q ++ p.0) f).same ∙ take_at q p.0 8 e))
    by rest false f = rw f rest

-- ---- ranks of a layer's pairs
abbrev RanksBelow : ℕ → List Pair → Type 0
RanksBelow r = AllByRecursion (λ p. key_rank p.0 < r)

abbrev RanksFrom : ℕ → List Pair → Type 0
RanksFrom r = AllByRecursion (λ p. r ≤ key_rank p.0)

pub walk_ranks : (low : ℕ) (ps : List PlaceView) → IsLayerFrom low ps → RanksFrom low (walk ps)
walk_ranks low [] h = tt
walk_ranks low (p ∷ ps) h =
    let le : low ≤ rank_at p = h.1 in
    all_append (λ q. low ≤ key_rank q.0) (pairs_at p) (walk ps)
    (all_weaker (λ q. key_rank q.0 ≡ rank_at p) (λ q. low ≤ key_rank q.0) (λ q e. omega arith) (pairs_at p) (pairs_rank p h.0))
    (all_weaker (λ q. suc (rank_at p) ≤ key_rank q.0) (λ q. low ≤ key_rank q.0) (λ q e. omega arith) (walk ps) (walk_ranks (suc (rank_at p)) ps h.2))

-- ---- the heads of a layer are its links' slices
abbrev pub heads_at : List PlaceView → List (List ℕ)
heads_at [] = []
heads_at (short s l c ∷ ps) = heads_at ps
heads_at (long s t c ∷ ps) = heads_at ps
heads_at (link s w ∷ ps) = slice_bytes s ∷ heads_at ps

-- under each link's slice lies its walk
abbrev Serves : List Pair → List PlaceView → Type 0
Serves v [] = Unit {0}
Serves v (short s l c ∷ ps) = Serves v ps
Serves v (long s t c ∷ ps) = Serves v ps
Serves v (link s w ∷ ps) = (under (slice_bytes s) v ≡ w) × Serves v ps

none_before : (s low : ℕ) (v : List Pair) → s < 2 ^ 64 → low ≤ s * 10 + 9 → RanksBelow low v → under (slice_bytes s) v ≡ []
none_before s low v h le b = under_missed s v h (all_weaker (λ p. key_rank p.0 < low) (λ p. key_rank p.0 ≢ s * 10 + 9) (λ p lt e. omega arith) v b)

none_after : (s low : ℕ) (ps : List PlaceView) → s < 2 ^ 64 → s * 10 + 9 < low → IsLayerFrom low ps → under (slice_bytes s) (walk ps) ≡ []
none_after s low ps h lt f = under_missed s (walk ps) h (all_weaker (λ p. low ≤ key_rank p.0) (λ p. key_rank p.0 ≢ s * 10 + 9) (λ p le e. omega arith) (walk ps) (walk_ranks low ps f))

ranks_more : (low : ℕ) (v : List Pair) (p : PlaceView) → IsPlace p → low ≤ rank_at p → RanksBelow low v → RanksBelow (suc (rank_at p)) (v ++ pairs_at p)
ranks_more low v p h le b =
    all_append (λ q. key_rank q.0 < suc (rank_at p)) v (pairs_at p)
    (all_weaker (λ q. key_rank q.0 < low) (λ q. key_rank q.0 < suc (rank_at p)) (λ q lt. omega arith) v b)
    (all_weaker (λ q. key_rank q.0 ≡ rank_at p) (λ q. key_rank q.0 < suc (rank_at p)) (λ q e. omega arith) (pairs_at p) (pairs_rank p h))

serves : (low : ℕ) (v : List Pair) (ps : List PlaceView) → IsLayerFrom low ps → RanksBelow low v → Serves (v ++ walk ps) ps
serves low v [] h b = tt
serves low v (short s l c ∷ ps) h b =
    subst (λ (z : List Pair). Serves z ps) (append_assoc v (pairs_at (short s l c)) (walk ps)) (serves (suc (s * 10 + l)) (v ++ pairs_at (short s l c)) ps h.2 (ranks_more low v (short s l c) h.0 h.1 b))
serves low v (long s t c ∷ ps) h b =
    subst (λ (z : List Pair). Serves z ps) (append_assoc v (pairs_at (long s t c)) (walk ps)) (serves (suc (s * 10 + 9)) (v ++ pairs_at (long s t c)) ps h.2 (ranks_more low v (long s t c) h.0 h.1 b))
serves low v (link s w ∷ ps) h b =
    let q = slice_bytes s in
    let here : under q (v ++ (put_before q w ++ walk ps)) ≡ w =
    under-append q v (put_before q w ++ walk ps)
    ∙ ap (λ (z : List Pair). z ++ under q (put_before q w ++ walk ps)) (none_before s low v h.0.0 h.1 b)
    ∙ under-append q (put_before q w) (walk ps)
    ∙ (λ i. under_hit q w (slice_bytes-length s) h.0.2 i ++ none_after s (suc (s * 10 + 9)) ps h.0.0 (omega arith) h.2 i)
    ∙ append-nil w in
    (here, subst (λ (z : List Pair). Serves z ps) (append_assoc v (put_before q w) (walk ps)) (serves (suc (s * 10 + 9)) (v ++ put_before q w) ps h.2 (ranks_more low v (link s w) h.0 h.1 b)))

-- ---- the heads rise
rank_of_slice : (s : ℕ) → s < 2 ^ 64 → key_rank (slice_bytes s) ≡ s * 10 + 8
rank_of_slice s h =
    let slice : slice_in (slice_bytes s) ≡ s = ap slice_in (sym (append-nil (slice_bytes s))) ∙ slice_in-append s [] h in
    omega (arith, slice_bytes-length s)

slices_below : (s r : ℕ) → s < 2 ^ 64 → r < 2 ^ 64 → s < r → IsBelow (slice_bytes s) (slice_bytes r)
slices_below s r h k lt =
    less_of_ranks (slice_bytes s) (slice_bytes r) (bytes_take 8 (slice_bytes s) (slice_bytes-bytes s h)) (bytes_take 8 (slice_bytes r) (slice_bytes-bytes r k)) (omega (arith, rank_of_slice s h, rank_of_slice r k))

heads_above : (s low : ℕ) (ps : List PlaceView) → s < 2 ^ 64 → s * 10 + 9 < low → IsLayerFrom low ps → AllByRecursion (IsBelow (slice_bytes s)) (heads_at ps)
heads_above s low [] h lt f = tt
heads_above s low (short r l c ∷ ps) h lt f = heads_above s (suc (r * 10 + l)) ps h (let le : low ≤ r * 10 + l = f.1 in omega arith) f.2
heads_above s low (long r t c ∷ ps) h lt f = heads_above s (suc (r * 10 + 9)) ps h (let le : low ≤ r * 10 + 9 = f.1 in omega arith) f.2
heads_above s low (link r w ∷ ps) h lt f =
    let le : low ≤ r * 10 + 9 = f.1 in
    (slices_below s r h f.0.0 (omega arith), heads_above s (suc (r * 10 + 9)) ps h (omega arith) f.2)

heads_rise : (low : ℕ) (ps : List PlaceView) → IsLayerFrom low ps → AreRising (heads_at ps)
heads_rise low [] f = tt
heads_rise low (short r l c ∷ ps) f = heads_rise (suc (r * 10 + l)) ps f.2
heads_rise low (long r t c ∷ ps) f = heads_rise (suc (r * 10 + 9)) ps f.2
heads_rise low (link r w ∷ ps) f = (heads_above r (suc (r * 10 + 9)) ps f.0.0 (omega arith) f.2, heads_rise (suc (r * 10 + 9)) ps f.2)

-- ---- there are no other heads
has_two : (low : ℕ) (v : List Pair) (ps : List PlaceView) (q : List ℕ) → IsLayerFrom low ps → Serves v ps → Contains (heads_at ps) q → 2 ≤ length (under q v)
has_two low v [] q h e m = absurd (let lt = m.1 in omega arith)
has_two low v (short s l c ∷ ps) q h e m = has_two (suc (s * 10 + l)) v ps q h.2 e m
has_two low v (long s t c ∷ ps) q h e m = has_two (suc (s * 10 + 9)) v ps q h.2 e m
has_two low v (link s w ∷ ps) q h e (zero, lt, same) =
    let two : 2 ≤ length w = h.0.1 in
    let is : under q v ≡ w = ap (λ (z : List ℕ). under z v) (sym same) ∙ e.0 in
    rw is two
has_two low v (link s w ∷ ps) q h e (suc k, lt, same) = has_two (suc (s * 10 + 9)) v ps q h.2 e.1 (k, omega arith, same)

is_head : (low : ℕ) (ps : List PlaceView) (q : List ℕ) → IsLayerFrom low ps → 2 ≤ length (under q (walk ps)) → Contains (heads_at ps) q
is_head low [] q h two = absurd (omega arith)
is_head low (short s l c ∷ ps) q h two = by (is_head (suc (s * 10 + l)) ps q h.2) (lies_under q (take l (slice_bytes s))) refl
  where
    by : (2 ≤ length (under q (walk ps)) → Contains (heads_at ps) q) → (b : Bool) → lies_under q (take l (slice_bytes s)) ≡ b → Contains (heads_at ps) q
    by rest true e = let long : 8 < length (take l (slice_bytes s)) = (lies_under_is q (take l (slice_bytes s)) e).longer in absurd (omega (arith, length-take l (slice_bytes s), slice_bytes-length s))
    by rest false e = rest (rw e at two)
is_head low (long s t c ∷ ps) q h two = by (is_head (suc (s * 10 + 9)) ps q h.2) (lies_under q (slice_bytes s ++ t)) refl
  where
    by : (2 ≤ length (under q (walk ps)) → Contains (heads_at ps) q) → (b : Bool) → lies_under q (slice_bytes s ++ t) ≡ b → Contains (heads_at ps) q
    by rest true e =
        let same : q ≡ slice_bytes s = (lies_under_is q (slice_bytes s ++ t) e).same ∙ take_at (slice_bytes s) t 8 (slice_bytes-length s) in
        let none : under q (walk ps) ≡ [] = ap (λ (z : List ℕ). under z (walk ps)) same ∙ none_after s (suc (s * 10 + 9)) ps h.0.0 (omega arith) h.2 in
        let few : 2 ≤ suc (length (under q (walk ps))) = rw e at two in
        absurd (omega (arith, ap (λ (z : List Pair). length z) none))
    by rest false e = rest (rw e at two)
is_head low (link s w ∷ ps) q h two = by (is_head (suc (s * 10 + 9)) ps q h.2) (pointwise nat_eq q (slice_bytes s)) refl
  where
    by : (2 ≤ length (under q (walk ps)) → Contains (heads_at ps) q) → (b : Bool) → pointwise nat_eq q (slice_bytes s) ≡ b → Contains (slice_bytes s ∷ heads_at ps) q
    by rest true e = (0, omega arith, sym ((bytes_decides q (slice_bytes s)).0 e))
    by rest false e =
        let other : q ≡ slice_bytes s → ⊥ = λ f. let t : pointwise nat_eq q (slice_bytes s) ≡ true = (bytes_decides q (slice_bytes s)).1 f in (cc) in
        let tail : under q (put_before (slice_bytes s) w ++ walk ps) ≡ under q (walk ps) =
        under-append q (put_before (slice_bytes s) w) (walk ps) ∙ ap (λ (z : List Pair). z ++ under q (walk ps)) (under_other (slice_bytes s) q w (slice_bytes-length s) other) in
        later (slice_bytes s) (heads_at ps) q (rest (subst (λ (z : List Pair). 2 ≤ length z) tail two))

pub are_heads : (ps : List PlaceView) → IsRanked ps → AreHeads (walk ps) (heads_at ps)
are_heads ps h = record {
  rising = heads_rise 0 ps h;
  each = λ q. (λ m. has_two 0 (walk ps) ps q h (serves 0 [] ps h tt) m, λ two. is_head 0 ps q h two);
}

-- ---- what lies under the heads has the trees of the links
-- `f`, but `a` at `q`
abbrev with_at : List ℕ → ℕ → (List ℕ → ℕ) → List ℕ → ℕ
with_at q a f r = if pointwise nat_eq r q then a else f r

at_it : (q : List ℕ) (a : ℕ) (f : List ℕ → ℕ) → with_at q a f q ≡ a
at_it q a f = rw ((bytes_decides q q).1 refl) refl

at_other : (q : List ℕ) (a : ℕ) (f : List ℕ → ℕ) (r : List ℕ) → IsBelow q r → with_at q a f r ≡ f r
at_other q a f r low = by (pointwise nat_eq r q) refl
  where
    by : (b : Bool) → pointwise nat_eq r q ≡ b → with_at q a f r ≡ f r
    by true e = absurd (not_itself q (subst (IsBelow q) ((bytes_decides r q).0 e) low))
    by false e = rw e refl

-- the number of trees of what lies under each head, and their sum
record HasTrees (v : List Pair) (qs : List (List ℕ)) (n : ℕ) : Type 0 where
  trees : List ℕ → ℕ
  each : (q : List ℕ) → Contains qs q → IsLayers (under q v) (trees q)
  sum : sum_by trees qs ≡ n

one_more : (v : List Pair) (q : List ℕ) (a : ℕ) (qs : List (List ℕ)) (n : ℕ) → AllByRecursion (IsBelow q) qs → IsLayers (under q v) a → HasTrees v qs n → HasTrees v (q ∷ qs) (a + n)
one_more v q a qs n above here more =
    let other : (r : List ℕ) → Contains qs r → with_at q a more.trees r ≡ more.trees r = λ r m. at_other q a more.trees r (below_all q qs r above m) in
    record {
      trees = with_at q a more.trees;
      each = λ r m. elim (head_or_rest q qs r m) [
        | inl e ↦ subst (λ (z : List ℕ). IsLayers (under z v) (with_at q a more.trees z)) e (subst (IsLayers (under q v)) (sym (at_it q a more.trees)) here)
        | inr n ↦ subst (IsLayers (under r v)) (sym (other r n)) (more.each r n)
      ];
      sum = omega (arith, sum_by-cons (with_at q a more.trees) q qs, at_it q a more.trees, same_sum qs (with_at q a more.trees) more.trees other, more.sum);
    }

trees_of : (low : ℕ) (v : List Pair) (ps : List PlaceView) (n : ℕ) → IsLayerFrom low ps → Serves v ps → SumsLinks ps n → HasTrees v (heads_at ps) n
trees_of low v [] n h e sums = record { trees = λ q. 0; each = λ q m. absurd (let lt = m.1 in omega arith); sum = sym sums }
trees_of low v (short s l c ∷ ps) n h e sums = trees_of (suc (s * 10 + l)) v ps n h.2 e sums
trees_of low v (long s t c ∷ ps) n h e sums = trees_of (suc (s * 10 + 9)) v ps n h.2 e sums
trees_of low v (link s w ∷ ps) n h e (a, b, here, rest, is) =
    let q = slice_bytes s in
    let more = trees_of (suc (s * 10 + 9)) v ps b h.2 e.1 rest in
    subst (HasTrees v (q ∷ heads_at ps)) (sym is) (one_more v q a (heads_at ps) b (heads_above s (suc (s * 10 + 9)) ps h.0.0 (omega arith) h.2) (subst (λ (z : List Pair). IsLayers z a) (sym e.0) here) more)

-- the number of trees of a layer, by its links
pub layers_are : (ps : List PlaceView) (n : ℕ) → IsRanked ps → SumsLinks ps n → IsLayers (walk ps) (n + 1)
layers_are ps n h s =
    let under_heads = trees_of 0 (walk ps) ps n h (serves 0 [] ps h tt) s in
    let is : 1 + sum_by under_heads.trees (heads_at ps) ≡ n + 1 = omega (arith, under_heads.sum) in
    subst (IsLayers (walk ps)) is (own_and_under (are_heads ps h) under_heads.each)

-- ---- sums
sums_linked : (ws : List (List Pair)) (ls : List (List (List PlaceView))) → AllByRecursion (λ l. IsRanked (joined l)) ls → AreLinked ws ls → SumsLayers ws (length ls)
sums_linked ws ls h unlinked = refl
sums_linked ws ls h (linked {layer = l} {walks = vs} {lower = lower} {layers = later} below rest) =
    let both = h.1 in (
      length lower + 1,
      length later,
      layers_are (joined l) (length lower) h.0 (sums_linked (linked_walks (joined l)) lower (all_front (λ l. IsRanked (joined l)) lower later both) below),
      sums_linked vs later (all_back (λ l. IsRanked (joined l)) lower later both) rest,
      omega (arith, length-append lower later),
    )

trees_layers : (ts : List LayerView) → AllByRecursion IsLayerTree ts → AllByRecursion (λ l. IsRanked (joined l)) (each_borders ts)
trees_layers [] h = tt
trees_layers (t ∷ ts) h = (ranked (joined t.borders) h.0.layer, trees_layers ts h.1)

sums_below : (ps : List PlaceView) (ts : List LayerView) → AreBelow ps ts → SumsLayers (linked_walks ps) (length ts)
sums_below ps ts h = subst (SumsLayers (linked_walks ps)) (length-map ts (λ t. t.borders)) (sums_linked (linked_walks ps) (each_borders ts) (trees_layers ts h.lawful) h.linked)

pub tree_layers : (t : Option NodeView) → IsTree t → IsLayers (tree_walk t) (tree_count t)
tree_layers None h = layers_are [] 0 tt refl
tree_layers (Some n) h = layers_are (places n) (length n.below) (ranked (places n) h.tree.layer) (sums_below (places n) n.below h.below)

-- the count of a tree is the number of trees of its walk
pub counted : (root t : Option NodeView) (layers : ℕ) → root ≡ t → IsTree root → HasLayers root layers → CountsLayers (tree_walk t) layers × HasLayers t layers
counted root t layers e h k =
    let lawful : IsTree t = subst IsTree e h in
    let count : HasLayers t layers = subst (λ (z : Option NodeView). HasLayers z layers) e k in
    (record { number = tree_count t; is = tree_layers t lawful; stops = count }, count)

-- the count of two lists of trees is the sum of their counts, capped
pub counted_more : (ts us : List LayerView) (x y z : ℕ) → IsTreeCount ts x → IsTreeCount us y → z ≡ min (x + y) (2 ^ 64 - 1) → IsTreeCount (ts ++ us) z
counted_more ts us x y z a b e = omega (arith, length-append ts us, a, b, e)
