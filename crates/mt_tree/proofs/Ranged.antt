-- Ranges of walks, part by part.
use Rattle.std.proofs.Common.{◌≡◌, ◌≢◌, ℕ, ◌+◌, ◌*◌, ◌<◌, ◌≤◌, Bool, true, false, List, [], ◌∷◌, ◌++◌, ◌^◌, length, take, drop, sym, refl, ap, ◌∙◌, inl, inr, ◌⊎◌, arith}
use Rattle.std.specs.Prelude.{filter, not}
use Rattle.std.specs.List.{AllByRecursion}
use Rattle.std.specs.Ordering.{nat_cmp, is_lt}
use Rattle.std.specs.Cmp.Lexicographic.{slice_cmp}
use Rattle.std.specs.declared.cmp.Ordering.TheVariants.{Less, Equal, Greater}
use Rattle.mt_words.specs.Slices.{AreBytes, slice_in, slice_bytes}
use Rattle.mt_tree.specs.Steps.Pairs.{key_rank}
use Rattle.mt_words.proofs.SliceBytes.{slice_cmp-append}
use Rattle.mt_words.proofs.SliceBytes.{bytes_take}
use Rattle.mt_tree.proofs.Ranks.{ranks_of_less, less_of_ranks, IsBelowAt}
use Rattle.std.proofs.lemmas.Bool.{cases_lt}
use Rattle.std.specs.Ordering.{ordering_reverse}
use Rattle.std.specs.Cmp.Lexicographic.{nat_list_cmp_total}
use Rattle.mt_words.proofs.SliceBytes.{slice_bytes-short}
use Rattle.mt_tree.proofs.Finds.{pairs_rank, link_ranks, long_is}
use Rattle.mt_tree.proofs.Orders.{pairs_bytes, link_bytes}
use Rattle.mt_tree.specs.Layer.{short, HasNoEmptyKey, PlaceView, put_before, pairs_at, IsPlace}
use Rattle.mt_tree.specs.Steps.Ranks.{rank_at}
use Rattle.mt_words.specs.Walks.{Pair}
use Rattle.mt_tree.specs.Steps.Edges.{HasBytes}
use Rattle.mt_tree.specs.Range.{from}
use Rattle.mt_tree.proofs.Joins.{all_weaker}

-- ---- pairs before and after the start
filter-append : {X : Type 0} (t : X → Bool) (xs ys : List X) → filter t (xs ++ ys) ≡ filter t xs ++ filter t ys
filter-append t [] ys = refl
filter-append t (x ∷ xs) ys = by (filter-append t xs ys) (t x) refl
  where
    by : filter t (xs ++ ys) ≡ filter t xs ++ filter t ys → (b : Bool) → t x ≡ b → filter t (x ∷ (xs ++ ys)) ≡ filter t (x ∷ xs) ++ filter t ys
    by rest true e = rw e (ap (λ z. x ∷ z) rest)
    by rest false e = rw e rest

pub from-append : (start : List ℕ) (v w : List Pair) → from start (v ++ w) ≡ from start v ++ from start w
from-append start v w = filter-append (λ p. not (is_lt (slice_cmp nat_cmp p.0 start))) v w

-- pairs before the start are left out
pub from_gone : (start : List ℕ) (w : List Pair) → AreBytes (take 8 start) → HasBytes w → AllByRecursion (λ p. key_rank p.0 < key_rank start) w → from start w ≡ []
from_gone start [] hs h l = refl
from_gone start (p ∷ w) hs h l =
    let less : is_lt (slice_cmp nat_cmp p.0 start) ≡ true = less_of_ranks p.0 start h.0 hs l.0 in
    rw less (from_gone start w hs h.1 l.1)

not_less : (start key : List ℕ) → AreBytes (take 8 start) → AreBytes (take 8 key) → key_rank start < key_rank key → is_lt (slice_cmp nat_cmp key start) ≡ false
not_less start key hs h l = by (slice_cmp nat_cmp key start) refl
  where
    absurd_less : (key_rank key < key_rank start) ⊎ IsBelowAt key start → ⊥
    absurd_less (inl m) = omega arith
    absurd_less (inr b) = let same : key_rank key ≡ key_rank start = b.same_rank in omega arith

    by : (o : _) → slice_cmp nat_cmp key start ≡ o → is_lt o ≡ false
    by Less e = absurd (absurd_less (ranks_of_less key start h hs (ap is_lt e)))
    by Equal e = refl
    by Greater e = refl

-- pairs after the start are kept
pub from_kept : (start : List ℕ) (w : List Pair) → AreBytes (take 8 start) → HasBytes w → AllByRecursion (λ p. key_rank start < key_rank p.0) w → from start w ≡ w
from_kept start [] hs h l = refl
from_kept start (p ∷ w) hs h l = rw (not_less start p.0 hs h.0 l.0) (ap (λ z. p ∷ z) (from_kept start w hs h.1 l.1))

-- each key is at or after the empty key
never_less : (k : List ℕ) → is_lt (slice_cmp nat_cmp k []) ≡ false
never_less [] = refl
never_less (b ∷ k) = refl

pub from_empty : (w : List Pair) → from [] w ≡ w
from_empty [] = refl
from_empty (p ∷ w) = rw (never_less p.0) (ap (λ z. p ∷ z) (from_empty w))

-- if the start and all keys begin with the same bytes, their rests decide
pub from_prefixed : (b rest : List ℕ) (w : List Pair) → from (b ++ rest) (put_before b w) ≡ put_before b (from rest w)
from_prefixed b rest [] = refl
from_prefixed b rest (p ∷ w) = by (from_prefixed b rest w) (is_lt (slice_cmp nat_cmp p.0 rest)) refl
  where
    step : is_lt (slice_cmp nat_cmp (b ++ p.0) (b ++ rest)) ≡ is_lt (slice_cmp nat_cmp p.0 rest)
    step = ap is_lt (slice_cmp-append b p.0 rest)

    by : from (b ++ rest) (put_before b w) ≡ put_before b (from rest w) → (c : Bool) → is_lt (slice_cmp nat_cmp p.0 rest) ≡ c → from (b ++ rest) (put_before b (p ∷ w)) ≡ put_before b (from rest (p ∷ w))
    by tail true e = rw (step ∙ e, e) tail
    by tail false e = rw (step ∙ e, e) (ap (λ z. (b ++ p.0, p.1) ∷ z) tail)

-- ---- parts of a place
-- a key is not below itself
never_itself : (k : List ℕ) → is_lt (slice_cmp nat_cmp k k) ≡ false
never_itself k = by (slice_cmp nat_cmp k k) refl
  where
    by : (o : _) → slice_cmp nat_cmp k k ≡ o → is_lt o ≡ false
    by Less e = absurd (let g : Less ≡ Greater = sym e ∙ nat_list_cmp_total.antisymm k k ∙ ap ordering_reverse e in cc)
    by Equal e = refl
    by Greater e = refl

one_kept : (start k : List ℕ) (c : List (ℕ × List ℕ)) → is_lt (slice_cmp nat_cmp k start) ≡ false → from start ((k, c) ∷ []) ≡ (k, c) ∷ []
one_kept start k c e = rw e refl

pub one_tested : (start k : List ℕ) (c : List (ℕ × List ℕ)) (b : Bool) → b ≡ not (is_lt (slice_cmp nat_cmp k start)) → from start ((k, c) ∷ []) ≡ (elim b [ true ↦ (k, c) ∷ [] | false ↦ [] ])
one_tested start k c b e = by (is_lt (slice_cmp nat_cmp k start)) refl
  where
    by : (a : Bool) → is_lt (slice_cmp nat_cmp k start) ≡ a → from start ((k, c) ∷ []) ≡ (elim b [ true ↦ (k, c) ∷ [] | false ↦ [] ])
    by true f = let g : b ≡ false = e ∙ ap not f in rw (f, g) refl
    by false f = let g : b ≡ true = e ∙ ap not f in rw (f, g) refl

module _ (start : List ℕ) (bytes : AreBytes start) where
  pub short_from : (s l : ℕ) (c : List (ℕ × List ℕ)) → IsPlace (short s l c) → key_rank start ≤ rank_at (short s l c) → from start (pairs_at (short s l c)) ≡ pairs_at (short s l c)
  short_from s l c h le = by (cases_lt (key_rank start) (s * 10 + l))
    where
      by : (key_rank start < s * 10 + l) ⊎ (s * 10 + l ≤ key_rank start) → from start (pairs_at (short s l c)) ≡ pairs_at (short s l c)
      by (inl lt) =
          let rank : key_rank (take l (slice_bytes s)) ≡ s * 10 + l = (pairs_rank (short s l c) h).0 in
          from_kept start (pairs_at (short s l c)) (bytes_take 8 start bytes) (pairs_bytes (short s l c) h) (omega arith, tt)
      by (inr ge) =
          let fits : l ≤ 8 = h.1 in
          let len : l ≡ length start = omega arith in
          let slice : s ≡ slice_in start = omega arith in
          let few : length start ≤ 8 = omega arith in
          let same : take l (slice_bytes s) ≡ start = rw (len, slice) (slice_bytes-short start few (bytes_take 8 start bytes)) in
          one_kept start (take l (slice_bytes s)) c (ap (λ (z : List ℕ). is_lt (slice_cmp nat_cmp z start)) same ∙ never_itself start)

  -- what lies below a place of longer keys: if the start has its place there, its rest decides; otherwise all pairs are kept
  pub below_from : (s : ℕ) (w : List Pair) (rest : List ℕ) → s < 2 ^ 64 → HasNoEmptyKey w → key_rank start ≤ s * 10 + 9 → (s * 10 + 9 ≡ key_rank start → rest ≡ drop 8 start) → (s * 10 + 9 ≢ key_rank start → rest ≡ [])
      → from start (put_before (slice_bytes s) w) ≡ put_before (slice_bytes s) (from rest w)
  below_from s w rest h some le here past = by (cases_lt (key_rank start) (s * 10 + 9))
    where
      by : (key_rank start < s * 10 + 9) ⊎ (s * 10 + 9 ≤ key_rank start) → from start (put_before (slice_bytes s) w) ≡ put_before (slice_bytes s) (from rest w)
      by (inl lt) =
          let ranks = all_weaker (λ p. key_rank p.0 ≡ s * 10 + 9) (λ p. key_rank start < key_rank p.0) (λ p e. omega arith) (put_before (slice_bytes s) w) (link_ranks s w h some) in
          let none : rest ≡ [] = past (λ e. omega arith) in
          from_kept start (put_before (slice_bytes s) w) (bytes_take 8 start bytes) (link_bytes s w h) ranks
          ∙ ap (put_before (slice_bytes s)) (sym (from_empty w) ∙ ap (λ (z : List ℕ). from z w) (sym none))
      by (inr ge) =
          let same : s * 10 + 9 ≡ key_rank start = omega arith in
          let whole : start ≡ slice_bytes s ++ rest = (long_is start s bytes same).1 ∙ ap (λ (z : List ℕ). slice_bytes s ++ z) (sym (here same)) in
          ap (λ (z : List ℕ). from z (put_before (slice_bytes s) w)) whole ∙ from_prefixed (slice_bytes s) rest w

  pub place_gone : (p : PlaceView) → IsPlace p → rank_at p < key_rank start → from start (pairs_at p) ≡ []
  place_gone p h lt = from_gone start (pairs_at p) (bytes_take 8 start bytes) (pairs_bytes p h)
      (all_weaker (λ q. key_rank q.0 ≡ rank_at p) (λ q. key_rank q.0 < key_rank start) (λ q e. omega arith) (pairs_at p) (pairs_rank p h))
