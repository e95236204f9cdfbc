-- The rank of a place. Places that rise by slice, then by length, rise by rank.
use Rattle.std.specs.Prelude.{ℕ, suc, ◌+◌, ◌*◌, ◌<◌, ◌≤◌, List, [], ◌∷◌, ◌⊎◌, ⊤}
use Rattle.std.specs.List.{AllByRecursion}
use Rattle.std.proofs.Common.{arith, inl, inr}
use Rattle.std.proofs.lemmas.Bool.{cases_lt}
use Rattle.mt_words.specs.Walks.{joined}
use Rattle.mt_tree.specs.Layer.{PlaceView, short, long, link, slice_at, length_at, StandsBefore, IsPlace, IsLayer}
use Rattle.mt_tree.specs.Nodes.{IsBorder, SlicesApart}

-- ten times the slice, and the length
abbrev pub rank_at : PlaceView → ℕ
rank_at place = slice_at place * 10 + length_at place

-- lawful places whose ranks strictly rise, from this rank on
abbrev pub IsLayerFrom : ℕ → List PlaceView → Type 0
IsLayerFrom low [] = ⊤
IsLayerFrom low (place ∷ rest) = IsPlace place × (low ≤ rank_at place) × IsLayerFrom (suc (rank_at place)) rest

-- the law of a layer, by ranks
abbrev pub IsRanked : List PlaceView → Type 0
IsRanked = IsLayerFrom 0

-- the law of a layer's borders, by ranks
abbrev pub AreRanked : List (List PlaceView) → Type 0
AreRanked borders = AllByRecursion IsBorder borders × SlicesApart borders × IsRanked (joined borders)

pub length_at-le : (p : PlaceView) → IsPlace p → length_at p ≤ 9
length_at-le (short s l c) h = let fits : l ≤ 8 = h.1 in omega arith
length_at-le (long s t c) h = omega arith
length_at-le (link s w) h = omega arith

rank_below : (p q : PlaceView) → IsPlace p → StandsBefore p q → suc (rank_at p) ≤ rank_at q
rank_below p q h (inl lower) = omega (arith, length_at-le p h)
rank_below p q h (inr shorter) = omega (arith, shorter.0, shorter.1)

ranks_from : (p : PlaceView) (ps : List PlaceView) → IsPlace p → AllByRecursion (StandsBefore p) ps → AllByRecursion (λ q. suc (rank_at p) ≤ rank_at q) ps
ranks_from p [] h a = tt
ranks_from p (q ∷ ps) h a = (rank_below p q h a.0, ranks_from p ps h a.1)

ranked_from : (low : ℕ) (ps : List PlaceView) → AllByRecursion (λ p. low ≤ rank_at p) ps → IsLayer ps → IsLayerFrom low ps
ranked_from low [] a h = tt
ranked_from low (p ∷ ps) a h = (h.0, a.0, ranked_from (suc (rank_at p)) ps (ranks_from p ps h.0 h.1) h.2)

pub ranked : (ps : List PlaceView) → IsLayer ps → IsRanked ps
ranked ps h = ranked_from 0 ps (any ps) h
  where
    any : (qs : List PlaceView) → AllByRecursion (λ q. 0 ≤ rank_at q) qs
    any [] = tt
    any (q ∷ qs) = (omega arith, any qs)

stands_before : (p q : PlaceView) → IsPlace q → suc (rank_at p) ≤ rank_at q → StandsBefore p q
stands_before p q h le = by (cases_lt (slice_at p) (slice_at q))
  where
    by : (slice_at p < slice_at q) ⊎ (slice_at q ≤ slice_at p) → StandsBefore p q
    by (inl lower) = inl lower
    by (inr other) = let few = length_at-le q h in inr (omega arith, omega arith)

before_all : (p : PlaceView) (low : ℕ) (ps : List PlaceView) → suc (rank_at p) ≤ low → IsLayerFrom low ps → AllByRecursion (StandsBefore p) ps
before_all p low [] le h = tt
before_all p low (q ∷ ps) le h = let from : low ≤ rank_at q = h.1 in (stands_before p q h.0 (omega arith), before_all p (suc (rank_at q)) ps (omega arith) h.2)

pub layered : (low : ℕ) (ps : List PlaceView) → IsLayerFrom low ps → IsLayer ps
layered low [] h = tt
layered low (p ∷ ps) h = (h.0, before_all p (suc (rank_at p)) ps (omega arith) h.2, layered (suc (rank_at p)) ps h.2)
