-- Two lists of borders are joined at their seam.
use Rattle.std.proofs.Common.{◌≡◌, ℕ, suc, ◌*◌, ◌≤◌, List, [], ◌∷◌, ◌++◌, length, sym, refl, ap, ◌∙◌, subst, arith}
use Rattle.std.specs.List.{AllByRecursion}
use Rattle.std.proofs.lemmas.List.{append-nil}
use Rattle.mt_words.specs.Walks.{joined}
use Rattle.mt_tree.specs.Layer.{PlaceView, slice_at}
use Rattle.mt_tree.specs.Steps.Ranks.{rank_at, IsRanked, IsLayerFrom, AreRanked, length_at-le}
use Rattle.mt_tree.specs.Nodes.{SlicesFrom, SlicesApart, IsBorder}
use Rattle.mt_tree.specs.Steps.Seams.{CutAt, SameEnds, last_slice_of, first_slice_of}
use Rattle.mt_tree.proofs.Joins.{all_append, all_weaker, all_front, all_back}
use Rattle.mt_tree.proofs.Cuts.{slices_from}
use Rattle.mt_tree.specs.Steps.Falls.{layer_back, layer_front, joined-append}

-- two lists of borders with slices apart make one such list, if the first list's slices are below the second's
apart_append : (fs bs : List (List PlaceView)) → SlicesApart fs → SlicesApart bs → AllByRecursion (λ a. CutAt a (joined bs)) fs → SlicesApart (fs ++ bs)
apart_append [] bs h k c = k
apart_append (a ∷ fs) bs h k c =
    (subst (CutAt a) (sym (joined-append fs bs)) (both a h.0 c.0), apart_append fs bs h.1 k c.1)
  where
    both : (xs : List PlaceView) → CutAt xs (joined fs) → CutAt xs (joined bs) → CutAt xs (joined fs ++ joined bs)
    both [] f g = tt
    both (x ∷ xs) f g = (all_append (λ q. suc (slice_at x) ≤ slice_at q) (joined fs) (joined bs) f.0 g.0, both xs f.1 g.1)

-- in a lawful layer slices do not fall
from_first : (low : ℕ) (p : PlaceView) (ps : List PlaceView) → IsLayerFrom low (p ∷ ps) → SlicesFrom (slice_at p) (p ∷ ps)
from_first low p ps h = (omega arith, slices_from (suc (rank_at p)) (slice_at p) ps (omega arith) h.2)

pub from_first_slice : (low : ℕ) (ps : List PlaceView) → IsLayerFrom low ps → SlicesFrom (first_slice_of ps) ps
from_first_slice low [] h = tt
from_first_slice low (p ∷ ps) h = from_first low p ps h

pub up_to_last : (low : ℕ) (ps : List PlaceView) → IsLayerFrom low ps → AllByRecursion (λ p. slice_at p ≤ last_slice_of ps) ps
up_to_last low [] h = tt
up_to_last low (p ∷ []) h = (omega arith, tt)
up_to_last low (p ∷ q ∷ ps) h =
    let rest = up_to_last (suc (rank_at p)) (q ∷ ps) h.2 in
    let from : suc (rank_at p) ≤ rank_at q = h.2.1 in
    let few = length_at-le q h.2.0 in
    let le : slice_at q ≤ last_slice_of (q ∷ ps) = rest.0 in
    (omega arith, rest)

slices_over : (n low : ℕ) (ps : List PlaceView) → IsLayerFrom low ps → suc n ≤ first_slice_of ps → SlicesFrom (suc n) ps
slices_over n low [] h le = tt
slices_over n low (p ∷ ps) h le = all_weaker (λ q. slice_at p ≤ slice_at q) (λ q. suc n ≤ slice_at q) (λ q f. omega arith) (p ∷ ps) (from_first low p ps h)

cut_over : (xs ps : List PlaceView) → IsRanked ps → AllByRecursion (λ x. suc (slice_at x) ≤ first_slice_of ps) xs → CutAt xs ps
cut_over [] ps h a = tt
cut_over (x ∷ xs) ps h a = (slices_over (slice_at x) 0 ps h a.0, cut_over xs ps h a.1)

last_cut : (xs ys : List PlaceView) → 1 ≤ length xs → CutAt xs ys → SlicesFrom (suc (last_slice_of xs)) ys
last_cut [] ys h c = absurd (omega arith)
last_cut (x ∷ []) ys h c = c.0
last_cut (x ∷ y ∷ xs) ys h c = last_cut (y ∷ xs) ys (omega arith) c.1

cut_under : (m : ℕ) (ps ys : List PlaceView) → AllByRecursion (λ p. slice_at p ≤ m) ps → SlicesFrom (suc m) ys → CutAt ps ys
cut_under m [] ys a f = tt
cut_under m (p ∷ ps) ys a f = let le : slice_at p ≤ m = a.0 in (all_weaker (λ y. suc m ≤ slice_at y) (λ y. suc (slice_at p) ≤ slice_at y) (λ y g. omega arith) ys f, cut_under m ps ys a.1 f)

-- layers whose slices are apart make one layer
raised : (low m s : ℕ) (ys : List PlaceView) → IsLayerFrom m ys → SlicesFrom s ys → low ≤ s * 10 → IsLayerFrom low ys
raised low m s [] h f le = tt
raised low m s (y ∷ ys) h f le = let from : s ≤ slice_at y = f.0 in (h.0, omega arith, h.2)

layer_then : (low : ℕ) (x : PlaceView) (xs ys : List PlaceView) → IsLayerFrom low (x ∷ xs) → IsRanked ys → CutAt (x ∷ xs) ys → IsLayerFrom low ((x ∷ xs) ++ ys)
layer_then low x [] ys h k c = (h.0, h.1, raised (suc (rank_at x)) 0 (suc (slice_at x)) ys k c.0 (let few = length_at-le x h.0 in omega arith))
layer_then low x (y ∷ xs) ys h k c = (h.0, h.1, layer_then (suc (rank_at x)) y xs ys h.2 k c.1)

layer_append : (xs ys : List PlaceView) → IsRanked xs → IsRanked ys → CutAt xs ys → IsRanked (xs ++ ys)
layer_append [] ys h k c = k
layer_append (x ∷ xs) ys h k c = layer_then 0 x xs ys h k c

cut_joined : (fs : List (List PlaceView)) (ys : List PlaceView) → AllByRecursion (λ a. CutAt a ys) fs → CutAt (joined fs) ys
cut_joined [] ys h = tt
cut_joined (a ∷ fs) ys h = all_append (λ x. SlicesFrom (suc (slice_at x)) ys) a (joined fs) h.0 (cut_joined fs ys h.1)

pub are_append : (fs bs : List (List PlaceView)) → AreRanked fs → AreRanked bs → AllByRecursion (λ a. CutAt a (joined bs)) fs → AreRanked (fs ++ bs)
are_append fs bs h k c =
    (all_append IsBorder fs bs h.0 k.0, apart_append fs bs h.1 k.1 c, subst IsRanked (sym (joined-append fs bs)) (layer_append (joined fs) (joined bs) h.2 k.2 (cut_joined fs (joined bs) c)))

pub cut_each : (cs : List (List PlaceView)) (ys : List PlaceView) → CutAt (joined cs) ys → AllByRecursion (λ a. CutAt a ys) cs
cut_each [] ys h = tt
cut_each (c ∷ cs) ys h = (all_front (λ p. SlicesFrom (suc (slice_at p)) ys) c (joined cs) h, cut_each cs ys (all_back (λ p. SlicesFrom (suc (slice_at p)) ys) c (joined cs) h))

-- a list of borders without its last one
front_apart : (fs : List (List PlaceView)) (l : List PlaceView) → SlicesApart (fs ++ l ∷ []) → SlicesApart fs × AllByRecursion (λ a. CutAt a l) fs
front_apart [] l h = (tt, tt)
front_apart (a ∷ fs) l h =
    let rest = front_apart fs l h.1 in
    let whole : CutAt a (joined fs ++ l) = subst (CutAt a) (joined-append fs (l ∷ []) ∙ ap (λ (z : List PlaceView). joined fs ++ z) (append-nil l)) h.0 in
    ((part (joined fs ++ l) (joined fs) a (λ x f. all_front (λ q. suc (slice_at x) ≤ slice_at q) (joined fs) l f) whole, rest.0), (part (joined fs ++ l) l a (λ x f. all_back (λ q. suc (slice_at x) ≤ slice_at q) (joined fs) l f) whole, rest.1))
  where
    part : (ys zs xs : List PlaceView) → ((x : PlaceView) → SlicesFrom (suc (slice_at x)) ys → SlicesFrom (suc (slice_at x)) zs) → CutAt xs ys → CutAt xs zs
    part ys zs [] f h = tt
    part ys zs (x ∷ xs) f h = (f x h.0, part ys zs xs f h.1)

first_over : (a l : List PlaceView) → 1 ≤ length l → CutAt a l → AllByRecursion (λ x. suc (slice_at x) ≤ first_slice_of l) a
first_over [] l h c = tt
first_over (x ∷ a) [] h c = absurd (omega arith)
first_over (x ∷ a) (p ∷ l) h c = (c.0.0, first_over a (p ∷ l) h c.1)

each_over : (fs : List (List PlaceView)) (l ps : List PlaceView) → 1 ≤ length l → first_slice_of ps ≡ first_slice_of l → IsRanked ps → AllByRecursion (λ a. CutAt a l) fs → AllByRecursion (λ a. CutAt a ps) fs
each_over [] l ps some e h c = tt
each_over (a ∷ fs) l ps some e h c =
    (cut_over a ps h (all_weaker (λ x. suc (slice_at x) ≤ first_slice_of l) (λ x. suc (slice_at x) ≤ first_slice_of ps) (λ x le. omega arith) a (first_over a l some c.0)), each_over fs l ps some e h c.1)

-- the two borders at the seam of two lists may be replaced by others with the same slices at the ends
pub seam_are : (fs : List (List PlaceView)) (l f : List PlaceView) (bs seam : List (List PlaceView)) → AreRanked (fs ++ l ∷ []) → AreRanked (f ∷ bs) → AreRanked seam → 1 ≤ length l → 1 ≤ length (joined seam) → SameEnds l f (joined seam) → AreRanked (fs ++ (seam ++ bs))
seam_are fs l f bs seam left right h some seam_some ends =
    let front = front_apart fs l left.1 in
    let as_are : AreRanked fs = (all_front IsBorder fs (l ∷ []) left.0, front.0, layer_front 0 (joined fs) (joined (l ∷ [])) (subst IsRanked (joined-append fs (l ∷ [])) left.2)) in
    let bs_are : AreRanked bs = (right.0.1, right.1.1, layer_back 0 f (joined bs) right.2) in
    let f_some : 1 ≤ length f = right.0.0.0 in
    let after : SlicesFrom (suc (last_slice_of (joined seam))) (joined bs) = subst (λ (k : ℕ). SlicesFrom (suc k) (joined bs)) (sym ends.last) (last_cut f (joined bs) f_some right.1.0) in
    let seam_cut : CutAt (joined seam) (joined bs) = cut_under (last_slice_of (joined seam)) (joined seam) (joined bs) (up_to_last 0 (joined seam) h.2) after in
    let rest : AreRanked (seam ++ bs) = are_append seam bs h bs_are (cut_each seam (joined bs) seam_cut) in
    let head : first_slice_of (joined (seam ++ bs)) ≡ first_slice_of l = ap first_slice_of (joined-append seam bs) ∙ first_kept (joined seam) (joined bs) seam_some ∙ ends.first in
    are_append fs (seam ++ bs) as_are rest (each_over fs l (joined (seam ++ bs)) some head rest.2 front.1)
  where
    first_kept : (xs ys : List PlaceView) → 1 ≤ length xs → first_slice_of (xs ++ ys) ≡ first_slice_of xs
    first_kept [] ys k = absurd (omega arith)
    first_kept (x ∷ xs) ys k = refl

-- the last border may be replaced by others that begin with the same slice
pub behind_are : (fs : List (List PlaceView)) (l : List PlaceView) (parts : List (List PlaceView)) → AreRanked (fs ++ l ∷ []) → AreRanked parts → 1 ≤ length l → first_slice_of (joined parts) ≡ first_slice_of l → AreRanked (fs ++ parts)
behind_are fs l parts left are some first =
    let front = front_apart fs l left.1 in
    let fs_are : AreRanked fs = (all_front IsBorder fs (l ∷ []) left.0, front.0, layer_front 0 (joined fs) (joined (l ∷ [])) (subst IsRanked (joined-append fs (l ∷ [])) left.2)) in
    are_append fs parts fs_are are (each_over fs l (joined parts) some first are.2 front.1)
