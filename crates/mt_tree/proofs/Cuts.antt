-- The places of a layer are cut into borders between slices.
use Rattle.std.proofs.Common.{◌≡◌, ℕ, suc, ◌+◌, ◌*◌, ◌≤◌, List, [], ◌∷◌, ◌++◌, length, sym, refl, ap, ◌∙◌, subst, arith, append_assoc}
use Rattle.std.proofs.lemmas.List.{append-nil}
use Rattle.mt_tree.specs.Layer.{PlaceView, slice_at}
use Rattle.mt_tree.specs.Steps.Ranks.{rank_at, IsLayerFrom, IsRanked, length_at-le, layered}
use Rattle.mt_tree.specs.Nodes.{NodeView, border, none, SlicesFrom, IsLayerTree}
use Rattle.mt_tree.specs.Steps.Levels.{borders_of, IsLevelAt, IsLevel, border_tree}
use Rattle.mt_tree.specs.Steps.Seams.{CutAt, OfSlice}

-- ---- layers and their parts
-- places from a rank on have slices at or above that rank's
pub slices_from : (low s : ℕ) (ps : List PlaceView) → s * 10 ≤ low → IsLayerFrom low ps → SlicesFrom s ps
slices_from low s [] le h = tt
slices_from low s (p ∷ ps) le h =
    let from : low ≤ rank_at p = h.1 in
    (omega (arith, length_at-le p h.0), slices_from (suc (rank_at p)) s ps (omega arith) h.2)

-- a slice has ten ranks
run_room : (low s : ℕ) (ps : List PlaceView) → IsLayerFrom low ps → OfSlice s ps → low ≤ s * 10 + 10 → low + length ps ≤ s * 10 + 10
run_room low s [] h o le = omega arith
run_room low s (p ∷ ps) h o le =
    let from : low ≤ rank_at p = h.1 in
    let same : slice_at p ≡ s = o.0 in
    let few = length_at-le p h.0 in
    omega (arith, run_room (suc (rank_at p)) s ps h.2 o.1 (omega arith))

pub run_few : (s : ℕ) (ps : List PlaceView) → IsRanked ps → OfSlice s ps → length ps ≤ 10
run_few s [] h o = omega arith
run_few s (p ∷ ps) h o =
    let same : slice_at p ≡ s = o.0 in
    let few = length_at-le p h.0 in
    omega (arith, run_room (suc (rank_at p)) s ps h.2 o.1 (omega arith))

pub cut_nil : (xs : List PlaceView) → CutAt xs []
cut_nil [] = tt
cut_nil (x ∷ xs) = (tt, cut_nil xs)

-- ---- a border as a tree
pub border_is_tree : (b : List PlaceView) → 1 ≤ length b → length b ≤ 15 → IsRanked b → IsLayerTree (border_tree b)
border_is_tree b some fits h = record { some = omega arith; each = ((some, fits), tt); apart = (cut_nil b, tt); layer = layered 0 (b ++ []) (subst IsRanked (sym (append-nil b)) h); interiors = tt; shape = border none }

pub borders_of-append : (ns ms : List NodeView) → borders_of (ns ++ ms) ≡ borders_of ns ++ borders_of ms
borders_of-append [] ms = refl
borders_of-append (n ∷ ns) ms = ap (λ z. n.tree.borders ++ z) (borders_of-append ns ms) ∙ sym (append_assoc n.tree.borders (borders_of ns) (borders_of ms))

pub level_is : (h : ℕ) (ns : List NodeView) → IsLevelAt h ns → IsLevel ns
level_is h [] l = record { nodes = tt; apart = tt; layer = tt }
level_is h (n ∷ ns) l = subst (λ k. IsLevelAt k (n ∷ ns)) (sym (l.nodes.0.0)) l
