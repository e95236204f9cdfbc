-- Where a slice begins.
use Rattle.std.proofs.Common.{◌≡◌, ℕ, zero, suc, ◌<◌, ◌≤◌, List, [], ◌∷◌, length, drop, get_or, sym, ap, arith}
use Rattle.mt_tree.specs.Layer.{slice_at}
use Rattle.mt_tree.specs.Steps.Ranks.{rank_at, IsLayerFrom}
use Rattle.mt_tree.specs.Nodes.{SlicesFrom}
use Rattle.mt_tree.proofs.Joins.{slice_at-draft, all_weaker}
use Rattle.mt_tree.proofs.Cuts.{slices_from}
use Rattle.mt_tree.specs.Steps.Places.{views, view_of}
use Rattle.mt_tree.specs.Borders.{layer_walk, DraftView}
use Rattle.mt_tree.specs.declared.place.Place.{Place}

-- from a place on whose slice is not below s, no slice is below s
pub from_here : (low s : ℕ) (ps : List (Place DraftView)) (i : ℕ) (x : Place DraftView) → IsLayerFrom low (views layer_walk ps) → i < length ps → x ≡ get_or ps i x → s ≤ x.slice → SlicesFrom s (views layer_walk (drop i ps))
from_here low s [] i x h lt e le = absurd (omega arith)
from_here low s (p ∷ ps) zero x h lt e le =
    let same : p.slice ≡ x.slice = ap (λ (z : Place DraftView). z.slice) (sym e) in
    let here : s ≤ slice_at (view_of layer_walk p) = omega (arith, slice_at-draft p, same) in
    (here, all_weaker (λ q. slice_at (view_of layer_walk p) ≤ slice_at q) (λ q. s ≤ slice_at q) (λ q up. omega arith) (views layer_walk ps) (slices_from (suc (rank_at (view_of layer_walk p))) (slice_at (view_of layer_walk p)) (views layer_walk ps) (omega arith) h.2))
from_here low s (p ∷ ps) (suc i) x h lt e le = from_here (suc (rank_at (view_of layer_walk p))) s ps i x h.2 (omega arith) e le
