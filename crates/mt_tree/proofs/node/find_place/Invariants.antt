use Rattle.std.proofs.Common.{◌≡◌, ℕ, ◌+◌, ◌*◌, ◌<◌, min, get_or}
use Rattle.mt_tree.specs.Layer.{PlaceView}
use Rattle.mt_tree.specs.Steps.Ranks.{rank_at}
use Rattle.mt_tree.specs.Steps.Places.{views}
use Rattle.mt_tree.specs.Steps.Levels.{node_walk}
use Rattle.mt_tree.proofs.node.find_place.Given as goal

abbrev pub invariant-loop-at : goal.invariant-loop-at
invariant-loop-at l = (k : ℕ) (d : PlaceView) → k < l.at → rank_at (get_or (views node_walk l.places) k d) ≡ l.slice * 10 + min l.len 9 → ⊥
