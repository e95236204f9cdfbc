-- The edges of a walk: its first and its last place; and the pairs of a side.
use Rattle.std.specs.Prelude.{ℕ, ◌+◌, ◌*◌, ◌<◌, ◌≤◌, ◌≡◌, List, [], ◌∷◌, ◌++◌, length, take}
use Rattle.std.specs.List.{AllByRecursion}
use Rattle.mt_words.specs.Slices.{AreBytes, slice_bytes}
use Rattle.mt_tree.specs.Steps.Pairs.{key_rank}
use Rattle.mt_tree.specs.Layer.{PlaceView, slice_at, length_at, pairs_at, put_before}
use Rattle.mt_words.specs.Walks.{Pair}
use Rattle.mt_tree.specs.Borders.{layer_walk}
use Rattle.mt_tree.specs.declared.order.Side.{Side}
use Rattle.mt_tree.specs.declared.order.Side.TheVariants.{Lone, Whole}

-- the place has this slice and length, and if the length is 9, which means longer than 8, these pairs lie below it
pub record PlaceEdge (p : PlaceView) (slice len : ℕ) (below : List Pair) : Type 0 where
  pub slices : slice ≡ slice_at p
  pub lengths : len ≡ length_at p
  pub rests : len ≡ 9 → put_before (slice_bytes slice) below ≡ pairs_at p

abbrev pub HasBytes : List Pair → Type 0
HasBytes = AllByRecursion (λ p. AreBytes (take 8 p.0))

-- `top` is an edge of this slice and length: it has at least one pair, and all its pairs have them. The length is at most 9. If it is 9, the pairs
-- are those of `below` with the slice's bytes put before each key. The first 8 numbers of each key of the walk `w` are bytes.
pub record IsEdge (w top : List Pair) (slice len : ℕ) (below : List Pair) : Type 0 where
  pub bytes : HasBytes w
  pub fits : len ≤ 9
  pub some : 0 < length top
  pub ranks : AllByRecursion (λ p. key_rank p.0 ≡ slice * 10 + len) top
  pub rests : len ≡ 9 → put_before (slice_bytes slice) below ≡ top

-- the walk ends with an edge of this slice and length, and all pairs before it have lower ranks
pub record LastEdge (w : List Pair) (slice len : ℕ) (below : List Pair) : Type 0 where
  pub before : List Pair
  pub top : List Pair
  pub is : w ≡ before ++ top
  pub lower : AllByRecursion (λ p. key_rank p.0 < slice * 10 + len) before
  pub edge : IsEdge w top slice len below

-- the walk begins with an edge of this slice and length, and all pairs after it have higher ranks
pub record FirstEdge (w : List Pair) (slice len : ℕ) (below : List Pair) : Type 0 where
  pub after : List Pair
  pub top : List Pair
  pub is : w ≡ top ++ after
  pub higher : AllByRecursion (λ p. slice * 10 + len < key_rank p.0) after
  pub edge : IsEdge w top slice len below

abbrev pub side_walk : Side → List Pair
side_walk (Lone key columns) = (key.now, columns.now) ∷ []
side_walk (Whole layer) = layer_walk layer.now
