-- Where two lists of places meet.
use Rattle.std.specs.Prelude.{ℕ, suc, ◌≡◌, List, [], ◌∷◌}
use Rattle.std.specs.List.{AllByRecursion}
use Rattle.mt_tree.specs.Layer.{PlaceView, slice_at, length_at}
use Rattle.mt_tree.specs.Nodes.{SlicesFrom}

-- the slice of the first place, or 0 if there is none
abbrev pub first_slice_of : List PlaceView → ℕ
first_slice_of [] = 0
first_slice_of (place ∷ rest) = slice_at place

-- the slice of the last place, or 0 if there is none
abbrev pub last_slice_of : List PlaceView → ℕ
last_slice_of [] = 0
last_slice_of (place ∷ []) = slice_at place
last_slice_of (place ∷ next ∷ rest) = last_slice_of (next ∷ rest)

-- the places begin with the first slice of the left list and end with the last slice of the right one
pub record SameEnds (left right all : List PlaceView) : Type 0 where
  pub first : first_slice_of all ≡ first_slice_of left
  pub last : last_slice_of all ≡ last_slice_of right

-- two places of one slice, both for keys longer than 8 bytes
abbrev pub Meet : PlaceView → PlaceView → Type 0
Meet place other = (slice_at place ≡ slice_at other) × (length_at place ≡ 9) × (length_at other ≡ 9)

-- each slice of the first places is below each slice of the others
abbrev pub CutAt : List PlaceView → List PlaceView → Type 0
CutAt before after = AllByRecursion (λ place. SlicesFrom (suc (slice_at place)) after) before

-- all places have this slice
abbrev pub OfSlice : ℕ → List PlaceView → Type 0
OfSlice slice = AllByRecursion (λ place. slice_at place ≡ slice)
