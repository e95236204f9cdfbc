-- A layer of the tree as a list of places, and the pairs that each place stands for.
use Rattle.std.specs.Prelude.{ℕ, ◌^◌, ◌<◌, ◌≤◌, ◌≡◌, List, [], ◌∷◌, ◌++◌, length, take, drop, map, ⊤, ◌⊎◌}
use Rattle.std.specs.List.{AllByRecursion, flat_map}
use Rattle.mt_words.specs.Slices.{slice_bytes}
use Rattle.mt_words.specs.Walks.{Pair}
use Rattle.mt_words.specs.Words.{IsBelow}

-- what contracts see of a place of a layer: its slice and what it holds; of a linked layer, they see the walk
pub data PlaceView : Type 0 where
  short : ℕ → ℕ → List (ℕ × List ℕ) → PlaceView  -- slice, length, columns
  long : ℕ → List ℕ → List (ℕ × List ℕ) → PlaceView  -- slice, suffix, columns
  link : ℕ → List Pair → PlaceView  -- slice, walk of the linked layer

abbrev pub slice_at : PlaceView → ℕ
slice_at (short slice len columns) = slice
slice_at (long slice suffix columns) = slice
slice_at (link slice below) = slice

-- the length of a place; 9 means longer than 8
abbrev pub length_at : PlaceView → ℕ
length_at (short slice len columns) = len
length_at (long slice suffix columns) = 9
length_at (link slice below) = 9

-- the first place stands before the second: its slice is lower, or it has the same slice and is shorter
abbrev pub StandsBefore : PlaceView → PlaceView → Type 0
StandsBefore place later = (slice_at place < slice_at later) ⊎ ((slice_at place ≡ slice_at later) × (length_at place < length_at later))

-- the pairs with these bytes put before each key
abbrev pub put_before : List ℕ → List Pair → List Pair
put_before bytes pairs = map (λ pair. (bytes ++ pair.0, pair.1)) pairs

-- the pairs that a place stands for: their keys are the slice's first bytes, or all eight and then what lies below them
abbrev pub pairs_at : PlaceView → List Pair
pairs_at (short slice len columns) = (take len (slice_bytes slice), columns) ∷ []
pairs_at (long slice suffix columns) = (slice_bytes slice ++ suffix, columns) ∷ []
pairs_at (link slice below) = put_before (slice_bytes slice) below

-- the walk of a layer, place by place
abbrev pub walk : List PlaceView → List Pair
walk = flat_map pairs_at

-- the walks of the layers that these places link to
abbrev pub linked_walks : List PlaceView → List (List Pair)
linked_walks [] = []
linked_walks (short s l c ∷ ps) = linked_walks ps
linked_walks (long s t c ∷ ps) = linked_walks ps
linked_walks (link s w ∷ ps) = w ∷ linked_walks ps

-- no key is empty; as this holds below each link, only the outermost layer has length 0
abbrev pub HasNoEmptyKey : List Pair → Type 0
HasNoEmptyKey = AllByRecursion (λ pair. 0 < length pair.0)

-- The law of a place. Its slice fits in 64 bits. A short one has a length of at most 8, and the bytes of its slice past that length are zero.
-- A long one has a suffix of at least one byte. A link has at least two pairs, none with an empty key.
abbrev pub IsPlace : PlaceView → Type 0
IsPlace (short slice len columns) = (slice < 2 ^ 64) × (len ≤ 8) × AllByRecursion (λ byte. byte ≡ 0) (drop len (slice_bytes slice))
IsPlace (long slice suffix columns) = (slice < 2 ^ 64) × (0 < length suffix)
IsPlace (link slice below) = (slice < 2 ^ 64) × (2 ≤ length below) × HasNoEmptyKey below

-- the law of a layer: lawful places, and each stands before all places after it
abbrev pub IsLayer : List PlaceView → Type 0
IsLayer [] = ⊤
IsLayer (place ∷ rest) = IsPlace place × AllByRecursion (StandsBefore place) rest × IsLayer rest

-- each key of the first walk is below each key of the second
abbrev pub AllKeysBelow : List Pair → List Pair → Type 0
AllKeysBelow lower upper = AllByRecursion (λ pair. AllByRecursion (λ above. IsBelow pair.0 above.0) upper) lower
