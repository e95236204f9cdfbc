-- What contracts see of a stored layer.
use Rattle.std.specs.Prelude.{◌≡◌, ◌≤◌, ◌<◌, ◌+◌, ⊤, ℕ, List, [], ◌∷◌, ◌++◌, length, map}
use Rattle.std.specs.List.{AllByRecursion, flat_map}
use Rattle.mt_words.specs.Slices.{slice_in}
use Rattle.mt_words.specs.Walks.{Pair, joined}
use Rattle.mt_tree.specs.Layer.{PlaceView, length_at, walk, AllKeysBelow}
use Rattle.mt_tree.specs.Borders.{DraftView, borders_walk, layer_walk, AreBorders}
use Rattle.mt_tree.specs.Steps.Ranks.{IsRanked, AreRanked}
use Rattle.mt_tree.specs.Steps.Seams.{first_slice_of}
use Rattle.mt_tree.specs.Nodes.{each_borders, AreBelow, IsTreeCount}
use Rattle.mt_tree.specs.Steps.Levels.{node_walk}
use Rattle.mt_tree.specs.declared.layer.Border.{Border}
use Rattle.mt_tree.specs.declared.layer.Border.TheVariants.{Open, Closed}
use Rattle.mt_tree.specs.declared.place.Content.TheVariants.{Short, Suffix, Link}
use Rattle.mt_tree.specs.Steps.Places.{view_of, views, below_links}
use Rattle.mt_tree.specs.Steps.NodeViews.{trees_under}
use Rattle.mt_tree.specs.declared.place.Place.{Place}
use Rattle.mt_tree.specs.declared.place.Content.{Content}

abbrev pub border_view : Border → List PlaceView
border_view (Open places) = views layer_walk places.items
border_view (Closed finished) = views node_walk finished.made.items

abbrev pub border_views : List Border → List (List PlaceView)
border_views = map border_view

-- the borders of a layer, then those of each layer below its links
abbrev pub layers_under : DraftView → List (List (List PlaceView))
layers_under layer = layer.borders ∷ layer.below

abbrev pub layers_of_border : Border → List (List (List PlaceView))
layers_of_border (Open places) = below_links layers_under places.items
layers_of_border (Closed finished) = each_borders (below_links trees_under finished.made.items)

abbrev pub draft_of : List Border → DraftView
draft_of stored = record { borders = border_views stored; below = flat_map layers_of_border stored }

-- if this is a link, the linked layer is lawful
abbrev pub IsLawfulLink : Content DraftView → Type 0
IsLawfulLink (Short len columns) = ⊤
IsLawfulLink (Suffix suffix columns) = ⊤
IsLawfulLink (Link layer) = AreBorders layer

abbrev pub HaveLawfulLinks : List (Place DraftView) → Type 0
HaveLawfulLinks = AllByRecursion (λ place. IsLawfulLink place.content)

-- the layers that a border's places link to are lawful; those of a sealed border are lawful trees, with their count
abbrev pub HasLawfulLinks : Border → Type 0
HasLawfulLinks (Open places) = HaveLawfulLinks places.items
HasLawfulLinks (Closed finished) =
    AreBelow (views node_walk finished.made.items) (below_links trees_under finished.made.items) × IsTreeCount (below_links trees_under finished.made.items) finished.below

abbrev pub IsOpen : Border → Type 0
IsOpen (Open places) = ⊤
IsOpen (Closed finished) = ⊥

-- the border is open and has these places
abbrev pub IsOpened : Border → List (Place DraftView) → Type 0
IsOpened (Open held) places = places ≡ held.items
IsOpened (Closed finished) places = ⊥

-- the first border, if there is one, is open
abbrev pub IsFirstOpen : List Border → Type 0
IsFirstOpen [] = ⊤
IsFirstOpen (border ∷ rest) = IsOpen border

-- the last border, if there is one, is open
abbrev pub IsLastOpen : List Border → Type 0
IsLastOpen [] = ⊤
IsLastOpen (border ∷ []) = IsOpen border
IsLastOpen (border ∷ next ∷ rest) = IsLastOpen (next ∷ rest)

-- the law of a stored layer: its borders are lawful, and so is each layer that its places link to; the first and the last border are open
pub record IsStored (borders : List Border) : Type 0 where
  pub own : AreRanked (border_views borders)
  pub links : AllByRecursion HasLawfulLinks borders
  pub first : IsFirstOpen borders
  pub last : IsLastOpen borders

-- the new borders are the old ones and then more: these have just these places and are lawful, and their links are lawful if those of the
-- places are; if the first border was open, it still is
pub record PutBehind (places : List (Place DraftView)) (old new : List Border) : Type 0 where
  pub more : List Border
  pub behind : new ≡ old ++ more
  pub same : joined (border_views more) ≡ views layer_walk places
  pub lawful : AreRanked (border_views more)
  pub links : HaveLawfulLinks places → AllByRecursion HasLawfulLinks more
  pub first : IsFirstOpen old → IsFirstOpen new

-- likewise, and the last border is open if there are any of these places, or if it was open before
pub record PutOpen (places : List (Place DraftView)) (old new : List Border) : Type 0 where
  pub put : PutBehind places old new
  pub last : 1 ≤ length places → IsLastOpen new
  pub kept : IsLastOpen old → IsLastOpen new

-- lawful places, at least one, whose keys are all below that of the pair
pub record CanFollow (pair : Pair) (places : List (Place DraftView)) : Type 0 where
  pub lawful : IsRanked (views layer_walk places)
  pub some : 1 ≤ length places
  pub links : HaveLawfulLinks places
  pub below : AllKeysBelow (walk (views layer_walk places)) (pair ∷ [])

-- the last place has the first slice of this key, and both are longer than 8 bytes
pub record LastMeets (key : List ℕ) (places : List (Place DraftView)) : Type 0 where
  pub front : List (Place DraftView)
  pub last : Place DraftView
  pub is : places ≡ front ++ last ∷ []
  pub slice : last.slice ≡ slice_in key
  pub long : length_at (view_of layer_walk last) ≡ 9
  pub longer : 8 < length key

-- the new places are lawful and have the pairs of the old ones and then this pair; they begin with the same slice, and are at most one more
pub record HaveFollowed (pair : Pair) (old new : List (Place DraftView)) : Type 0 where
  pub pairs : walk (views layer_walk new) ≡ walk (views layer_walk old) ++ pair ∷ []
  pub lawful : IsRanked (views layer_walk new)
  pub links : HaveLawfulLinks new
  pub first : first_slice_of (views layer_walk new) ≡ first_slice_of (views layer_walk old)
  pub some : 1 ≤ length new
  pub more : length new ≤ length old + 1

-- the new borders are lawful, and have the pairs of the old ones and then this pair
pub record HavePushed (pair : Pair) (old new : List Border) : Type 0 where
  pub lawful : IsStored new
  pub pairs : borders_walk (border_views new) ≡ borders_walk (border_views old) ++ pair ∷ []
