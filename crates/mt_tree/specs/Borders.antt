-- Drafts. Each layer of a draft is a list of borders, and each border has all places of its slices.
use Rattle.std.specs.Prelude.{List, []}
use Rattle.std.specs.List.{AllByRecursion}
use Rattle.mt_tree.specs.Layer.{PlaceView, IsLayer, walk, linked_walks}
use Rattle.mt_words.specs.Walks.{Pair, joined}
use Rattle.mt_tree.specs.Nodes.{IsBorder, SlicesApart, AreLinked}

-- the walk of a list of borders
abbrev pub borders_walk : List (List PlaceView) → List Pair
borders_walk borders = walk (joined borders)

-- the law of one layer's borders: each has 1 to MOST_PLACES places, no slice is in two of them, and their places are a lawful layer
abbrev pub IsBorderList : List (List PlaceView) → Type 0
IsBorderList borders = AllByRecursion IsBorder borders × SlicesApart borders × IsLayer (joined borders)

-- what contracts see of a draft: the borders of its outermost layer, in order, and the borders of each layer below a link,
-- each layer before the layers below its own links
pub record DraftView : Type 0 where
  pub borders : List (List PlaceView)
  pub below : List (List (List PlaceView))

-- the draft without pairs
abbrev pub empty_draft : DraftView
empty_draft = record { borders = []; below = [] }

-- the walk of a draft is that of its outermost layer
abbrev pub layer_walk : DraftView → List Pair
layer_walk draft = borders_walk draft.borders

-- the law of a draft: the borders of its outermost layer are lawful, so are those of each layer in `below`,
-- and `below` has just the layers below links, at any depth
pub record AreBorders (draft : DraftView) : Type 0 where
  pub own : IsBorderList draft.borders
  pub below : AllByRecursion IsBorderList draft.below
  pub linked : AreLinked (linked_walks (joined draft.borders)) draft.below
