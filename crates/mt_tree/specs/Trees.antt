-- What a complete tree is.
use Rattle.std.specs.Prelude.{◌≡◌, ℕ, ◌+◌, ◌-◌, ◌^◌, min, length, List, [], Option, Some, None, ⊤}
use Rattle.mt_tree.specs.Layer.{PlaceView, walk}
use Rattle.mt_words.specs.Walks.{Pair}
use Rattle.mt_tree.specs.Nodes.{NodeView, places, each_borders, IsNode}

-- the places of the outermost layer; the tree without pairs has no node
abbrev pub tree_places : Option NodeView → List PlaceView
tree_places None = []
tree_places (Some n) = places n

-- the walk of a tree is that of its outermost layer
abbrev pub tree_walk : Option NodeView → List Pair
tree_walk t = walk (tree_places t)

-- the law of a tree: the tree of the outermost layer is lawful, and so is each tree below a link, at any depth
abbrev pub IsTree : Option NodeView → Type 0
IsTree None = ⊤
IsTree (Some n) = IsNode n

-- the number of trees: that of the outermost layer, and those below links
abbrev pub tree_count : Option NodeView → ℕ
tree_count None = 1
tree_count (Some n) = length n.below + 1

-- the number of trees, capped at the greatest number that 64 bits hold
abbrev pub HasLayers : Option NodeView → ℕ → Type 0
HasLayers t layers = layers ≡ min (tree_count t) (2 ^ 64 - 1)

-- the borders of the outermost layer
abbrev pub tree_borders : Option NodeView → List (List PlaceView)
tree_borders None = []
tree_borders (Some n) = n.tree.borders

-- the borders of each layer below a link
abbrev pub tree_below : Option NodeView → List (List (List PlaceView))
tree_below None = []
tree_below (Some n) = each_borders n.below

-- the number of pairs of a walk, capped at the greatest number that 128 bits hold
abbrev pub IsCount : List Pair → ℕ → Type 0
IsCount w count = count ≡ min (length w) (2 ^ 128 - 1)
