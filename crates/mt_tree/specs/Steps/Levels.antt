-- Lists of nodes of one height, and the node above them.
use Rattle.std.specs.Prelude.{ℕ, suc, ◌≡◌, List, [], ◌∷◌, map, drop}
use Rattle.std.specs.List.{AllByRecursion, flat_map}
use Rattle.mt_words.specs.Walks.{Pair, joined}
use Rattle.mt_tree.specs.Layer.{PlaceView, walk}
use Rattle.mt_tree.specs.Steps.Ranks.{IsRanked}
use Rattle.mt_tree.specs.Nodes.{BranchView, InteriorView, LayerView, NodeView, places, as_branch, SlicesApart, IsNode}
use Rattle.mt_tree.specs.Steps.Seams.{first_slice_of}

-- the walk of a node
abbrev pub node_walk : NodeView → List Pair
node_walk node = walk (places node)

-- the borders of these nodes, in order
abbrev pub borders_of : List NodeView → List (List PlaceView)
borders_of = flat_map (λ node. node.tree.borders)

-- the interior nodes of these nodes' trees
abbrev pub interiors_of : List NodeView → List InteriorView
interiors_of = flat_map (λ node. node.tree.interiors)

-- the trees below these nodes' links
abbrev pub below_of : List NodeView → List LayerView
below_of = flat_map (λ node. node.below)

-- these nodes as children
abbrev pub branches : List NodeView → List BranchView
branches = map (λ node. as_branch node.tree)

-- the height of the first node, or 0 if there is none
abbrev pub level_height : List NodeView → ℕ
level_height [] = 0
level_height (node ∷ nodes) = node.tree.height

-- a lawful node of this height
abbrev pub IsNodeAt : ℕ → NodeView → Type 0
IsNodeAt height node = (node.tree.height ≡ height) × IsNode node

-- the slice of a node's first place
abbrev pub first_of : NodeView → ℕ
first_of node = first_slice_of (places node)

-- the interior node with these separators and children
abbrev pub interior_node : List ℕ → List NodeView → NodeView
interior_node slices nodes = record {
  tree = record {
    borders = borders_of nodes;
    height = suc (level_height nodes);
    interiors = record { separators = slices; children = branches nodes } ∷ interiors_of nodes;
  };
  below = below_of nodes;
}

-- the node above these: the first slices of all nodes but the first separate them
abbrev pub parent_node : List NodeView → NodeView
parent_node nodes = interior_node (map first_of (drop 1 nodes)) nodes

-- the tree of one border
abbrev pub border_tree : List PlaceView → LayerView
border_tree held = record { borders = held ∷ []; height = 0; interiors = [] }

-- lawful nodes of this height, whose borders, in order, share no slice and have the places of a lawful layer
pub record IsLevelAt (height : ℕ) (level : List NodeView) : Type 0 where
  pub nodes : AllByRecursion (IsNodeAt height) level
  pub apart : SlicesApart (borders_of level)
  pub layer : IsRanked (joined (borders_of level))

-- likewise, of the first node's height
abbrev pub IsLevel : List NodeView → Type 0
IsLevel nodes = IsLevelAt (level_height nodes) nodes
