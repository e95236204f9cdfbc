-- What contracts see of a stored node.
use Rattle.std.specs.Prelude.{List, ◌∷◌}
use Rattle.std.specs.List.{AllByRecursion}
use Rattle.mt_tree.specs.Nodes.{NodeView, LayerView, IsNode}
use Rattle.mt_tree.specs.Steps.Levels.{node_walk, interior_node, border_tree}
use Rattle.mt_tree.specs.Steps.Places.{views, below_links}
use Rattle.mt_tree.specs.declared.place.Place.{Place}
use Rattle.mt_tree.specs.declared.node.NodeKind.{NodeKind}
use Rattle.mt_tree.specs.declared.node.NodeKind.TheVariants.{Border, Interior}

-- a node's tree, then the trees below its links
abbrev pub trees_under : NodeView → List LayerView
trees_under node = node.tree ∷ node.below

abbrev pub border_node : List (Place NodeView) → NodeView
border_node held = record { tree = border_tree (views node_walk held); below = below_links trees_under held }

abbrev pub node_view : NodeKind → NodeView
node_view (Border held) = border_node held.items
node_view (Interior separators children) = interior_node separators.value.items children.items

abbrev pub IsNodeKind : NodeKind → Type 0
IsNodeKind (Border held) = IsNode (node_view (Border held))
IsNodeKind (Interior separators children) = AllByRecursion IsNode children.items × IsNode (node_view (Interior separators children))
