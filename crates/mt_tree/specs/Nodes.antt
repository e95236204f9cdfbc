-- The tree of a layer: its borders in order, its height and its interior nodes; and the trees below its links.
use Rattle.std.specs.Prelude.{ℕ, suc, ◌+◌, ◌-◌, ◌^◌, ◌<◌, ◌≤◌, ◌≡◌, List, [], ◌∷◌, ◌++◌, length, map, min, ⊤}
use Rattle.std.specs.List.{AllByRecursion, flat_map}
use Rattle.mt_tree.specs.Layer.{PlaceView, slice_at, walk, IsLayer, linked_walks}
use Rattle.mt_tree.specs.declared.node.TheConstants.{MOST_PLACES, MOST_CHILDREN}
use Rattle.mt_words.specs.Walks.{Pair, joined}

-- what contracts see of a child: its borders in order, and the number of levels below it
pub record BranchView : Type 0 where
  pub borders : List (List PlaceView)
  pub height : ℕ

-- what contracts see of an interior node: its separators and its children
pub record InteriorView : Type 0 where
  pub separators : List ℕ
  pub children : List BranchView

-- what contracts see of the tree of one layer: its borders in order, the number of levels below its root, and its interior nodes,
-- each before those below it
pub record LayerView : Type 0 where
  pub borders : List (List PlaceView)
  pub height : ℕ
  pub interiors : List InteriorView

-- what contracts see of a node: the tree whose root it is, and the trees below the links of its places, each before those below its own links
pub record NodeView : Type 0 where
  pub tree : LayerView
  pub below : List LayerView

-- the places of a node's borders, in order
abbrev pub places : NodeView → List PlaceView
places node = joined node.tree.borders

-- the slices of these places are below this one
abbrev pub SlicesBelow : ℕ → List PlaceView → Type 0
SlicesBelow slice = AllByRecursion (λ place. slice_at place < slice)

-- the slices of these places are at or above this one
abbrev pub SlicesFrom : ℕ → List PlaceView → Type 0
SlicesFrom slice = AllByRecursion (λ place. slice ≤ slice_at place)

-- a border holds 1 to MOST_PLACES places
abbrev pub IsBorder : List PlaceView → Type 0
IsBorder held = (1 ≤ length held) × (length held ≤ MOST_PLACES)

-- each slice of a border is below all slices of the borders after it; so no slice is in two borders
abbrev pub SlicesApart : List (List PlaceView) → Type 0
SlicesApart [] = ⊤
SlicesApart (held ∷ later) = AllByRecursion (λ place. SlicesFrom (suc (slice_at place)) (joined later)) held × SlicesApart later

-- for each separator, the slices of the child just left of it are below it, and those of all children right of it are at or above it
abbrev pub AreSeparated : List ℕ → List BranchView → Type 0
AreSeparated [] children = ⊤
AreSeparated (separator ∷ separators) [] = ⊤
AreSeparated (separator ∷ separators) (child ∷ children) =
    SlicesBelow separator (joined child.borders) × AllByRecursion (λ right. SlicesFrom separator (joined right.borders)) children
    × AreSeparated separators children

-- an interior node has 2 to MOST_CHILDREN children, and between each two neighbours one separator, which separates their slices
pub record IsInterior (node : InteriorView) : Type 0 where
  pub two : 2 ≤ length node.children
  pub most : length node.children ≤ MOST_CHILDREN
  pub between : length node.separators + 1 ≡ length node.children
  pub separated : AreSeparated node.separators node.children

-- branch by branch, the interior nodes of these branches: a branch of height 0 is one border and has none; a higher one has a node whose children,
-- all one level lower, hold its borders, and then has the interior nodes of these children; so all borders are equally deep
pub data HaveInteriors : List BranchView → List InteriorView → Type 0 where
  none : HaveInteriors [] []
  border : {b : List PlaceView} {bs : List BranchView} {ns : List InteriorView}
      → HaveInteriors bs ns → HaveInteriors (record { borders = b ∷ []; height = 0 } ∷ bs) ns
  interior : {n : InteriorView} {h : ℕ} {bs : List BranchView} {lower ns : List InteriorView}
      → AllByRecursion (λ b. b.height ≡ h) n.children → HaveInteriors n.children lower → HaveInteriors bs ns
      → HaveInteriors (record { borders = flat_map (λ b. b.borders) n.children; height = suc h } ∷ bs) (n ∷ (lower ++ ns))

-- a tree, as the node above its root sees it
abbrev pub as_branch : LayerView → BranchView
as_branch tree = record { borders = tree.borders; height = tree.height }

-- the law of the tree of one layer: it has at least one border, each border has 1 to MOST_PLACES places, no slice is in two of them, the places are
-- a lawful layer, and lawful interior nodes stand above the borders
pub record IsLayerTree (tree : LayerView) : Type 0 where
  pub some : 1 ≤ length tree.borders
  pub each : AllByRecursion IsBorder tree.borders
  pub apart : SlicesApart tree.borders
  pub layer : IsLayer (joined tree.borders)
  pub interiors : AllByRecursion IsInterior tree.interiors
  pub shape : HaveInteriors (as_branch tree ∷ []) tree.interiors

-- link by link, the layers below these links, each a list of borders: first the layer that has the link's walk, and then the layers below its own links
pub data AreLinked : List (List Pair) → List (List (List PlaceView)) → Type 0 where
  unlinked : AreLinked [] []
  linked : {layer : List (List PlaceView)} {walks : List (List Pair)} {lower layers : List (List (List PlaceView))}
      → AreLinked (linked_walks (joined layer)) lower → AreLinked walks layers
      → AreLinked (walk (joined layer) ∷ walks) (layer ∷ (lower ++ layers))

-- the borders of each of these trees
abbrev pub each_borders : List LayerView → List (List (List PlaceView))
each_borders = map (λ tree. tree.borders)

-- the trees below the links of these places, each before those below its own links, all lawful
pub record AreBelow (held : List PlaceView) (trees : List LayerView) : Type 0 where
  pub lawful : AllByRecursion IsLayerTree trees
  pub linked : AreLinked (linked_walks held) (each_borders trees)

-- the number of trees, capped at the greatest number that 64 bits hold
abbrev pub IsTreeCount : List LayerView → ℕ → Type 0
IsTreeCount trees count = count ≡ min (length trees) (2 ^ 64 - 1)

-- the law of a node: its own tree is lawful, and so is each tree below a link, at any depth
pub record IsNode (node : NodeView) : Type 0 where
  pub tree : IsLayerTree node.tree
  pub below : AreBelow (places node) node.below
