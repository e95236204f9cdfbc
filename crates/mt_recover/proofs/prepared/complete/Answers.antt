use Rattle.std.proofs.Common.{◌≡◌, ◌∙◌, Option, Some, None, List, length, refl, sym, ap, subst}
use Rattle.mt_words.specs.Walks.{IsMap, Pair}
use Rattle.mt_tree.specs.Borders.{layer_walk, borders_walk}
use Rattle.mt_tree.specs.Layer.{PlaceView}
use Rattle.mt_tree.specs.Layers.{CountsLayers}
use Rattle.mt_tree.specs.Nodes.{NodeView}
use Rattle.mt_tree.specs.Trees.{tree_walk, tree_borders}
use Rattle.mt_recover.specs.Prepared.{IsMadeOf, reported}
use Rattle.mt_recover.proofs.Preparing.{count_is}
use Rattle.mt_recover.proofs.prepared.complete.Goals as goal

-- the walk of a tree is that of its borders
same_walk : (tree : Option NodeView) (borders : List (List PlaceView)) → tree_borders tree ≡ borders → borders_walk borders ≡ tree_walk tree
same_walk None borders are = ap borders_walk (sym are)
same_walk (Some node) borders are = ap borders_walk (sym are)

pub of-requires : goal.of-requires
of-requires c = subst IsMap (same_walk c.in_ok-tree.tree c.args.draft.borders c.in_ok-tree.ensures.borders) c.requires

pub returns : goal.returns
returns c = λ prepared is walk survivors few.
    let pairs : List Pair = layer_walk c.args.draft in
    let own = same_walk c.in_ok-tree.tree c.args.draft.borders c.in_ok-tree.ensures.borders in
    let keys = count_is prepared.updates pairs c.args.report.survivors c.len-keys.result walk survivors few c.len-keys.ensures in
    let store = c.of.ensures ∙ sym own in
    let report : record c.args.report { keys = c.len-keys.result; layers = c.layers-layers.result } ≡ reported prepared (length pairs) c.layers-layers.result =
    λ i. record (sym is i) { keys = keys i; layers = c.layers-layers.result } in
    subst (IsMadeOf prepared) (sym (c.of-2.ensures ∙ (λ i. record { store = store i; report = report i })))
    (record { walk = walk; layers = subst (λ (p : List Pair). CountsLayers p c.layers-layers.result) (sym own) c.layers-layers.ensures.counts; report = refl })
