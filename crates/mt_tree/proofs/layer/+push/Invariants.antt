use Rattle.std.proofs.Common.{◌+◌, ◌*◌}
use Rattle.mt_tree.specs.Layer.{walk}
use Rattle.mt_tree.specs.Steps.Pairs.{weight}
use Rattle.mt_tree.specs.Steps.DraftViews.{border_views}
use Rattle.mt_tree.specs.Borders.{borders_walk, layer_walk}
use Rattle.mt_tree.specs.Steps.Places.{views}
use Rattle.mt_tree.proofs.layer.+push.Given as goal

abbrev pub decreases-Layer::push : goal.decreases-Layer::push
decreases-Layer::push l = 4 * weight (layer_walk l.self.now) + 3

abbrev pub decreases-push_last : goal.decreases-push_last
decreases-push_last l = 4 * weight (borders_walk (border_views l.borders.now.items)) + 2

abbrev pub decreases-follow : goal.decreases-follow
decreases-follow l = 4 * weight (walk (views layer_walk l.places.now.items)) + 1

abbrev pub decreases-push_below : goal.decreases-push_below
decreases-push_below l = 4 * weight (walk (views layer_walk l.places.now.items))
