use Rattle.std.proofs.Common.{take}
use Rattle.mt_tree.specs.Nodes.{SlicesBelow}
use Rattle.mt_tree.specs.Steps.Places.{views}
use Rattle.mt_tree.specs.Borders.{layer_walk}
use Rattle.mt_tree.proofs.layer.count_below.Given as goal

-- the slices so far are below the given one
abbrev pub invariant-loop-at : goal.invariant-loop-at
invariant-loop-at l = SlicesBelow l.slice (views layer_walk (take l.at l.places))
