use Rattle.std.proofs.Common.{◌≡◌, ◌++◌}
use Rattle.std.specs.Vec.Iter.{into_iter_items}
use Rattle.mt_recover.specs.Steps.Assembling.{all_held}
use Rattle.mt_recover.proofs.assembling.pieces_of.Given as goal

-- the pieces of the hauls so far
abbrev pub invariant-loop-haul : goal.invariant-loop-haul
invariant-loop-haul l = record {
  rest : l.yielded ++ into_iter_items l.haul-iterator ≡ l.fn.hauls.items;
  held : l.pieces.items ≡ all_held l.yielded;
}
