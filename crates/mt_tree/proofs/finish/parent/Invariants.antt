use Rattle.std.proofs.Common.{◌≡◌, map, take, length}
use Rattle.mt_tree.specs.Steps.Levels.{first_of}
use Rattle.mt_tree.proofs.finish.parent.Given as goal

abbrev pub invariant-loop-child : goal.invariant-loop-child
invariant-loop-child l = record {
  heads : l.separators.items ≡ map first_of (take l.child-index l.child-items);
  count : length l.separators.items ≡ l.child-index;
}
