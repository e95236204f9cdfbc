use Rattle.std.proofs.Common.{◌≡◌, ◌≤◌, ◌++◌, length}
use Rattle.std.specs.Vec.Iter.{into_iter_items}
use Rattle.mt_replay.specs.Steps.Dealing.{extended}
use Rattle.mt_replay.proofs.dealing.extend.Given as goal

-- the first ranges are extended
abbrev pub invariant-loop-list : goal.invariant-loop-list
invariant-loop-list l = record {
  rest : l.yielded ++ into_iter_items l.list-iterator ≡ l.fn.dealt;
  place : l.piece ≡ length l.yielded;
  within : l.piece ≤ length l.ranges;
  more : l.ranges ≡ extended l.initial.ranges l.yielded;
}
