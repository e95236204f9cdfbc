use Rattle.std.proofs.Common.{◌≡◌, ◌++◌}
use Rattle.std.specs.List.{AllZip}
use Rattle.std.specs.Vec.Iter.{into_iter_items}
use Rattle.mt_recover.specs.Steps.Preparing.{IsLeftOf}
use Rattle.mt_recover.proofs.dividing.left_by.Given as goal

-- what the tasks so far left
abbrev pub invariant-loop-task : goal.invariant-loop-task
invariant-loop-task l = record {
  rest : l.yielded ++ into_iter_items l.task-iterator ≡ l.fn.done.items;
  left : AllZip IsLeftOf l.yielded l.all.items;
}
