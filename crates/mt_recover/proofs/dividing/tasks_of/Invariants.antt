use Rattle.std.proofs.Common.{◌≡◌, ◌++◌, map}
use Rattle.std.specs.Vec.Iter.{into_iter_items}
use Rattle.mt_recover.specs.Tasks.{divide_task}
use Rattle.mt_recover.proofs.dividing.tasks_of.Given as goal

-- the tasks of the batches so far
abbrev pub invariant-loop-batch : goal.invariant-loop-batch
invariant-loop-batch l = record {
  rest : l.yielded ++ into_iter_items l.batch-iterator ≡ l.fn.batches.items;
  tasks : l.tasks.items ≡ map (divide_task l.window l.cuts) l.yielded;
}
