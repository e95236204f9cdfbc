use Rattle.std.proofs.Common.{◌≡◌, ◌++◌}
use Rattle.std.specs.List.{AllZip}
use Rattle.std.specs.Vec.Iter.{into_iter_items}
use Rattle.mt_recover.specs.Steps.Replaying.{AreReplaysOf}
use Rattle.mt_recover.proofs.replaying.turns_of.Given as goal

-- what the tasks so far did
abbrev pub invariant-loop-task : goal.invariant-loop-task
invariant-loop-task l = record {
  rest : l.yielded ++ into_iter_items l.task-iterator ≡ l.fn.done.items;
  turns : AllZip (λ task turn. AreReplaysOf task turn.0.items turn.1) l.yielded l.turns.items;
}
