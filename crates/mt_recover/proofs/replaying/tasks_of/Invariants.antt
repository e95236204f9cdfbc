use Rattle.std.proofs.Common.{◌≡◌, ◌++◌, map}
use Rattle.std.specs.Arc.{arc_value}
use Rattle.std.specs.List.{All}
use Rattle.std.specs.Vec.Iter.{into_iter_items}
use Rattle.mt_board.specs.Queue.{fresh_consumer}
use Rattle.mt_recover.specs.Steps.Replaying.{task_of}
use Rattle.mt_recover.proofs.replaying.tasks_of.Given as goal

-- the tasks of the consumers so far
abbrev pub invariant-loop-consumer : goal.invariant-loop-consumer
invariant-loop-consumer l = record {
  rest : l.yielded ++ into_iter_items l.consumer-iterator ≡ l.fn.consumers.items;
  tasks : l.tasks.items ≡ map (λ _. task_of (arc_value l.base)) l.yielded;
  left : All (λ consumer. consumer ≡ fresh_consumer (arc_value l.base).pieces consumer.number) (into_iter_items l.consumer-iterator);
}
