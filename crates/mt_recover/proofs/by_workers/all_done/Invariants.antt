use Rattle.std.proofs.Common.{◌≡◌, ◌++◌, map, Ok}
use Rattle.std.specs.Vec.Iter.{into_iter_items}
use Rattle.mt_recover.proofs.by_workers.all_done.Given as goal

-- the answers so far are Ok
abbrev pub invariant-loop-answer : goal.invariant-loop-answer
invariant-loop-answer g l = record {
  rest : l.yielded ++ into_iter_items l.answer-iterator ≡ l.fn.answers.items;
  done : l.yielded ≡ map Ok l.done.items;
}
