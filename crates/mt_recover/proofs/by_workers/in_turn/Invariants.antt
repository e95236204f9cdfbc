use Rattle.std.proofs.Common.{◌≡◌, ◌++◌}
use Rattle.std.specs.List.{AllZip}
use Rattle.std.specs.Vec.Iter.{into_iter_items}
use Rattle.mt_recover.proofs.by_workers.in_turn.Given as goal

-- the first jobs are done
abbrev pub invariant-loop-job : goal.invariant-loop-job
invariant-loop-job g l = record {
  rest : l.yielded ++ into_iter_items l.job-iterator ≡ l.fn.jobs.items;
  done : AllZip (λ job answer. goal.F-post g l.work job answer) l.yielded l.answers.items;
}
