use Rattle.std.proofs.Common.{◌≡◌, ◌≤◌, None, replicate}
use Rattle.mt_c.proofs.job.no_tasks.Given as goal

-- the places so far
abbrev pub invariant-loop : goal.invariant-loop
invariant-loop l = record {
  within : l.counter ≤ l.count;
  places : l.places.items ≡ replicate l.counter None;
}
