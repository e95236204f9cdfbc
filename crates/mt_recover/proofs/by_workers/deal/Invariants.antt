use Rattle.std.proofs.Common.{◌≡◌, ◌<◌, ◌≤◌, ◌++◌, List, length, map, max}
use Rattle.mt_recover.specs.Steps.Scanning.{AreDealt}
use Rattle.mt_recover.proofs.by_workers.deal.Given as goal

-- the last jobs are dealt
abbrev pub invariant-loop-job : goal.invariant-loop-job
invariant-loop-job g l = record {
  some : 0 < length l.shares.items;
  few : length l.shares.items ≤ max 1 l.fn.workers;
  dealt : (last : List _) × (l.fn.jobs.items ≡ l.jobs.items ++ last) × AreDealt last (map (λ share. share.items) l.shares.items);
}

abbrev pub decreases-loop-job : goal.decreases-loop-job
decreases-loop-job g l = length l.jobs.items
