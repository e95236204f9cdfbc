use Rattle.std.proofs.Common.{◌≡◌, ◌++◌}
use Rattle.std.specs.Vec.Iter.{into_iter_items}
use Rattle.mt_recover.specs.Steps.Scanning.{HasScanned}
use Rattle.mt_recover.proofs.scans.scan_on_threads.Given as goal

-- the first sources are scanned
abbrev pub invariant-loop-job : goal.invariant-loop-job
invariant-loop-job g l = record {
  rest : l.yielded ++ into_iter_items l.job-iterator ≡ l.fn.share.0.items;
  has : HasScanned g.S.Source.seen l.yielded l.answers.items l.fn.share.1 l.pass;
}
