use Rattle.std.proofs.Common.{length, ◌-◌}
use Rattle.mt_record.specs.Steps.Runs.{IsRun}
use Rattle.mt_record.proofs.runs.run_size.Given as goal

abbrev pub invariant-next : goal.invariant-next
invariant-next l = IsRun l.records l.size

abbrev pub decreases-next : goal.decreases-next
decreases-next l = length l.records - l.size
