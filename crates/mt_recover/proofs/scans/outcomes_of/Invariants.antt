use Rattle.std.proofs.Common.{◌≡◌, ◌++◌}
use Rattle.std.specs.Vec.Iter.{into_iter_items}
use Rattle.mt_recover.specs.Steps.Scanning.{logs_in, part_scans_in}
use Rattle.mt_recover.proofs.scans.outcomes_of.Given as goal

-- the first answers are separated
abbrev pub invariant-loop-answer : goal.invariant-loop-answer
invariant-loop-answer l = record {
  rest : l.yielded ++ into_iter_items l.answer-iterator ≡ l.fn.scanned.items;
  logs : l.outcomes.logs.items ≡ logs_in l.yielded;
  parts : l.outcomes.parts.items ≡ part_scans_in l.yielded;
}
