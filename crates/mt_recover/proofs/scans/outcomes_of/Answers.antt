use Rattle.std.proofs.Common.{append_assoc}
use Rattle.mt_recover.specs.Steps.Scanning.{log_in, part_in}
use Rattle.mt_recover.proofs.ScanLemmas.{next_told}
use Rattle.mt_recover.proofs.scans.outcomes_of.Goals as goal

pub loop-answer-preserved : goal.loop-answer-preserved
loop-answer-preserved c =
    let I = c.loop-answer.invariant in
    let outcomes = c.loop-answer.outcomes in
    record {
      rest = rw append_assoc (rw c.in-Some.ensures.steps.0 at I.rest);
      logs = next_told log_in c.loop-answer.yielded c.in-Some.answer outcomes.logs.items c.add.new.self.logs.items I.logs c.in_ok-add.ensures.logs;
      parts = next_told part_in c.loop-answer.yielded c.in-Some.answer outcomes.parts.items c.add.new.self.parts.items I.parts c.in_ok-add.ensures.parts;
    }
