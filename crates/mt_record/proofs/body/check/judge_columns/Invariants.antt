use Rattle.std.proofs.Common.{◌-◌, ◌++◌, List, ℕ}
use Rattle.mt_words.specs.Limits.{limits_of}
use Rattle.mt_record.specs.Steps.Bodies.{HasColumns, AreSpelled}
use Rattle.mt_record.proofs.Checked.{AreSoFar}
use Rattle.mt_record.proofs.body.check.judge_columns.Given as goal

-- If the bytes are columns, they are the columns so far and those in the rest.
abbrev pub invariant-loop : goal.invariant-loop
invariant-loop l = record {
  front : List (ℕ × List ℕ);
  left : HasColumns l.count l.bytes → HasColumns (l.count - l.counter) l.rest;
  joins : (more : List (ℕ × List ℕ)) → AreSpelled (l.count - l.counter) l.rest more → AreSpelled l.count l.bytes (front ++ more);
  so_far : AreSoFar (limits_of l.fn.format) front l.allowed l.least;
}
