use Rattle.std.proofs.Common.{◌≡◌, List, ◌++◌}
use Rattle.std.specs.List.{AllZip}
use Rattle.std.specs.Vec.Iter.{into_iter_items}
use Rattle.mt_recover.specs.Fed.{Input, AreFed}
use Rattle.mt_c.specs.Added.{IsLog}
use Rattle.mt_c.proofs.inputs.finish_logs.Given as goal

-- the first logs are appended
abbrev pub invariant-loop-log : goal.invariant-loop-log
invariant-loop-log l = record {
  rest : l.yielded ++ into_iter_items l.log-iterator ≡ l.fn.logs.items;
  fed : (before parts more : List Input) → AreFed before parts l.fn.fed → AllZip IsLog more l.yielded → AreFed (before ++ more) parts l.fed;
}
