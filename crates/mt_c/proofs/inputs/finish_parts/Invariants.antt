use Rattle.std.proofs.Common.{◌≡◌, List, ◌++◌}
use Rattle.std.specs.List.{AllZip}
use Rattle.std.specs.Vec.Iter.{into_iter_items}
use Rattle.mt_recover.specs.Fed.{Input, AreFed}
use Rattle.mt_c.specs.Added.{IsPart}
use Rattle.mt_c.proofs.inputs.finish_parts.Given as goal

-- the first parts are appended
abbrev pub invariant-loop-part : goal.invariant-loop-part
invariant-loop-part l = record {
  rest : l.yielded ++ into_iter_items l.part-iterator ≡ l.fn.parts.items;
  fed : (logs before more : List Input) → AreFed logs before l.fn.fed → AllZip IsPart more l.yielded → AreFed logs (before ++ more) l.fed;
}
