use Rattle.std.proofs.Common.{take}
use Rattle.std.specs.Prelude.{decimal}
use Rattle.std.specs.List.{flat_map}
use Rattle.std.specs.Io.KnownBytes.{Appends}
use Rattle.mt_text.specs.RecordJson.{after_comma}
use Rattle.mt_text.proofs.json.write_more_numbers.Given as goal

abbrev pub invariant-loop-number : goal.invariant-loop-number
invariant-loop-number g l = let contents = g.W.Write.contents in Appends (contents l.fn.out) (contents l.out) (flat_map (after_comma decimal) (take l.number-index l.numbers))
