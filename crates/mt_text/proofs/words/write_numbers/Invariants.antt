use Rattle.std.proofs.Common.{take}
use Rattle.std.specs.List.{flat_map}
use Rattle.std.specs.Io.KnownBytes.{Appends}
use Rattle.mt_text.specs.RecordText.{number_word}
use Rattle.mt_text.proofs.words.write_numbers.Given as goal

abbrev pub invariant-loop-number : goal.invariant-loop-number
invariant-loop-number g l = let contents = g.W.Write.contents in Appends (contents l.fn.out) (contents l.out) (flat_map number_word (take l.number-index l.numbers))
