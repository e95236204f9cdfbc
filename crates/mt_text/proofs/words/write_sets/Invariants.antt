use Rattle.std.proofs.Common.{take}
use Rattle.std.specs.List.{flat_map}
use Rattle.std.specs.Io.KnownBytes.{Appends}
use Rattle.mt_text.specs.RecordText.{set_word}
use Rattle.mt_text.proofs.words.write_sets.Given as goal

abbrev pub invariant-loop-column : goal.invariant-loop-column
invariant-loop-column g l = let contents = g.W.Write.contents in Appends (contents l.fn.out) (contents l.out) (flat_map set_word (take l.column-index l.columns))
