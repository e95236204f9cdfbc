use Rattle.std.proofs.Common.{◌≡◌, ◌++◌, ℕ, List, length}
use Rattle.std.specs.Prelude.{codes}
use Rattle.std.specs.List.{flat_map}
use Rattle.std.specs.Io.KnownBytes.{Appends}
use Rattle.hex.specs.Hex.{encode_lower}
use Rattle.mt_text.specs.Pairs.{column_text}
use Rattle.mt_text.proofs.pairs.write_pair.Given as goal

-- what is written and the columns that are left are the line but for its end
abbrev pub invariant-loop-number : goal.invariant-loop-number
invariant-loop-number g l = let contents = g.W.Write.contents in record {
  text : List ℕ;
  written : Appends (contents l.fn.out) (contents l.out) text;
  whole : text ++ flat_map column_text l.rest ≡ (encode_lower l.key ++ codes ":") ++ flat_map column_text l.columns;
}

abbrev pub decreases-loop-number : goal.decreases-loop-number
decreases-loop-number g l = length l.rest
