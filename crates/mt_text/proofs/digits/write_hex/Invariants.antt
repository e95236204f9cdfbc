use Rattle.std.proofs.Common.{◌≡◌, ◌++◌, List, ℕ, length}
use Rattle.std.specs.Io.KnownBytes.{Appends}
use Rattle.hex.specs.Hex.{encode_lower}
use Rattle.mt_text.proofs.digits.write_hex.Given as goal

-- the bytes printed so far, and the rest
abbrev pub invariant-loop-rest : goal.invariant-loop-rest
invariant-loop-rest g l = let contents = g.W.Write.contents in record {
  done : List ℕ;
  parts : l.bytes ≡ done ++ l.rest;
  printed : Appends (contents l.fn.out) (contents l.out) (encode_lower done);
}

abbrev pub decreases-loop-rest : goal.decreases-loop-rest
decreases-loop-rest g l = length l.rest
