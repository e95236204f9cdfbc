use Rattle.std.proofs.Common.{◌≡◌, List, ℕ, length}
use Rattle.mt_block.specs.Blocks.{mark_of, Begins}
use Rattle.mt_record.specs.Opening.{text_of}
use Rattle.mt_record.specs.OpenFiles.{places}
use Rattle.mt_record.proofs.open.open_file.Given as goal

-- these blocks were read
abbrev pub invariant-read : goal.invariant-read
invariant-read l = record {
  mark : l.mark ≡ mark_of l.header;
  bodies : List (List ℕ);
  begins : Begins l.bytes l.header bodies l.rest;
  is_text : l.text.items ≡ text_of l.header bodies;
  stand : l.blocks.items ≡ places 44 20 bodies;
}

abbrev pub decreases-read : goal.decreases-read
decreases-read l = length l.rest
