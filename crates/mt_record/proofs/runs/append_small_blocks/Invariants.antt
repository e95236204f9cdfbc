use Rattle.std.proofs.Common.{◌≡◌, List, ℕ, ◌++◌, length}
use Rattle.std.specs.Prelude.{All}
use Rattle.mt_block.specs.Blocks.{IsBody, blocks}
use Rattle.mt_record.specs.Opening.{joined}
use Rattle.mt_record.specs.Runs.{IsSmall}
use Rattle.mt_record.specs.Steps.Runs.{AreFitting}
use Rattle.mt_record.proofs.runs.append_small_blocks.Given as goal

-- small blocks of the first records were appended
abbrev pub invariant-runs : goal.invariant-runs
invariant-runs l = record {
  bodies : List (List ℕ);
  joins : l.records ≡ joined bodies ++ l.rest;
  are_bodies : All IsBody bodies;
  are_small : All IsSmall bodies;
  spelled : l.out.items ≡ l.fn.out.items ++ blocks l.mark bodies;
  left : AreFitting l.rest;
}

abbrev pub decreases-runs : goal.decreases-runs
decreases-runs l = length l.rest
