use Rattle.std.proofs.Common.{◌≡◌, List, ℕ, ◌++◌, length}
use Rattle.std.specs.Prelude.{All}
use Rattle.mt_block.specs.declared.block.TheConstants.{MOST_BODY}
use Rattle.mt_block.specs.Blocks.{IsBody, blocks}
use Rattle.mt_block.specs.Sealing.{joined}
use Rattle.mt_block.proofs.seal.append_blocks.Given as goal

-- the blocks of these bodies were appended
abbrev pub invariant-full : goal.invariant-full
invariant-full l = record {
  full : List (List ℕ);
  joins : l.bytes ≡ joined full ++ l.rest;
  are_full : All (λ body. length body ≡ MOST_BODY) full;
  are_bodies : All IsBody full;
  spelled : l.out.items ≡ l.fn.out.items ++ blocks l.mark full;
}

abbrev pub decreases-full : goal.decreases-full
decreases-full l = length l.rest
