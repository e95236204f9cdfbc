use Rattle.mt_block.proofs.Files.{anything_is_an_end, beginning_is_an_end}
use Rattle.mt_block.proofs.Zeros.{zeros_have_none}
use Rattle.mt_block.proofs.laws.what_a_crash_leaves.Goals as goal

pub returns-clause-zeros : goal.returns-clause-zeros
returns-clause-zeros c = zeros_have_none

pub returns-clause-anything : goal.returns-clause-anything
returns-clause-anything c = anything_is_an_end

pub returns-clause-beginning : goal.returns-clause-beginning
returns-clause-beginning c = beginning_is_an_end
