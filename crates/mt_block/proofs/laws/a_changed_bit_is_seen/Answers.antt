use Rattle.mt_block.proofs.Errors.{seen_of}
use Rattle.mt_block.proofs.laws.a_changed_bit_is_seen.Goals as goal

pub returns : goal.returns
returns c = seen_of
