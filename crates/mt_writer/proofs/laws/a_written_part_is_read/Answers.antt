use Rattle.mt_writer.proofs.PartLemmas.{part_is_read}
use Rattle.mt_writer.proofs.laws.a_written_part_is_read.Goals as goal

pub returns : goal.returns
returns c = part_is_read
