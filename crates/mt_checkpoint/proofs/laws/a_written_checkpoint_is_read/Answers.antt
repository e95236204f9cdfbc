use Rattle.mt_checkpoint.proofs.Sound.{part_is_read, all_entries, log_is_read}
use Rattle.mt_checkpoint.proofs.laws.a_written_checkpoint_is_read.Goals as goal

pub returns : goal.returns
returns c = record { parts = part_is_read; entries = all_entries; log = log_is_read }
