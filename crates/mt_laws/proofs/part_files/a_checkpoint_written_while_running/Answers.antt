use Rattle.mt_laws.proofs.NewParts.{with_new_parts}
use Rattle.mt_laws.proofs.part_files.a_checkpoint_written_while_running.Goals as goal

pub returns : goal.returns
returns c = λ checkpoints written number files news are new more valid. with_new_parts checkpoints written number files news are new more valid
