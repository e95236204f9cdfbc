use Rattle.mt_laws.proofs.Sound.{same_over_sound}
use Rattle.mt_laws.proofs.checkpoints.a_sound_checkpoint_changes_nothing.Goals as goal

pub returns : goal.returns
returns c = λ logs cutoff checkpoint pairs ends sound. same_over_sound logs cutoff checkpoint pairs ends sound
