use Rattle.mt_laws.proofs.Deleted.{none_becomes_valid}
use Rattle.mt_laws.proofs.resuming.deleting_makes_no_checkpoint_valid.Goals as goal

pub returns : goal.returns
returns c = λ before after cutoff chosen is are. none_becomes_valid before after cutoff chosen is are
