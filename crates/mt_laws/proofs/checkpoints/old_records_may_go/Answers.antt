use Rattle.mt_laws.proofs.Renamed.{same_store_since}
use Rattle.mt_laws.proofs.checkpoints.old_records_may_go.Goals as goal

pub returns : goal.returns
returns c = λ kept full cutoff chosen pairs same. same_store_since kept full cutoff chosen pairs same
