use Rattle.mt_laws.proofs.History.{store_of_history, in_the_history}
use Rattle.mt_laws.proofs.checkpoints.acknowledged_is_in_the_history.Goals as goal

pub returns-clause-store : goal.returns-clause-store
returns-clause-store c = λ left parts kept full pairs crash store stand. store_of_history left parts kept full pairs crash store stand

pub returns-clause-acknowledged : goal.returns-clause-acknowledged
returns-clause-acknowledged c = λ left parts full pairs time store synced u at before. in_the_history left parts full pairs time store synced u at before
