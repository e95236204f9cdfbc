use Rattle.mt_laws.proofs.ResumedStores.{store_on_way, same_on_way, resume_again}
use Rattle.mt_laws.proofs.resuming.resuming_changes_nothing.Goals as goal

pub returns-clause-store : goal.returns-clause-store
returns-clause-store c = λ logs parts now left pairs store way. store_on_way logs parts now left pairs store way

pub returns-clause-same : goal.returns-clause-same
returns-clause-same c = λ logs parts now left pairs store way after. same_on_way logs parts now left pairs store way after

pub returns-clause-again : goal.returns-clause-again
returns-clause-again c = λ logs parts now left after pairs store way found to. resume_again logs parts now left after pairs store way found to
