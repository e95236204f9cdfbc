use Rattle.mt_laws.proofs.FreshStores.{fresh_store, fresh_no_fault, fresh_recovered, later_store, goes_on_afresh, fresh_step}
use Rattle.mt_laws.proofs.fresh.a_fresh_start_is_the_same_store.Goals as goal

pub returns-clause-store : goal.returns-clause-store
returns-clause-store c = λ logs parts files log pairs checkpoint store is all read. fresh_store log pairs checkpoint files store.walk.map is all read

pub returns-clause-no_fault : goal.returns-clause-no_fault
returns-clause-no_fault c = λ logs parts files log pairs checkpoint fault store is all read verdict. fresh_no_fault log pairs checkpoint files fault store.walk.map is all read verdict

pub returns-clause-same : goal.returns-clause-same
returns-clause-same c = λ logs parts files log pairs checkpoint outcome store is all read recovered. fresh_recovered log pairs checkpoint files outcome store.walk.map is all read recovered

pub returns-clause-some : goal.returns-clause-some
returns-clause-some c = λ logs parts later files readings pairs checkpoint store is all are on. later_store pairs checkpoint later files readings store.walk.map is all are on

pub returns-clause-goes_on : goal.returns-clause-goes_on
returns-clause-goes_on c = λ logs parts later files before after checkpoint was has version all is past above.
    goes_on_afresh logs parts later files before after checkpoint was has version all is past above

pub returns-clause-step : goal.returns-clause-step
returns-clause-step c = λ logs parts before checkpoint was has at version. fresh_step logs parts before checkpoint was has at version
