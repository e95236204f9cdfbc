use Rattle.mt_c.proofs.Stores.{store_held}
use Rattle.mt_c.proofs.recovering.mtr_recover.Goals as goal

pub returns-in-Ok-recover-clause-done : goal.returns-in-Ok-recover-clause-done
returns-in-Ok-recover-clause-done c = λ logs parts inputs done.
    let fed = c.in-Ok.ensures logs parts (c.in-Some.ensures.taken logs parts inputs) in
    store_held logs parts c.begin_store.new.place.handle.value c.in-Ok-recover.recovered (c.in-Ok-recover.ensures.recovery logs parts fed).value (c.in-Ok-recover.ensures.whole logs parts fed) (c.begin_store.ensures.done done)

pub returns-in-Err-clause-fault : goal.returns-in-Err-clause-fault
returns-in-Err-clause-fault c = λ logs parts inputs is.
    let fed = c.in-Ok.ensures logs parts (c.in-Some.ensures.taken logs parts inputs) in
    let told = c.tell.ensures.fault is in
    record { fault = c.in-Err.found; answered = (c.in-Err.ensures.recovery logs parts fed).fault; named = told.0; is_told = told.1 }
