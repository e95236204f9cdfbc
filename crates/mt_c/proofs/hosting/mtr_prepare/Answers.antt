use Rattle.mt_c.proofs.Stores.{job_held}
use Rattle.mt_c.proofs.hosting.mtr_prepare.Goals as goal

pub returns-in-Ok-divide-2-clause-done : goal.returns-in-Ok-divide-2-clause-done
returns-in-Ok-divide-2-clause-done c = λ logs parts inputs done.
    let fed = c.in-Ok.ensures logs parts (c.in-Some-take_inputs.ensures.taken logs parts inputs) in
    job_held logs parts c.begin.new.self.handle.value _ _ (c.in-Ok-divide.ensures.divided logs parts fed).value (c.in-Ok-divide.ensures.whole logs parts fed) (c.begin.ensures.done done) c.in-Ok-divide-2.ensures.step

pub returns-in-Err-clause-fault : goal.returns-in-Err-clause-fault
returns-in-Err-clause-fault c = λ logs parts inputs is.
    let fed = c.in-Ok.ensures logs parts (c.in-Some-take_inputs.ensures.taken logs parts inputs) in
    let told = c.tell.ensures.fault is in
    record { fault = c.in-Err.found; answered = (c.in-Err.ensures.divided logs parts fed).fault; named = told.0; is_told = told.1 }
