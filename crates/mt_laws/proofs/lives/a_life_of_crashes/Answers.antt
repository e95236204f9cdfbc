use Rattle.mt_laws.proofs.Living.{life_has_store, life_store, life_keeps, life_goes_on}
use Rattle.mt_laws.proofs.Acknowledging.{life_acknowledges}
use Rattle.mt_laws.proofs.Restart.{life_starts_afresh}
use Rattle.mt_laws.proofs.SomeLife.{some_life}
use Rattle.mt_laws.proofs.SomeSegments.{some_segments}
use Rattle.mt_laws.proofs.lives.a_life_of_crashes.Goals as goal

pub returns-clause-no_fault : goal.returns-clause-no_fault
returns-clause-no_fault c = λ acked logs left parts life. life_has_store acked logs left parts life

pub returns-clause-store : goal.returns-clause-store
returns-clause-store c = λ acked logs left parts pairs life store. life_store acked logs left parts pairs life store

pub returns-clause-acknowledged : goal.returns-clause-acknowledged
returns-clause-acknowledged c = λ acked logs left parts pairs life store u at. life_keeps acked logs left parts pairs life store u at

pub returns-clause-goes_on : goal.returns-clause-goes_on
returns-clause-goes_on c = λ acked logs left parts pairs life store. life_goes_on acked logs left parts pairs life store

pub returns-clause-acknowledges : goal.returns-clause-acknowledges
returns-clause-acknowledges c = λ acked logs checkpoints time change life next. life_acknowledges acked logs checkpoints time change life next

pub returns-clause-afresh : goal.returns-clause-afresh
returns-clause-afresh c = λ acked logs left parts pairs life store fits. life_starts_afresh acked logs left parts pairs life store fits

pub returns-clause-some : goal.returns-clause-some
returns-clause-some c = some_life

pub returns-clause-some_segments : goal.returns-clause-some_segments
returns-clause-some_segments c = some_segments
