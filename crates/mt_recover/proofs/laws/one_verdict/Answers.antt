use Rattle.mt_recover.proofs.OneVerdict.{one_store, one_verdict, no_verdict}
use Rattle.mt_recover.proofs.laws.one_verdict.Goals as goal

pub returns-clause-one_store : goal.returns-clause-one_store
returns-clause-one_store c = λ logs parts pairs others is too. one_store logs parts pairs others is too

pub returns-clause-one_fault : goal.returns-clause-one_fault
returns-clause-one_fault c = λ logs parts fault other is too. one_verdict logs parts fault other is too

pub returns-clause-not_both : goal.returns-clause-not_both
returns-clause-not_both c = λ logs parts pairs fault is too. no_verdict logs parts pairs fault is too
