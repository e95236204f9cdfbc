use Rattle.mt_laws.proofs.Bursts.{seen_in_log, one_begins}
use Rattle.mt_laws.proofs.BurstStores.{seen_by_all, fault_by_all}
use Rattle.mt_laws.proofs.damage.a_changed_bit_is_seen.Goals as goal

pub returns-clause-log : goal.returns-clause-log
returns-clause-log c = seen_in_log

pub returns-clause-beginning : goal.returns-clause-beginning
returns-clause-beginning c = one_begins

pub returns-clause-recovery : goal.returns-clause-recovery
returns-clause-recovery c = seen_by_all

pub returns-clause-refusal : goal.returns-clause-refusal
returns-clause-refusal c = λ logs others parts fault burst log is verdict. fault_by_all logs others parts burst log is fault verdict
