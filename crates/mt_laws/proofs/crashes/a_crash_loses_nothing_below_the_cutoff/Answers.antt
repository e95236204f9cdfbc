use Rattle.mt_laws.proofs.Lost.{nothing_lost, same_store}
use Rattle.mt_laws.proofs.crashes.a_crash_loses_nothing_below_the_cutoff.Goals as goal

pub returns-clause-survivors : goal.returns-clause-survivors
returns-clause-survivors c = λ left histories readings cutoff chosen crash are is none. nothing_lost left histories readings cutoff chosen crash are is none

pub returns-clause-store : goal.returns-clause-store
returns-clause-store c = λ left parts histories pairs crash store. same_store left parts histories pairs crash store
