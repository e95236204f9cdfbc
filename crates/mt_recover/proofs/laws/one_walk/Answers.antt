use Rattle.mt_recover.proofs.Apart.{logs_apart}
use Rattle.mt_recover.proofs.SurvivorLemmas.{survivors_apart}
use Rattle.mt_recover.proofs.OneWalk.{one_walk}
use Rattle.mt_recover.proofs.laws.one_walk.Goals as goal

pub returns-clause-apart : goal.returns-clause-apart
returns-clause-apart c = λ logs u w at here same. logs_apart 0 logs u w at here same

pub returns-clause-survivors : goal.returns-clause-survivors
returns-clause-survivors c = λ parts cutoff chosen logs is. survivors_apart parts cutoff chosen logs is

pub returns-clause-one : goal.returns-clause-one
returns-clause-one c = λ updates pairs others is too. one_walk updates pairs others is too
