use Rattle.mt_laws.proofs.Lost.{none_unsafe}
use Rattle.mt_laws.proofs.Synced.{left_beyond}
use Rattle.mt_laws.proofs.crashes.acknowledged_is_safe.Goals as goal

pub returns-clause-synced : goal.returns-clause-synced
returns-clause-synced c = λ left readings time are synced last has. left_beyond left readings time are synced last has

pub returns-clause-survives : goal.returns-clause-survives
returns-clause-survives c = λ left parts histories pairs time crash store beyond u at low high. none_unsafe left parts histories pairs time crash store beyond u at low high
