use Rattle.mt_laws.proofs.Timestamps.{later_is_new, all_new}
use Rattle.mt_laws.proofs.lives.versions_may_be_timestamps.Goals as goal

pub returns-clause-new : goal.returns-clause-new
returns-clause-new c = λ updates checkpoints u have later. later_is_new updates checkpoints u have later

pub returns-clause-all : goal.returns-clause-all
returns-clause-all c = λ before after checkpoints have later. all_new before after checkpoints have later
