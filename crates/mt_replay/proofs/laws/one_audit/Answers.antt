use Rattle.mt_replay.proofs.ClashLemmas.{one_clash, one_of_all}
use Rattle.mt_replay.proofs.laws.one_audit.Goals as goal

pub returns-clause-clash : goal.returns-clause-clash
returns-clause-clash c = one_clash

pub returns-clause-list : goal.returns-clause-list
returns-clause-list c = one_of_all
