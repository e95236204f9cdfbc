use Rattle.std.proofs.Common.{rules}
use Rattle.mt_tree.proofs.Links.{stored_are}
use Rattle.mt_tree.proofs.layer.Layer.single.Goals as goal

pub returns-clause-lawful : goal.returns-clause-lawful
returns-clause-lawful c = stored_are _ (search rules)
