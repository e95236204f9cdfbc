use Rattle.std.proofs.Common.{[], rules}
use Rattle.mt_tree.proofs.Joins.{rising_middle}
use Rattle.mt_tree.proofs.tree.Draft.push.Goals as goal

pub push-requires : goal.push-requires
push-requires c = let above = rising_middle _ (c.args.key.now, c.args.columns) [] c.requires.rises in search rules
