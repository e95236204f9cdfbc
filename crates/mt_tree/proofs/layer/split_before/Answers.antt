use Rattle.std.proofs.Common.{rules}
use Rattle.mt_tree.proofs.Puts.{parted}
use Rattle.mt_tree.proofs.layer.split_before.Goals as goal

pub returns-clause-same : goal.returns-clause-same
returns-clause-same c = parted c.args.places.now.items c.split_off.new.self.items c.in_ok-split_off.field-0.items c.count_below-start.result (search rules) (search rules)
