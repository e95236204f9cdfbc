use Rattle.mt_c.proofs.Pairs.{range_whole}
use Rattle.mt_c.proofs.ranging.range_in.Goals as goal

pub returns : goal.returns
returns c = range_whole c.getrange.result c.all.result c.args.store.now c.args.start.now c.args.n c.all.ensures.whole c.tree.ensures.lawful.1 c.getrange.ensures
