use Rattle.std.proofs.Common.{◌-◌, ◌∙◌, arith}
use Rattle.mt_record.proofs.TextLemmas.{start_by}
use Rattle.mt_record.proofs.kept.block.start_of.Goals as goal

pub returns : goal.returns
returns c = c.get.ensures 0 ∙ start_by c.args.ends.now c.args.at (c.args.at - 1) (omega (arith, c.if-at-eq0.false)) (omega (arith, c.requires, c.if-at-eq0.false))
