use Rattle.std.proofs.Common.{refl}
use Rattle.mt_scan.proofs.Stretched.{then_same}
use Rattle.mt_scan.proofs.stretches.Reader.cut.Goals as goal

pub returns-clause-reads : goal.returns-clause-reads
returns-clause-reads g c = then_same g.S.Source.seen c.args.self.now c.fill.new.self _ c.in_ok-fill.ensures.reads refl refl refl refl
