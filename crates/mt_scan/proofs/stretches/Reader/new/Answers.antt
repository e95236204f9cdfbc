use Rattle.std.proofs.Common.{refl}
use Rattle.mt_scan.proofs.Stretched.{begins}
use Rattle.mt_scan.proofs.stretches.Reader.new.Goals as goal

pub returns : goal.returns
returns g c = begins g.S.Source.seen _ c.new-rest.ensures.items refl refl
