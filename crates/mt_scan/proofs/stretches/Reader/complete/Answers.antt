use Rattle.std.proofs.Common.{[], arith}
use Rattle.mt_scan.proofs.Stretched.{reads_both, over_at}
use Rattle.mt_scan.proofs.stretches.Reader.complete.Goals as goal

pub returns-then-size-gt0-2-clause-reads : goal.returns-then-size-gt0-2-clause-reads
returns-then-size-gt0-2-clause-reads g c = reads_both g.S.Source.seen c.args.self.now c.cut.new.self c.cut-2.new.self [] [] c.in_ok-size.ensures.reads c.in_ok-size-2.ensures.reads

pub returns-clause-reads : goal.returns-clause-reads
returns-clause-reads g c = reads_both g.S.Source.seen c.args.self.now c.cut.new.self c.cut-2.new.self [] [] c.in_ok-size.ensures.reads c.in_ok-size-2.ensures.reads

pub returns-clause-none : goal.returns-clause-none
returns-clause-none g c none = over_at 16777216 c.cut-2.new.self (omega arith) c.in_ok-size-2.ensures.full (omega (arith, none, c.len.ensures, c.cut-2.new.self.rest.ok.0))
