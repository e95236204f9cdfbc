use Rattle.std.proofs.Common.{inr, []}
use Rattle.mt_scan.proofs.Stretched.{reads_none, reads_both}
use Rattle.mt_scan.proofs.stretches.Reader.fill.Goals as goal

pub pieces-init : goal.pieces-init
pieces-init g c = reads_none g.S.Source.seen c.args.self.now

pub pieces-preserved : goal.pieces-preserved
pieces-preserved g c = reads_both g.S.Source.seen c.args.self.now c.pieces.self c.read_piece.new.self [] [] c.pieces.invariant c.in_ok-more.ensures.reads

pub pieces-smaller : goal.pieces-smaller
pieces-smaller g c = rw c.if-not-more.false at c.in_ok-more.ensures.more

pub returns-then-not-more-clause-reads : goal.returns-then-not-more-clause-reads
returns-then-not-more-clause-reads g c = reads_both g.S.Source.seen c.args.self.now c.pieces.self c.read_piece.new.self [] [] c.pieces.invariant c.in_ok-more.ensures.reads

pub returns-then-not-more-clause-full : goal.returns-then-not-more-clause-full
returns-then-not-more-clause-full g c = inr (rw c.if-not-more.true at c.in_ok-more.ensures.more)
