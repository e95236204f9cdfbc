use Rattle.std.proofs.Common.{[]}
use Rattle.mt_scan.specs.Steps.Stretches.{ReadsOn}
use Rattle.mt_scan.proofs.stretches.Reader.fill.Given as goal

abbrev pub invariant-pieces : goal.invariant-pieces
invariant-pieces g l = ReadsOn g.S.Source.seen l.fn.self l.self []

abbrev pub decreases-pieces : goal.decreases-pieces
decreases-pieces g l = (g.S.Source.seen l.self.source).bound
