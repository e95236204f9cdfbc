use Rattle.std.proofs.Common.{◌-◌, ◌≤◌, length, map}
use Rattle.mt_words.specs.Walks.{joined}
use Rattle.mt_scan.specs.Steps.Stretches.{ReadsOn}
use Rattle.mt_scan.proofs.stretches.Reader.read.Given as goal

-- these stretches were read, of which none is empty
abbrev pub invariant-stretches : goal.invariant-stretches
invariant-stretches g l = record {
  reads : ReadsOn g.S.Source.seen l.fn.self l.reader (joined (map (λ stretch. stretch.items) l.stretches.items));
  some : length l.stretches.items ≤ length (joined (map (λ stretch. stretch.items) l.stretches.items));
}

abbrev pub decreases-stretches : goal.decreases-stretches
decreases-stretches g l = l.count - length l.stretches.items
