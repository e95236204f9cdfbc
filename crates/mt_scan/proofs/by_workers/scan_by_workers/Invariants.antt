use Rattle.std.proofs.Common.{◌+◌, length, map}
use Rattle.mt_words.specs.Walks.{joined}
use Rattle.mt_scan.specs.Steps.Feeding.{LooksOn}
use Rattle.mt_scan.specs.Steps.Stretches.{left_in}
use Rattle.mt_scan.proofs.Stretched.{IsUnderWay}
use Rattle.mt_scan.proofs.by_workers.scan_by_workers.Given as goal

-- what the source returned before these stretches is fed with the least number that the pass has seen or a higher one
abbrev pub invariant-rounds : goal.invariant-rounds
invariant-rounds g l = record {
  looks : LooksOn l.fn.pass l.pass l.limit;
  on : IsUnderWay g.S.Source.seen (g.S.Source.seen l.fn.source) l.limit l.feed l.reader (map (λ stretch. stretch.items) l.stretches.items);
}

abbrev pub decreases-rounds : goal.decreases-rounds
decreases-rounds g l = left_in g.S.Source.seen l.reader + length (joined (map (λ stretch. stretch.items) l.stretches.items))
