use Rattle.std.proofs.Common.{Some, None, below_more, arith}
use Rattle.std.proofs.lemmas.Bool.{both_ways}
use Rattle.mt_scan.proofs.SegmentLemmas.{doubled_at, doubled_within, first_doubled}
use Rattle.mt_scan.proofs.segments.first_doubled.Goals as goal

pub returns-then-has_same : goal.returns-then-has_same
returns-then-has_same c = λ logs show.
    let doubled = doubled_at c.args.fronts.now c.loop-i.i _ c.has_same.result c.loop-i-test.true c.has_same.ensures in
    first_doubled c.args.fronts.now logs (Some c.loop-i.i) (doubled.1 c.if-has_same.true, c.loop-i.invariant) show

pub loop-i-preserved : goal.loop-i-preserved
loop-i-preserved c =
    let doubled = doubled_at c.args.fronts.now c.loop-i.i _ c.has_same.result c.loop-i-test.true c.has_same.ensures in
    below_more _ _ c.loop-i.invariant (λ at. both_ways c.has_same.result c.if-has_same.false (doubled.0 at))

pub returns : goal.returns
returns c = λ logs show.
    first_doubled c.args.fronts.now logs None (λ i doubled. c.loop-i.invariant i (omega (arith, doubled_within c.args.fronts.now i doubled, c.loop-i-test.false)) doubled) show
