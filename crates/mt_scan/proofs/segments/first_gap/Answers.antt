use Rattle.std.proofs.Common.{rules, tests}
use Rattle.std.proofs.lemmas.Iterator.{YieldsList-from_slice, IsFirst-from_position}
use Rattle.mt_scan.specs.Steps.Segments.{HasFrontGap}
use Rattle.mt_record.specs.declared.front.LogFront.{LogFront}
use Rattle.mt_scan.proofs.SegmentLemmas.{first_gap}
use Rattle.mt_scan.proofs.segments.first_gap.Goals as goal

pub returns : goal.returns
returns c = λ logs show.
    let fronts = c.args.fronts.now in
    first_gap c.args.begin fronts logs c.position.result
    (IsFirst-from_position _ _ c.position.result (HasFrontGap c.args.begin fronts) (λ (front : LogFront). HasFrontGap c.args.begin fronts front → ⊥) c.position.ensures.ran (YieldsList-from_slice fronts cc) (λ x q k. search (rules, tests)) (λ x q k. search (rules, tests)))
    show
