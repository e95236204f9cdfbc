use Rattle.std.proofs.Common.{◌≡◌, ◌+◌, take, sym, ◌∙◌, arith}
use Rattle.mt_scan.specs.Steps.Lasts.{last_of_segments}
use Rattle.mt_scan.proofs.LeastLast.{next_is}
use Rattle.mt_scan.proofs.lasts.last_of_worker.Goals as goal
use Rattle.mt_scan.proofs.lasts.last_of_worker.Goals.{then-is_of, else-is_of}

pub loop-front-preserved : goal.loop-front-preserved
loop-front-preserved c =
    let fronts = c.args.fronts.now in
    let read = next_is c.args.worker fronts c.loop-front.front-index c.loop-front.last _ c.is_of.result c.loop-front-test.true c.loop-front.invariant c.is_of.ensures in
    elim c.if-is_of.branch as (λ _. c.if-is_of.last ≡ last_of_segments c.args.worker (take (c.loop-front.front-index + 1) fronts)) [
      | then-is_of w ↦ sym (read.0 w.if-is_of.true ∙ omega (arith, w.last.ensures.value, w.max-last.ensures, w.last-is))
      | else-is_of w ↦ sym (read.1 w.if-is_of.false ∙ omega (arith, w.last-is))
    ]
