use Rattle.std.proofs.Common.{inr}
use Rattle.mt_scan.specs.Steps.Feeding.{IsFedUnder}
use Rattle.mt_scan.proofs.Steps.{feeds}
use Rattle.mt_scan.proofs.Shares.{no_more}
use Rattle.mt_scan.proofs.sharing.feed_below.Goals as goal

pub returns-clause-fed : goal.returns-clause-fed
returns-clause-fed g c before bytes low s few =
    let step = c.feed_below-goes_on in
    feeds (IsFedUnder c.args.limit) _ _ step.new.self bytes step.result c.in-Ok.count c.in-Ok.ensures.hands_out few c.advance.ensures.bounded c.piece.result.now c.piece.ensures
    (λ small. record { fed = step.ensures.fed before bytes low s; few = inr small }) (λ ended. no_more c.args.limit step.new.self (step.ensures.stops ended))
