use Rattle.std.proofs.Common.{sym, ap, subst, length, arith}
use Rattle.mt_laws.specs.Writing.{tell_client}
use Rattle.mt_keeper.specs.contracts.keeper.Keeper.{the_view}
use Rattle.mt_keeper.specs.Keeping.{Keeping, Holds}
use Rattle.mt_keeper.specs.Calling.{acknowledged}
use Rattle.mt_keeper.proofs.Least.{AreNoLess, all_no_less}
use Rattle.mt_keeper.proofs.Reaching.{all_reached}
use Rattle.mt_keeper.proofs.NewLogs.{still_acknowledged}
use Rattle.mt_keeper.proofs.keeper.Keeper.acknowledged_below.Goals as goal

pub returns-clause-reached : goal.returns-clause-reached
returns-clause-reached c = λ s holds.
    let k = the_view c.self.inside in
    all_reached k s c.loop-log.least (subst (λ (x : Keeping). Holds x s) (sym c.self.view_is) holds)
    (all_no_less c.loop-log.least c.loop-log.log-index k.logs (omega (arith, c.loop-log-test.false, ap length c.deref-log-items.ensures.value))
    (subst (AreNoLess c.loop-log.least c.loop-log.log-index) c.deref-log-items.ensures.value c.loop-log.invariant.0))

pub returns-clause-step : goal.returns-clause-step
returns-clause-step c = λ s u holds stands below.
    let k = the_view c.self.inside in
    let here = subst (λ (x : Keeping). Holds x s) (sym c.self.view_is) holds in (
      tell_client s u c.loop-log.least stands
          (all_reached k s c.loop-log.least here (all_no_less c.loop-log.least c.loop-log.log-index k.logs (omega (arith, c.loop-log-test.false, ap length c.deref-log-items.ensures.value))
          (subst (AreNoLess c.loop-log.least c.loop-log.log-index) c.deref-log-items.ensures.value c.loop-log.invariant.0))) below,
      subst (λ (x : Keeping). Holds x (acknowledged s u)) c.self.view_is (still_acknowledged k s u here (omega (arith, below, c.loop-log.invariant.1))),
    )
