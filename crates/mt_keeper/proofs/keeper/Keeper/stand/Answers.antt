use Rattle.std.proofs.Common.{sym, subst}
use Rattle.mt_keeper.specs.contracts.keeper.Keeper.{the_view}
use Rattle.mt_keeper.specs.Keeping.{Keeping, Holds}
use Rattle.mt_keeper.proofs.Making.{stood_as}
use Rattle.mt_keeper.proofs.keeper.Keeper.stand.Goals as goal

pub returns-clause-step : goal.returns-clause-step
returns-clause-step c = λ s new stands holds read at.
    let k = the_view c.self.inside in
    let here = subst (λ (x : Keeping). Holds x s) (sym c.self.view_is) holds in
    stood_as k c.args.self.now s new c.in-Some.making c.in-Some-end.end c.self.view_is stands here c.in-Some.is c.in-Some-end.is read at
    (c.are_past.ensures.0 c.if-not-are_past.false)
