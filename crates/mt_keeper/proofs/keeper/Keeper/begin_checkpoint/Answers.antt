use Rattle.std.proofs.Common.{◌+◌, sym, ap, ◌∙◌, subst}
use Rattle.mt_keeper.specs.contracts.keeper.Keeper.{the_view}
use Rattle.mt_keeper.specs.Keeping.{Keeping, Holds}
use Rattle.mt_keeper.proofs.Making.{counted}
use Rattle.mt_keeper.proofs.keeper.Keeper.begin_checkpoint.Goals as goal

pub returns-clause-step : goal.returns-clause-step
returns-clause-step c = λ s stands holds.
    let k = the_view c.self.inside in
    let here = subst (λ (x : Keeping). Holds x s) (sym c.self.view_is) holds in
    counted k s c.in_ok-begin.begin c.in-Some.next stands here (c.in_ok-begin.ensures.ok.0 ∙ ap (λ (y : Keeping). y.clock + 1) (sym c.self.view_is))
