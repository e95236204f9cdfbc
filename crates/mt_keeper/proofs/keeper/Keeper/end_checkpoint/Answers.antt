use Rattle.std.proofs.Common.{sym, ap, ◌∙◌, subst}
use Rattle.mt_keeper.specs.contracts.keeper.Keeper.{the_view}
use Rattle.mt_keeper.specs.Keeping.{Keeping, Holds, IsReading}
use Rattle.mt_keeper.proofs.Making.{ended_as}
use Rattle.mt_keeper.proofs.keeper.Keeper.end_checkpoint.Goals as goal

pub returns-clause-step : goal.returns-clause-step
returns-clause-step c = λ s new holds reading end is_read.
    let k = the_view c.self.inside in
    let here = subst (λ (x : Keeping). Holds x s) (sym c.self.view_is) holds in
    ended_as k s new c.in-Some.making here c.in-Some.is (subst (λ (x : Keeping). IsReading x.making new.begin) (sym c.self.view_is) reading)
    (end ∙ ap (λ (x : Keeping). x.clock) (sym c.self.view_is)) is_read
