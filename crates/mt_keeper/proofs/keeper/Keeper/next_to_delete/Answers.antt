use Rattle.std.proofs.Common.{◌<◌, length, sym, subst}
use Rattle.mt_keeper.specs.contracts.keeper.Keeper.{the_view}
use Rattle.mt_keeper.specs.Keeping.{Keeping, Holds, MayGo}
use Rattle.mt_keeper.proofs.OneChanged.{reads}
use Rattle.mt_keeper.proofs.Leaving.{goes_as}
use Rattle.mt_keeper.proofs.keeper.Keeper.next_to_delete.Goals as goal

pub returns-in-None-clause-all : goal.returns-in-None-clause-all
returns-in-None-clause-all c = λ number may works. c.in-None.ensures.none number may

pub returns-in-Some-clause-step : goal.returns-in-Some-clause-step
returns-in-Some-clause-step c = λ s holds.
    let k = the_view c.self.inside in
    let here = subst (λ (x : Keeping). Holds x s) (sym c.self.view_is) holds in
    let number = c.in-Some.log in
    let below = subst (λ (x : Keeping). number < length x.logs) (sym c.self.view_is) c.in-Some.ensures.within in
    goes_as k s number c.index_mut.result.now here (subst (λ (x : Keeping). MayGo x number) (sym c.self.view_is) c.in-Some.ensures.some)
    (reads k.logs number c.index_mut.result.now below c.index_mut.ensures.value)
