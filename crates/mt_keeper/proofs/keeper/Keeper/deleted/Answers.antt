use Rattle.std.proofs.Common.{inr, List, refl, sym, ap, ◌∙◌, subst}
use Rattle.std.proofs.lemmas.Bool.{false≢true}
use Rattle.mt_keeper.specs.declared.keeper.Stage.TheVariants.{Going}
use Rattle.mt_keeper.specs.declared.keeper.Log.{Log}
use Rattle.mt_keeper.specs.declared.keeper_fault.KeeperFault.TheVariants as faults
use Rattle.mt_keeper.specs.contracts.keeper.Keeper.{the_view}
use Rattle.mt_keeper.specs.Keeping.{Keeping, Holds}
use Rattle.mt_keeper.specs.Refusals.{IsNotGoing}
use Rattle.mt_keeper.proofs.OneChanged.{reads, put_back}
use Rattle.mt_keeper.proofs.Refused.{not_in}
use Rattle.mt_keeper.proofs.Leaving.{went}
use Rattle.mt_keeper.proofs.keeper.Keeper.deleted.Goals as goal

pub returns-in_default-stage : goal.returns-in_default-stage
returns-in_default-stage c =
    let k = the_view c.self.inside in
    let x = c.in-Some.log.now in record {
      step = λ s holds. tt;
      err = ap (λ (logs : List Log). record k { logs = logs }) (put_back k.logs c.args.log x c.in-Some.ensures.value) ∙ c.self.view_is;
      failed = λ is. absurd (false≢true (sym c.if-self.false ∙ ap (λ (y : Keeping). y.failed) c.self.view_is ∙ is));
      fault = inr (subst (λ (y : Keeping). IsNotGoing y c.args.log faults.Log) c.self.view_is
          (refl, λ at. not_in k c.args.log x Going (reads k.logs c.args.log x c.in-Some.ensures.item.3.0 c.in-Some.ensures.value) c.in_default-stage.not-Going at));
    }

pub returns-clause-step : goal.returns-clause-step
returns-clause-step c = λ s holds.
    let k = the_view c.self.inside in
    let here = subst (λ (x : Keeping). Holds x s) (sym c.self.view_is) holds in
    let x = c.in-Some.log.now in
    went k s c.args.log x here (reads k.logs c.args.log x c.in-Some.ensures.item.3.0 c.in-Some.ensures.value) c.in-Going.is
