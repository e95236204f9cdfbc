use Rattle.std.proofs.Common.{◌≡◌, Some, subst}
use Rattle.mt_c.specs.Keepers.{HoldsRestart}
use Rattle.mt_c.proofs.restarting.mtr_keeper_resumed.Goals as goal

pub returns-clause-done : goal.returns-clause-done
returns-clause-done c = λ before holds done.
    let value = c.in-Some.ensures.value in
    let taken = c.replace.ensures.value in
    let was : c.args.keeper.now.handle.value ≡ Some c.replace.result = cc in
    c.resumed-now.ensures.done before (subst (HoldsRestart (λ r. r ≡ before)) was holds) done

pub returns-clause-restarts : goal.returns-clause-restarts
returns-clause-restarts c = λ before s found number salt files holds called of added done.
    let value = c.in-Some.ensures.value in
    let taken = c.replace.ensures.value in
    let was : c.args.keeper.now.handle.value ≡ Some c.replace.result = cc in
    c.resumed-now.ensures.restarts before s found number salt files (subst (HoldsRestart (λ r. r ≡ before)) was holds) called of added done
