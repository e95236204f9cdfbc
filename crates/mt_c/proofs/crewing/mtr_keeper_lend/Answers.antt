use Rattle.std.proofs.Common.{◌≡◌, Some, subst}
use Rattle.mt_c.specs.Keepers.{HoldsKeeper}
use Rattle.mt_c.proofs.crewing.mtr_keeper_lend.Goals as goal

pub returns-clause-done : goal.returns-clause-done
returns-clause-done c = λ k holds done.
    let value = c.in-Some.ensures.value in
    let taken = c.replace.ensures.value in
    let was : c.args.keeper.now.handle.value ≡ Some c.replace.result = cc in
    c.lend_logs-next.ensures.done k (subst (HoldsKeeper (λ x. x ≡ k)) was holds) done
