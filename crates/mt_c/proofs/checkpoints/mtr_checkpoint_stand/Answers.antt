use Rattle.std.proofs.Common.{◌≡◌, Some, subst}
use Rattle.mt_keeper.specs.Keeping.{Holds, HasRead}
use Rattle.mt_c.specs.declared.held.Held.TheVariants as held
use Rattle.mt_c.specs.Keepers.{HoldsKeeper}
use Rattle.mt_c.proofs.checkpoints.mtr_checkpoint_stand.Goals as goal

pub returns-in-Ok-clause-done : goal.returns-in-Ok-clause-done
returns-in-Ok-clause-done c = λ s new server read written done.
    let value = c.in-Some.ensures.value in
    let kind = c.in-Keeper.is in
    let was : c.args.keeper.now.handle.value ≡ Some (held.Keeper c.in-Keeper.keeping) = cc in
    let holds = subst (HoldsKeeper (λ k. Holds k s)) was server.1 in
    let has_read = subst (HoldsKeeper (λ k. HasRead k.making new.begin new.end)) was read in
    c.in-Ok.ensures.step s new server.0 holds has_read written
