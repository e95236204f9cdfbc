use Rattle.std.proofs.Common.{◌≡◌, Some, refl, subst}
use Rattle.mt_c.specs.declared.held.Held.TheVariants as held
use Rattle.mt_c.specs.Keepers.{HoldsComing}
use Rattle.mt_c.proofs.keeping.mtr_log_bytes.Goals as goal

pub returns-in-None-clause-refused : goal.returns-in-None-clause-refused
returns-in-None-clause-refused c =
    let value = c.in-Some.ensures.value in
    let kind = c.in-Keeper.is in
    let was : c.args.keeper.now.handle.value ≡ Some (held.Keeper c.in-Keeper.keeping) = cc in (
      λ coming _. let here = subst (HoldsComing c.args.log) was coming in c.in-None.ensures.none here.0 here.1,
      λ _. refl,
    )
