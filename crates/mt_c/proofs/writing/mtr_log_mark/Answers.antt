use Rattle.std.proofs.Common.{◌≡◌, ◌+◌, Some, subst}
use Rattle.mt_words.specs.Built.{mark_of}
use Rattle.mt_keeper.specs.Keeping.{Keeping, Holds}
use Rattle.mt_keeper.specs.Calling.{appended, Steps}
use Rattle.mt_c.specs.declared.held.Held.TheVariants as held
use Rattle.mt_c.specs.Keepers.{HoldsKeeper}
use Rattle.mt_c.proofs.writing.mtr_log_mark.Goals as goal

pub returns-in-Ok-clause-done : goal.returns-in-Ok-clause-done
returns-in-Ok-clause-done c = λ s k server keeps done.
    let value = c.in-Some.ensures.value in
    let kind = c.in-Keeper.is in
    let was : c.args.keeper.now.handle.value ≡ Some (held.Keeper c.in-Keeper.keeping) = cc in
    let holds = subst (HoldsKeeper (λ x. Holds x s)) was server.1 in
    let same : c.in-Keeper.keeping ≡ k = subst (HoldsKeeper (λ x. x ≡ k)) was keeps in
    subst (λ (x : Keeping). Steps s (appended s c.args.log (mark_of (x.clock + 1))) c.mark.new.self) same (c.in-Ok.ensures.step s holds)
