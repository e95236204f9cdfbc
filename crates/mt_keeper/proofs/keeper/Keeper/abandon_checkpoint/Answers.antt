use Rattle.std.proofs.Common.{sym, subst}
use Rattle.mt_keeper.specs.contracts.keeper.Keeper.{the_view}
use Rattle.mt_keeper.specs.Keeping.{Keeping, Holds}
use Rattle.mt_keeper.proofs.Making.{given_up}
use Rattle.mt_keeper.proofs.keeper.Keeper.abandon_checkpoint.Goals as goal

pub returns-clause-kept : goal.returns-clause-kept
returns-clause-kept c = λ s holds. given_up (the_view c.self.inside) s (subst (λ (x : Keeping). Holds x s) (sym c.self.view_is) holds)
