use Rattle.std.proofs.Common.{sym, subst}
use Rattle.mt_keeper.specs.Keeping.{Keeping, Holds}
use Rattle.mt_keeper.proofs.keeper.Keeper.failed.Goals as goal

pub returns-clause-kept : goal.returns-clause-kept
returns-clause-kept c = λ s holds.
    let here = subst (λ (y : Keeping). Holds y s) (sym c.self.view_is) holds in record {
      clock = here.clock;
      acked = here.acked;
      base = here.base;
      numbers = here.numbers;
      logs = here.logs;
      places = here.places;
      checkpoints = here.checkpoints;
    }
