use Rattle.std.proofs.Common.{◌≡◌, List, ◌++◌, replicate}
use Rattle.mt_keeper.specs.Crews.{Deed, looked, IsDoing, HasDone}
use Rattle.mt_keeper.specs.contracts.lent_log.LentLog.{the_view}
use Rattle.mt_keeper.proofs.crew.Crew.acknowledged_below.Given as goal

abbrev pub invariant-loop-number : goal.invariant-loop-number
invariant-loop-number l = record {
  doing : (deeds : List Deed) → HasDone l.fn.self.before l.fn.log deeds
      → IsDoing l.fn.self.before (the_view l.log-inside) (deeds ++ replicate l.number looked) (record { writer = l.log-inside.writer; seen = l.number; least = l.least });
  same : the_view l.log-inside ≡ record l.fn.log { acts = l.log-inside.hand.acts };
}
