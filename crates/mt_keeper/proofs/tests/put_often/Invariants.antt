use Rattle.std.proofs.Common.{◌≡◌}
use Rattle.mt_keeper.proofs.tests.put_often.Given as goal

abbrev pub invariant-loop : goal.invariant-loop
invariant-loop l = l.log.table ≡ l.crew.table
