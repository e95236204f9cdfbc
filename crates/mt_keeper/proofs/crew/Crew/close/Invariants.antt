use Rattle.std.proofs.Common.{◌≡◌, ◌||◌, ◌++◌, ◌≤◌, map, length}
use Rattle.std.specs.Vec.{vec_len, vec_capacity}
use Rattle.std.specs.Vec.Iter.{into_iter_items}
use Rattle.mt_keeper.specs.Crews.{have_failed}
use Rattle.mt_keeper.specs.contracts.keeper.Keeper.{the_view}
use Rattle.mt_keeper.proofs.Closing.{AreBack, hand_of}
use Rattle.mt_keeper.proofs.crew.Crew.close.Given as goal

abbrev pub invariant-loop-log : goal.invariant-loop-log
invariant-loop-log l = record {
  rest : l.yielded ++ into_iter_items l.log-iterator ≡ l.fn.lent.items;
  hands : l.hands.items ≡ map hand_of l.yielded;
  len : vec_len l.hands ≡ length l.yielded;
  room : length l.fn.lent.items ≤ vec_capacity l.hands;
  back : AreBack l.fn.self.before l.fn.lent.items l.yielded (the_view l.keeper-inside).logs;
  kept : the_view l.keeper-inside ≡ record l.fn.self.before { logs = (the_view l.keeper-inside).logs; failed = (the_view l.keeper-inside).failed };
  failed : (the_view l.keeper-inside).failed ≡ (l.fn.self.before.failed || have_failed l.yielded);
}
