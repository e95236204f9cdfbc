use Rattle.std.proofs.Common.{◌≡◌, length, []}
use Rattle.mt_shared.proofs.Closes.{Gathers}
use Rattle.mt_shared.proofs.words.Words.close.Given as goal

abbrev pub invariant-loop-hand : goal.invariant-loop-hand
invariant-loop-hand l = record {
  same : l.seat.table_id ≡ l.table.shared.table_id;
  slots : l.seat.me.1 ≡ [];
  gathers : Gathers l.hands.items l.fn.hands.items l.seat.me.0;
}

abbrev pub decreases-loop-hand : goal.decreases-loop-hand
decreases-loop-hand l = length l.hands.items
