use Rattle.std.proofs.Common.{◌≡◌, ◌-◌, ◌≤◌, []}
use Rattle.std.specs.Vec.{vec_len, vec_capacity}
use Rattle.mt_shared.specs.Words.{fresh_hands}
use Rattle.mt_shared.proofs.words.Words.open.Given as goal

abbrev pub invariant-loop-number : goal.invariant-loop-number
invariant-loop-number l = record {
  same : l.seat.table_id ≡ l.table.shared.table_id;
  view : l.seat.me ≡ (record { owns = []; next = l.number; parts = l.hands - l.number }, []);
  dealt : l.dealt.items ≡ fresh_hands l.table.shared.table_id l.number;
  len : vec_len l.dealt ≡ l.number;
  room : l.hands ≤ vec_capacity l.dealt;
}
