use Rattle.std.proofs.Common.{◌≡◌, ◌-◌, ◌≤◌, []}
use Rattle.std.specs.Vec.{vec_len, vec_capacity}
use Rattle.mt_board.specs.Board.{fresh_passes}
use Rattle.mt_board.specs.Steps.Rule.{idle_view}
use Rattle.mt_board.proofs.board.Board.open.Given as goal

abbrev pub invariant-loop-number : goal.invariant-loop-number
invariant-loop-number l = record {
  same : l.seat.table_id ≡ l.table.shared.table_id;
  view : l.seat.me ≡ (idle_view l.counts (l.passes - l.number), []);
  dealt : l.dealt.items ≡ fresh_passes (record { table = l.table.shared.table_id; total = l.total; passes = l.passes }) l.number;
  len : vec_len l.dealt ≡ l.number;
  room : l.passes ≤ vec_capacity l.dealt;
}
