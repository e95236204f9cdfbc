use Rattle.std.proofs.Common.{◌≡◌, ◌-◌, ◌≤◌, []}
use Rattle.std.specs.Vec.{vec_len, vec_capacity}
use Rattle.mt_board.specs.Queue.{fresh_consumers}
use Rattle.mt_board.specs.Steps.Rule.{idle_view}
use Rattle.mt_board.specs.Steps.QueueRule.{counts_of}
use Rattle.mt_board.proofs.queue.Queue.open.Given as goal

abbrev pub invariant-loop-number : goal.invariant-loop-number
invariant-loop-number g l = record {
  same : l.seat.table_id ≡ l.table.shared.table_id;
  view : l.seat.me ≡ (record { jobs = l.table.shared.key.jobs.value.items; numbers = idle_view (counts_of l.table.shared.key.jobs.value.items l.consumers) (l.consumers - l.number) }, []);
  dealt : l.dealt.items ≡ fresh_consumers (record { table = l.table.shared.table_id; jobs = l.table.shared.key.jobs.value.items; consumers = l.consumers }) l.number;
  len : vec_len l.dealt ≡ l.number;
  room : l.consumers ≤ vec_capacity l.dealt;
}
