use Rattle.std.proofs.Common.{◌≡◌, length}
use Rattle.mt_board.proofs.QueueCloses.{GathersJobs}
use Rattle.mt_board.proofs.queue.Queue.close.Given as goal

abbrev pub invariant-loop-consumer : goal.invariant-loop-consumer
invariant-loop-consumer g l = record {
  same : l.seat.table_id ≡ l.self.table;
  gathers : GathersJobs l.self l.consumers.items l.fn.consumers.items l.seat.me.0;
}

abbrev pub decreases-loop-consumer : goal.decreases-loop-consumer
decreases-loop-consumer g l = length l.consumers.items
