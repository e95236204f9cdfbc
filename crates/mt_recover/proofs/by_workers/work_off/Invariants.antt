use Rattle.std.proofs.Common.{◌≡◌, ◌-◌, length, map, false}
use Rattle.mt_board.specs.Board.{above}
use Rattle.mt_recover.specs.Steps.Scanning.{AreAnswers}
use Rattle.mt_recover.proofs.by_workers.work_off.Given as goal

-- the jobs that the consumer took are done
abbrev pub invariant-loop-number : goal.invariant-loop-number
invariant-loop-number g l = record {
  consumer : l.consumer ≡ record { queue = l.queue; number = l.consumer.number; taken = map (λ one. one.0) l.answers.items; done = false };
  answers : AreAnswers (λ _ job answer. goal.F-post g l.work job answer) l.queue.jobs l.answers.items;
}

-- how many jobs the queue has left for the consumer
abbrev pub decreases-loop-number : goal.decreases-loop-number
decreases-loop-number g l = length l.queue.jobs - above l.consumer.taken
