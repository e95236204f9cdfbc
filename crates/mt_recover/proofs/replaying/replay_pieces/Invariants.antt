use Rattle.std.proofs.Common.{◌≡◌, ◌-◌, length, map, false}
use Rattle.mt_board.specs.Board.{above}
use Rattle.mt_tree.specs.Borders.{layer_walk}
use Rattle.mt_recover.specs.Steps.Replaying.{IsReplayOf, task_of}
use Rattle.mt_recover.specs.Steps.Scanning.{AreAnswers}
use Rattle.mt_recover.proofs.replaying.replay_pieces.Given as goal

-- the pieces that the consumer took are replayed
abbrev pub invariant-loop-number : goal.invariant-loop-number
invariant-loop-number g l = record {
  consumer : l.consumer ≡ record { queue = l.base.pieces; number = l.consumer.number; taken = map (λ one. one.0) l.drafts.items; done = false };
  answers : AreAnswers (λ piece range draft. IsReplayOf (task_of l.base).cuts (task_of l.base).entries piece range (layer_walk draft)) l.base.pieces.jobs l.drafts.items;
}

-- how many pieces the queue has left for the consumer
abbrev pub decreases-loop-number : goal.decreases-loop-number
decreases-loop-number g l = length l.base.pieces.jobs - above l.consumer.taken
