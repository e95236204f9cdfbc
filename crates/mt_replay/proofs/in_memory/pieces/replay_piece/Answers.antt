use Rattle.std.proofs.Common.{[]}
use Rattle.std.proofs.lemmas.Result.{IfOk-weaker}
use Rattle.mt_replay.proofs.in_memory.pieces.replay_piece.Goals as goal

pub returns-clause-walk : goal.returns-clause-walk
returns-clause-walk c = IfOk-weaker c.replay_range-2.result _ _ (λ pairs walk. walk [] c.new.ensures) c.replay_range-2.ensures.walk
