-- A job: what was prepared, and how it is cut into pieces.
use Rattle.std.specs.Prelude.{◌≡◌, ℕ, ◌<◌, List, length}
use Rattle.mt_words.specs.declared.update.Update.{Update}
use Rattle.mt_words.specs.Walks.{Pair}
use Rattle.mt_board.specs.Board.{BoardId}
use Rattle.mt_replay.specs.Even.{IsEven}
use Rattle.mt_replay.specs.Pieces.{IsPiece}
use Rattle.mt_recover.specs.declared.workers.Cutting.{Cutting}
use Rattle.mt_recover.specs.declared.workers.Cutting.TheVariants.{Even, Sampled, At}
use Rattle.mt_recover.specs.Prepared.{PreparedView}

-- a job: what was prepared, and the board from which its pieces are claimed
pub record JobView : Type 0 where
  pub prepared : PreparedView
  pub board : BoardId

-- the cuts are as asked for: the even cuts into this many pieces, or cuts into at most this many pieces, or exactly the given cuts
abbrev pub AreCutBy : Cutting → List Update → List (List ℕ) → Type 0
AreCutBy (Even pieces) updates cuts = IsEven updates pieces cuts
AreCutBy (Sampled pieces) updates cuts = length cuts < pieces
AreCutBy (At given) updates cuts = cuts ≡ given

-- the pairs are the job's piece of this number
abbrev pub IsPieceOf : JobView → ℕ → List Pair → Type 0
IsPieceOf job number pairs = (number < job.board.total) × IsPiece job.prepared.updates job.prepared.cuts number pairs
