-- The pieces that are replayed, each by the task that owns it.
use Rattle.std.specs.Prelude.{◌≡◌, ℕ, ◌<◌, ◌++◌, List}
use Rattle.mt_words.specs.declared.update.Update.{Update}
use Rattle.mt_words.specs.Walks.{Pair, joined}
use Rattle.mt_replay.specs.Cells.{AreApart}
use Rattle.mt_replay.specs.Cuts.{AreCuts, updates_in}
use Rattle.mt_replay.specs.Pieces.{IsPiece}
use Rattle.mt_replay.specs.Ranges.{dealt_by}
use Rattle.mt_tree.specs.Borders.{DraftView, layer_walk}
use Rattle.mt_board.specs.Queue.{ConsumerView}
use Rattle.mt_recover.specs.declared.replaying.Base.{Base}
use Rattle.mt_recover.specs.Steps.Scanning.{AreAnswers, IsTurnOf}
use Rattle.mt_recover.specs.Tasks.{ReplayView, ReplayingView}

-- the range has those of some updates that lie in this piece
abbrev pub IsRangeIn : List (List ℕ) → ℕ → List Update → Type 0
IsRangeIn cuts piece range = (logged : List Update) × (range ≡ updates_in cuts piece logged)

-- the pairs are this piece of any updates that are apart, if they are the entries and updates whose range this is
abbrev pub IsReplayOf : List (List ℕ) → List Update → ℕ → List Update → List Pair → Type 0
IsReplayOf cuts entries piece range pairs = (logged : List Update) → range ≡ updates_in cuts piece logged → AreApart (logged ++ entries) → IsPiece (logged ++ entries) cuts piece pairs

-- the ranges are those of the pieces that the cuts make
pub record AreRanges (cuts : List (List ℕ)) (ranges : List (List Update)) : Type 0 where
  pub cuts_are : AreCuts cuts
  pub are : ranges ≡ dealt_by cuts (joined ranges)

-- the task that shares this with the others
abbrev pub task_of : Base → ReplayView
task_of base = record { pieces = base.pieces; entries = joined base.entries.items; cuts = base.cuts }

-- these are the drafts of the pieces that the task took, each with the number of its piece
pub record AreReplaysOf (task : ReplayView) (drafts : List (ℕ × DraftView)) (consumer : ConsumerView (List Update)) : Type 0 where
  pub turn : IsTurnOf task.pieces drafts consumer
  pub answers : AreAnswers (λ piece range draft. IsReplayOf task.cuts task.entries piece range (layer_walk draft)) task.pieces.jobs drafts

-- the pieces of what was prepared wait in the queue
pub record AreQueued (replaying : ReplayingView) : Type 0 where
  pub ranges : AreRanges replaying.prepared.cuts replaying.pieces.jobs
  pub updates : joined replaying.pieces.jobs ++ replaying.entries ≡ replaying.prepared.updates
  pub some : 0 < replaying.pieces.consumers
