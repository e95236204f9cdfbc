-- Tasks, which any threads do: some divide what was found by its keys into pieces, and others replay these pieces.
use Rattle.std.specs.Prelude.{◌≡◌, ℕ, List, ◌++◌, length, map, filter, replicate}
use Rattle.mt_words.specs.declared.update.Update.{Update}
use Rattle.mt_board.specs.Queue.{QueueView}
use Rattle.mt_replay.specs.declared.window.Window.{Window}
use Rattle.mt_replay.specs.Batches.{BatchView, batched}
use Rattle.mt_replay.specs.Survivors.{in_window, is_early}
use Rattle.mt_recover.specs.declared.report.Report.{Report}
use Rattle.mt_recover.specs.Recovery.{Basis, begin_of, records_of, survivors}
use Rattle.mt_recover.specs.Report.{IsFoundIn, logged_updates}
use Rattle.mt_recover.specs.Prepared.{PreparedView}

-- ---- dividing

-- a task that divides: the updates of a batch that are in the window are dealt to the pieces that the cuts make
pub record DivideView : Type 0 where
  pub batch : BatchView
  pub window : Window
  pub cuts : List (List ℕ)

-- what tasks divide: the updates that the logs left, in batches, the window in which they survive, the cuts of their keys, the entries of the checkpoint, and the report of what was found
pub record DividingView : Type 0 where
  pub report : Report
  pub window : Window
  pub cuts : List (List ℕ)
  pub entries : List Update
  pub batches : List BatchView

-- the task for a batch
abbrev pub divide_task : Window → List (List ℕ) → BatchView → DivideView
divide_task window cuts batch = record { batch = batch; window = window; cuts = cuts }

-- its tasks: one for each batch
abbrev pub divide_tasks : DividingView → List DivideView
divide_tasks dividing = map (divide_task dividing.window dividing.cuts) dividing.batches

-- This is what these logs and parts left to be divided. What survives of it is what survives of the logs and parts, and it has as many early updates.
pub record IsDividingOf (logs parts : List (List ℕ)) (dividing : DividingView) : Type 0 where
  pub basis : Basis logs parts
  pub found : IsFoundIn basis.facts dividing.report
  pub updates : survivors basis.facts.cutoff basis.facts.chosen (records_of basis.facts.readings) ≡ filter (in_window dividing.window) (batched dividing.batches) ++ dividing.entries
  pub early : length (filter (is_early dividing.window.begin) (batched dividing.batches)) ≡ length (filter (is_early (begin_of basis.facts.chosen)) (logged_updates basis.facts.readings))

-- ---- replaying

-- a task that replays: pieces from a queue, each with the updates of logs that lie in it, over the entries, until no piece is left
pub record ReplayView : Type 0 where
  pub pieces : QueueView (List Update)
  pub entries : List Update
  pub cuts : List (List ℕ)

-- what tasks replay: what was prepared, the queue of its pieces, and the entries in it
pub record ReplayingView : Type 0 where
  pub prepared : PreparedView
  pub pieces : QueueView (List Update)
  pub entries : List Update

-- the task for a consumer
abbrev pub replay_task : ReplayingView → ReplayView
replay_task replaying = record { pieces = replaying.pieces; entries = replaying.entries; cuts = replaying.prepared.cuts }

-- its tasks: one for each consumer of the queue
abbrev pub replay_tasks : ReplayingView → List ReplayView
replay_tasks replaying = replicate replaying.pieces.consumers (replay_task replaying)
