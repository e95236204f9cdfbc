use Rattle.std.proofs.Common.{length}
use Rattle.mt_words.specs.Changes.{writes_of}
use Rattle.mt_recover.specs.History.{Stands}
use Rattle.mt_recover.specs.Steps.Fates.{those_surviving}
use Rattle.mt_recover.proofs.HistoryLemmas.{AreSoFar}
use Rattle.mt_recover.proofs.history.standing.Given as goal

-- the numbers of those of the writes so far that stand
abbrev pub invariant-loop-number : goal.invariant-loop-number
invariant-loop-number l = AreSoFar (Stands (those_surviving l.window l.updates) l.update) (writes_of l.update.kind) l.writes l.numbers.items

abbrev pub decreases-loop-number : goal.decreases-loop-number
decreases-loop-number l = length l.writes
