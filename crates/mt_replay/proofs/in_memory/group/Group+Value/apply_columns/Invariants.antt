use Rattle.std.proofs.Common.{◌≡◌, ◌++◌, ℕ, List, length, map}
use Rattle.mt_words.specs.Changes.{set}
use Rattle.mt_replay.specs.Cells.{Written, IsCellOf, written}
use Rattle.mt_replay.proofs.in_memory.group.Group+Value.apply_columns.Given as goal

-- the group has taken in the columns that were popped
abbrev pub invariant-loop-column : goal.invariant-loop-column
invariant-loop-column l = record {
  seen : List (ℕ × List ℕ);
  were : l.fn.columns ≡ l.rest ++ seen;
  reset : l.self.reset ≡ l.fn.self.reset;
  cell : (writes : List Written) → IsCellOf writes l.fn.self.slots → IsCellOf (writes ++ written l.stamp (map set seen)) l.self.slots;
}

abbrev pub decreases-loop-column : goal.decreases-loop-column
decreases-loop-column l = length l.rest
