use Rattle.std.proofs.Common.{◌≡◌, ◌++◌, List, length}
use Rattle.mt_words.specs.Changes.{Write}
use Rattle.mt_replay.specs.Cells.{Written, IsCellOf, written}
use Rattle.mt_replay.proofs.group.Group+ref+slice+u8.see_writes.Given as goal

-- the group has taken in the writes that were read
abbrev pub invariant-loop-number : goal.invariant-loop-number
invariant-loop-number l = record {
  seen : List Write;
  were : l.fn.lent ≡ seen ++ l.rest;
  reset : l.self.reset ≡ l.fn.self.reset;
  cell : (writes : List Written) → IsCellOf writes l.fn.self.slots → IsCellOf (writes ++ written l.stamp seen) l.self.slots;
}

abbrev pub decreases-loop-number : goal.decreases-loop-number
decreases-loop-number l = length l.rest
