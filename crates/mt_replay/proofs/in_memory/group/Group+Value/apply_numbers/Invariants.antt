use Rattle.std.proofs.Common.{◌≡◌, ◌++◌, List, map, take}
use Rattle.mt_words.specs.Changes.{erased}
use Rattle.mt_replay.specs.Cells.{Written, IsCellOf, written}
use Rattle.mt_replay.proofs.in_memory.group.Group+Value.apply_numbers.Given as goal

-- the group has taken in the numbers so far
abbrev pub invariant-loop-number : goal.invariant-loop-number
invariant-loop-number l = record {
  reset : l.self.reset ≡ l.fn.self.reset;
  cell : (writes : List Written) → IsCellOf writes l.fn.self.slots → IsCellOf (writes ++ written l.stamp (map erased (take l.number-index l.numbers))) l.self.slots;
}
