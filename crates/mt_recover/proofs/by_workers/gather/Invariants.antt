use Rattle.std.proofs.Common.{◌≡◌, ◌<◌, ◌++◌, List, length, map}
use Rattle.std.specs.List.{flat_map}
use Rattle.std.specs.Vec.Iter.{into_iter_items}
use Rattle.mt_recover.specs.Steps.Scanning.{AreDealt}
use Rattle.mt_recover.proofs.by_workers.gather.Given as goal

-- the first answers are gathered
abbrev pub invariant-loop-answer : goal.invariant-loop-answer
invariant-loop-answer g l = record {
  some : 0 < length l.parts.items;
  same : (answers : List _) → AreDealt answers (map into_iter_items l.fn.parts.items)
      → (rest : List _) × (l.answers.items ++ rest ≡ answers) × AreDealt rest (map into_iter_items l.parts.items);
}

abbrev pub decreases-loop-answer : goal.decreases-loop-answer
decreases-loop-answer g l = length (flat_map into_iter_items l.parts.items)
