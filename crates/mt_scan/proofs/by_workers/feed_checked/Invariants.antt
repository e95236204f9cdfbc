use Rattle.std.proofs.Common.{◌≡◌, List, ℕ, ◌++◌, map}
use Rattle.std.specs.Vec.Iter.{into_iter_items}
use Rattle.mt_words.specs.Walks.{joined}
use Rattle.mt_scan.specs.Steps.Feeding.{IsFedAbove}
use Rattle.mt_scan.proofs.by_workers.feed_checked.Given as goal

-- the first stretches are fed
abbrev pub invariant-loop-one : goal.invariant-loop-one
invariant-loop-one l = record {
  rest : l.yielded ++ into_iter_items l.one-iterator ≡ l.fn.checked.items;
  fed : (bytes : List ℕ) → IsFedAbove l.limit l.fn.feed bytes → IsFedAbove l.limit l.feed (bytes ++ joined (map (λ one. one.bytes.items) l.yielded));
}
