use Rattle.std.proofs.Common.{◌≡◌, ◌≤◌, ◌++◌, ℕ, [], map, fold}
use Rattle.std.specs.List.{range_with_len}
use Rattle.std.specs.Vec.Iter.{into_iter_items}
use Rattle.mt_replay.specs.Steps.Dealing.{extended}
use Rattle.mt_replay.proofs.dealing.ranges_of.Given as goal

-- the ranges of the first pieces
abbrev pub invariant-loop : goal.invariant-loop
invariant-loop l = record {
  within : l.counter ≤ l.pieces;
  empty : l.ranges.items ≡ map (λ (i : ℕ). []) (range_with_len 0 l.counter);
}

-- what the first shares have
abbrev pub invariant-loop-share : goal.invariant-loop-share
invariant-loop-share l = record {
  rest : l.yielded ++ into_iter_items l.share-iterator ≡ l.fn.shares.items;
  so_far : l.ranges.items ≡ fold extended (map (λ (i : ℕ). []) (range_with_len 0 l.pieces)) l.yielded;
}
