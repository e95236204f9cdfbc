use Rattle.std.proofs.Common.{◌≡◌, ◌≤◌, ℕ, [], map}
use Rattle.std.specs.List.{range_with_len}
use Rattle.mt_replay.proofs.dealing.no_updates.Given as goal

-- the lists of the first pieces
abbrev pub invariant-loop : goal.invariant-loop
invariant-loop l = record {
  within : l.counter ≤ l.pieces;
  empty : l.lists.items ≡ map (λ (i : ℕ). []) (range_with_len 0 l.counter);
}
