use Rattle.std.proofs.Common.{◌≡◌}
use Rattle.std.specs.List.{range_with_len}
use Rattle.mt_replay.specs.Steps.Numbers.{places}
use Rattle.mt_replay.proofs.sorting.sorted_numbers.Given as goal

-- the first places stand in order
abbrev pub invariant-loop-place : goal.invariant-loop-place
invariant-loop-place l = places l.bits l.numbers.items ≡ range_with_len 0 l.place
