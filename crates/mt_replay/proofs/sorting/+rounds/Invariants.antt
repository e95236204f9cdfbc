use Rattle.std.proofs.Common.{◌+◌, ◌-◌, ◌*◌, ◌≤◌, length, take, drop}
use Rattle.std.specs.Prelude.{IsPermutation}
use Rattle.mt_replay.specs.Steps.Numbers.{places, AreSorted}
use Rattle.mt_replay.proofs.sorting.+rounds.Given as goal

abbrev pub decreases-sort_from : goal.decreases-sort_from
decreases-sort_from l = 2 * l.rounds + 1

abbrev pub decreases-sort_run : goal.decreases-sort_run
decreases-sort_run l = 2 * l.rounds

-- the numbers before `at` are sorted
abbrev pub invariant-sort_from-loop-at : goal.invariant-sort_from-loop-at
invariant-sort_from-loop-at l = record {
  within : l.at ≤ length l.numbers;
  same : IsPermutation (places l.bits l.fn.numbers) (places l.bits l.numbers);
  sorted : AreSorted l.bits l.texts l.depth (take l.at l.numbers) (drop l.at l.numbers);
}

abbrev pub decreases-sort_from-loop-at : goal.decreases-sort_from-loop-at
decreases-sort_from-loop-at l = length l.numbers - l.at
