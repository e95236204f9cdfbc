use Rattle.std.proofs.Common.{◌≡◌, ◌<◌, ◌≤◌, ◌/◌, ◌^◌, ℕ}
use Rattle.std.specs.Prelude.{slice_index_or}
use Rattle.mt_replay.proofs.sorting.end_of_run.Given as goal

-- the numbers so far begin alike
abbrev pub invariant-loop-end : goal.invariant-loop-end
invariant-loop-end l = (k d : ℕ) → l.at ≤ k → k < l.end → slice_index_or l.numbers k d / 2 ^ l.bits ≡ slice_index_or l.numbers l.at d / 2 ^ l.bits
