use Rattle.std.proofs.Common.{◌≡◌, ◌-◌, ◌<◌, ◌≤◌, ℕ, List, true, false, length}
use Rattle.std.specs.Prelude.{slice_index_or}
use Rattle.mt_replay.specs.Cuts.{is_below}
use Rattle.mt_replay.proofs.dealing.piece_of.Given as goal

-- the number of cuts that are not above the key lies between `low` and `high`
abbrev pub invariant-loop-low : goal.invariant-loop-low
invariant-loop-low l = record {
  rises : l.low ≤ l.high;
  within : l.high ≤ length l.cuts;
  before : (k : ℕ) (d : List ℕ) → k < l.low → is_below l.key (slice_index_or l.cuts k d) ≡ false;
  after : (k : ℕ) (d : List ℕ) → l.high ≤ k → k < length l.cuts → is_below l.key (slice_index_or l.cuts k d) ≡ true;
}

abbrev pub decreases-loop-low : goal.decreases-loop-low
decreases-loop-low l = l.high - l.low
