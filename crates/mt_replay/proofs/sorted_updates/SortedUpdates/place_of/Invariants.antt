use Rattle.std.proofs.Common.{◌≡◌, ◌-◌, ◌<◌, ◌≤◌, ℕ, true, false, length}
use Rattle.std.specs.Prelude.{slice_index_or}
use Rattle.mt_words.specs.declared.update.Update.{Update}
use Rattle.mt_replay.specs.Cuts.{is_below}
use Rattle.mt_replay.proofs.sorted_updates.SortedUpdates.place_of.Given as goal

-- the place lies between `low` and `high`
abbrev pub invariant-loop-low : goal.invariant-loop-low
invariant-loop-low l = record {
  rises : l.low ≤ l.high;
  within : l.high ≤ length l.self;
  before : (k : ℕ) (d : Update) → k < l.low → is_below (slice_index_or l.self k d).key l.key ≡ true;
  after : (k : ℕ) (d : Update) → l.high ≤ k → k < length l.self → is_below (slice_index_or l.self k d).key l.key ≡ false;
}

abbrev pub decreases-loop-low : goal.decreases-loop-low
decreases-loop-low l = l.high - l.low
