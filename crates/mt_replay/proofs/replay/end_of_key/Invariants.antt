use Rattle.std.proofs.Common.{◌≡◌, ◌<◌, ◌≤◌, ℕ}
use Rattle.std.specs.Prelude.{slice_index_or}
use Rattle.mt_words.specs.declared.update.Update.{Update}
use Rattle.mt_replay.proofs.replay.end_of_key.Given as goal

-- the updates so far are of one key
abbrev pub invariant-loop-end : goal.invariant-loop-end
invariant-loop-end l = (k : ℕ) (d : Update) → l.at ≤ k → k < l.end → (slice_index_or l.texts k d).key ≡ (slice_index_or l.texts l.at d).key
