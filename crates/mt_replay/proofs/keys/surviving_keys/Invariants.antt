use Rattle.std.proofs.Common.{◌≡◌, map, take}
use Rattle.std.specs.List.{filter}
use Rattle.std.specs.Prelude.{All}
use Rattle.mt_words.specs.Limits.{widest}
use Rattle.mt_words.specs.Words.{IsKey}
use Rattle.mt_replay.specs.Batches.{batched}
use Rattle.mt_replay.specs.Cuts.{keys_in}
use Rattle.mt_replay.specs.Survivors.{in_window}
use Rattle.mt_replay.proofs.keys.surviving_keys.Given as goal

-- the keys of the survivors of the first batches
abbrev pub invariant-loop-batch : goal.invariant-loop-batch
invariant-loop-batch g l = record {
  lawful : All (IsKey widest) (map (λ key. key.now) l.keys.items);
  all : map (λ key. key.now) l.keys.items ≡ keys_in (filter (in_window l.window) (batched (take l.batch-index l.batches)));
}
