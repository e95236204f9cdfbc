use Rattle.std.proofs.Common.{◌≡◌, length, take}
use Rattle.std.specs.List.{filter, flat_map}
use Rattle.mt_record.specs.Shares.{updates_of_share}
use Rattle.mt_replay.specs.Survivors.{is_early}
use Rattle.mt_replay.proofs.batch.Batch.early_count.Given as goal

-- the early updates of the shares so far
abbrev pub invariant-loop-share : goal.invariant-loop-share
invariant-loop-share l = l.count ≡ length (filter (is_early l.begin) (flat_map updates_of_share (take l.share-index l.share-items)))
