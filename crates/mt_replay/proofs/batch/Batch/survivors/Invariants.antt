use Rattle.std.proofs.Common.{◌≡◌, take}
use Rattle.std.specs.List.{filter, flat_map}
use Rattle.mt_record.specs.Shares.{updates_of_share}
use Rattle.mt_replay.specs.Survivors.{in_window}
use Rattle.mt_replay.proofs.batch.Batch.survivors.Given as goal

-- the survivors of the shares so far
abbrev pub invariant-loop-share : goal.invariant-loop-share
invariant-loop-share l = l.survivors.items ≡ filter (in_window l.window) (flat_map updates_of_share (take l.share-index l.share-items))
