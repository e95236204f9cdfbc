use Rattle.std.proofs.Common.{◌≡◌, ◌++◌}
use Rattle.std.specs.List.{flat_map}
use Rattle.std.specs.Vec.Iter.{into_iter_items}
use Rattle.mt_record.specs.Shares.{updates_of_share}
use Rattle.mt_replay.specs.Batches.{batched}
use Rattle.mt_recover.specs.Steps.Batches.{AreFilled, records_in}
use Rattle.mt_recover.proofs.batches.batches_of.Given as goal

-- the batches of the shares so far
abbrev pub invariant-loop-share : goal.invariant-loop-share
invariant-loop-share l = record {
  rest : l.yielded ++ into_iter_items l.share-iterator ≡ into_iter_items l.initial.share-iterator;
  few : AreFilled l.size (records_in l.yielded) l.batches.items;
  updates : batched l.batches.items ≡ flat_map updates_of_share l.yielded;
}
