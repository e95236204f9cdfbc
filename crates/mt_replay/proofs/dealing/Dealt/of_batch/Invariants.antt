use Rattle.std.proofs.Common.{◌≡◌, ◌++◌}
use Rattle.std.specs.List.{filter, flat_map}
use Rattle.std.specs.Vec.Iter.{into_iter_items}
use Rattle.mt_record.specs.Shares.{updates_of_share}
use Rattle.mt_replay.specs.Ranges.{dealt_by}
use Rattle.mt_replay.specs.Survivors.{in_window}
use Rattle.mt_replay.proofs.dealing.Dealt.of_batch.Given as goal

-- the survivors of the shares so far are dealt, and the others are left
abbrev pub invariant-loop-share : goal.invariant-loop-share
invariant-loop-share l = record {
  rest : flat_map updates_of_share (l.yielded ++ into_iter_items l.share-iterator) ≡ l.fn.batch.updates;
  dealt : l.lists.items ≡ dealt_by l.cuts (filter (in_window l.window) (flat_map updates_of_share l.yielded));
}
