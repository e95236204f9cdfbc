use Rattle.std.proofs.Common.{◌≡◌, ◌<◌, ◌+◌, ◌^◌, ◌++◌, length, map, All}
use Rattle.std.specs.List.{flat_map}
use Rattle.std.specs.Vec.Iter.{into_iter_items}
use Rattle.mt_words.specs.Walks.{joined}
use Rattle.mt_words.specs.Updates.{updates_from}
use Rattle.mt_words.specs.OneLog.{kept_updates}
use Rattle.mt_record.specs.Shares.{updates_of_share}
use Rattle.mt_record.specs.Steps.Bodies.{IsLawfulBody}
use Rattle.mt_record.specs.Decoding.{decode}
use Rattle.mt_record.proofs.kept.updates.Updates.into_shares.Given as goal

-- the updates of the shares so far and those of the blocks that are left are all
abbrev pub invariant-loop-block : goal.invariant-loop-block
invariant-loop-block l = record {
  whole : flat_map updates_of_share l.shares.items ++ updates_from l.log l.from (map decode (joined (into_iter_items l.block-iterator))) ≡ kept_updates l.fn.self;
  lawful : All IsLawfulBody (joined (into_iter_items l.block-iterator));
  fits : l.from + length (joined (into_iter_items l.block-iterator)) < 2 ^ 64;
}
