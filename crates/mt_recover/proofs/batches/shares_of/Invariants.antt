use Rattle.std.proofs.Common.{◌≡◌, ◌++◌}
use Rattle.std.specs.List.{flat_map}
use Rattle.std.specs.Vec.Iter.{into_iter_items}
use Rattle.mt_record.specs.Shares.{updates_of_share}
use Rattle.mt_recover.specs.Steps.LogScans.{kept}
use Rattle.mt_recover.proofs.batches.shares_of.Given as goal

-- the shares of the scans so far
abbrev pub invariant-loop-scan : goal.invariant-loop-scan
invariant-loop-scan l = record {
  rest : l.yielded ++ into_iter_items l.scan-iterator ≡ l.fn.scans.items;
  updates : flat_map updates_of_share l.shares.items ≡ kept l.yielded;
}
