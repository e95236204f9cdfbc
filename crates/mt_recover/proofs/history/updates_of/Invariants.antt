use Rattle.std.proofs.Common.{◌≡◌, take}
use Rattle.std.specs.List.{filter}
use Rattle.mt_recover.specs.History.{is_of}
use Rattle.mt_recover.specs.Steps.Fates.{updates_in}
use Rattle.mt_recover.proofs.history.updates_of.Given as goal

-- the updates of the key in the logs so far
abbrev pub invariant-loop-scan : goal.invariant-loop-scan
invariant-loop-scan l = l.updates.items ≡ filter (is_of l.key) (updates_in (take l.scan-index l.scans))
