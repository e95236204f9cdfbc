use Rattle.std.proofs.Common.{map}
use Rattle.mt_scan.specs.PartsShown.{known_by}
use Rattle.mt_scan.specs.Steps.Groups.{AreGroupsOf}
use Rattle.mt_scan.proofs.group.group_parts.Given as goal

-- the groups of the scans so far
abbrev pub invariant-loop-scan : goal.invariant-loop-scan
invariant-loop-scan l = AreGroupsOf (map known_by l.yielded) l.groups
