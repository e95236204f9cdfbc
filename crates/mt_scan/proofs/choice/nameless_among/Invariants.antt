use Rattle.std.proofs.Common.{map, take}
use Rattle.mt_scan.specs.PartsShown.{known_by}
use Rattle.mt_scan.specs.Choice.{AreNameless}
use Rattle.mt_scan.proofs.choice.nameless_among.Given as goal

-- the positions among the scans so far
abbrev pub invariant-loop-position : goal.invariant-loop-position
invariant-loop-position l = AreNameless (map known_by (take l.position l.scans)) l.positions.items
