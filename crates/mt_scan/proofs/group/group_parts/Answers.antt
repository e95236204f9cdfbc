use Rattle.std.proofs.Common.{List, map, sym, subst}
use Rattle.std.proofs.lemmas.List.{map_push}
use Rattle.mt_scan.specs.PartScans.{KnownPart}
use Rattle.mt_scan.specs.PartsShown.{known_by}
use Rattle.mt_scan.specs.Steps.Groups.{AreGroupsOf}
use Rattle.mt_scan.proofs.group.group_parts.Goals as goal

pub loop-scan-preserved : goal.loop-scan-preserved
loop-scan-preserved c =
    subst (λ (parts : List KnownPart). AreGroupsOf parts c.add_scan.new.groups) (sym (map_push known_by c.loop-scan.yielded c.in-Some.scan))
    (c.in_ok-add_scan.ensures (map known_by c.loop-scan.yielded) c.loop-scan.invariant)
