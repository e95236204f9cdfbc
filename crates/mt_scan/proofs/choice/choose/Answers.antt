use Rattle.std.proofs.Common.{List, map, subst}
use Rattle.mt_scan.specs.PartsShown.{known_by}
use Rattle.mt_scan.specs.Choice.{AreNameless}
use Rattle.mt_scan.specs.declared.part_scan.PartScan.{PartScan}
use Rattle.mt_scan.proofs.choice.choose.Goals as goal

pub returns : goal.returns
returns c =
    let found = c.in_ok-best.ensures (map known_by c.args.scans.items) c.in_ok-groups.ensures in
    record {
      chosen = found.chosen;
      skipped = found.skipped;
      nameless = subst (λ (scans : List PartScan). AreNameless (map known_by scans) c.in_ok-nameless.nameless.items) c.deref.ensures.value c.in_ok-nameless.ensures;
    }
