use Rattle.std.proofs.Common.{◌++◌, refl, sym, subst}
use Rattle.mt_scan.specs.Dropping.{HasAllBelow, KeepsOnlyBelow}
use Rattle.mt_scan.specs.declared.log_scan.LogScan.{LogScan}
use Rattle.mt_scan.specs.Steps.DroppingFeeds.{taken_of}
use Rattle.mt_scan.proofs.DroppingFeeds.{was_sound}
use Rattle.mt_scan.proofs.SharedScans.{scan_is}
use Rattle.mt_scan.proofs.dropping_feed.DroppingFeed.finish.Goals as goal

pub returns-in-Ok-clause-scan : goal.returns-in-Ok-clause-scan
returns-in-Ok-clause-scan c limit bytes h small =
    let sound = was_sound c.args.self.feed.fault _ c.in-Ok.ensures.again refl in
    subst (λ (scan : LogScan). HasAllBelow limit c.args.log bytes scan × KeepsOnlyBelow limit scan) (sym c.scan_of.ensures)
    (scan_is c.args.self limit c.args.log bytes c.in-Ok.text h small sound (c.in-Ok.ensures.log bytes (taken_of c.args.self.kept ++ h.read.late) h.read.fed) c.in-Ok.ensures.ready)
