use Rattle.mt_recover.proofs.ScanLemmas.{log_scanned}
use Rattle.mt_recover.proofs.scans.scan.Goals as goal

pub returns-in-Log : goal.returns-in-Log
returns-in-Log g c =
    rw c.in-Log.is
    (log_scanned g.S.Source.seen c.in-Log.number c.in-Log.source c.scan_shared.result c.args.pass.now c.scan_shared.new.pass c.requires.noted c.scan_shared.ensures.scan c.scan_shared.ensures.fault c.scan_shared.ensures.unnoted c.scan_shared.ensures.steady)
