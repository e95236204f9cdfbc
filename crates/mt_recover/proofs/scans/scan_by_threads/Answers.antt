use Rattle.mt_recover.proofs.ScanLemmas.{log_scanned}
use Rattle.mt_recover.proofs.scans.scan_by_threads.Goals as goal

pub returns-in-Log : goal.returns-in-Log
returns-in-Log g c =
    rw c.in-Log.is
    (log_scanned g.S.Source.seen c.in-Log.number c.in-Log.source c.scan_by_workers.result c.args.pass.now c.scan_by_workers.new.pass c.requires.noted c.scan_by_workers.ensures.scan c.scan_by_workers.ensures.fault c.scan_by_workers.ensures.unnoted c.scan_by_workers.ensures.steady)
