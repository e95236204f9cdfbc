use Rattle.std.proofs.Common.{refl}
use Rattle.mt_scan.proofs.Telling.{some_bytes}
use Rattle.mt_scan.proofs.Steps.{scanned, faulty}
use Rattle.mt_scan.proofs.scan.scan_log.Goals as goal

pub returns-in-Ok-clause-scan : goal.returns-in-Ok-clause-scan
returns-in-Ok-clause-scan g c =
    let all = c.in-Ok.ensures.fed in
    scanned c.args.log (g.S.Source.seen c.args.source.now).told all.0 c.finish_log.result all.1 (c.finish_log.ensures.scan all.0 all.2)

pub returns-in-Ok-clause-fault : goal.returns-in-Ok-clause-fault
returns-in-Ok-clause-fault g c =
    let all = c.in-Ok.ensures.fed in
    faulty c.args.log (g.S.Source.seen c.args.source.now).told all.0 c.finish_log.result all.1 (c.finish_log.ensures.fault all.0 all.2)

pub returns-in-Err-clause-fault : goal.returns-in-Err-clause-fault
returns-in-Err-clause-fault g c =
    let some = some_bytes (g.S.Source.seen c.args.source.now).told in
    (some.0, some.1, refl)
