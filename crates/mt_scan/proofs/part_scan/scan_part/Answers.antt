use Rattle.std.proofs.lemmas.Result.{IfOk-weaker}
use Rattle.mt_scan.proofs.part_scan.scan_part.Goals as goal

pub returns-clause-scan : goal.returns-clause-scan
returns-clause-scan g c =
    let all = c.in-Ok.ensures.fed in
    IfOk-weaker c.finish_part.result _ _ (λ scan is. (all.0, all.1, is)) (c.finish_part.ensures.scan all.0 all.2)

pub returns-clause-fault : goal.returns-clause-fault
returns-clause-fault g c = c.finish_part.ensures.fault c.args.part
