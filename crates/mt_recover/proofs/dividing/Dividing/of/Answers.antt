use Rattle.mt_recover.proofs.Preparing.{dividing_is}
use Rattle.mt_recover.proofs.dividing.Dividing.of.Goals as goal

pub invariant_of-dividing : goal.invariant_of-dividing
invariant_of-dividing c =
    let found = c.requires in
    (found.0, found.1, rw c.of-all.ensures (dividing_is _ found.2 (c.in_ok-report.ensures.report found.0 found.1 found.2) c.in_ok-report.ensures.scans c.in_ok-report.ensures.chosen c.in_ok-entries.ensures c.in_ok-batches.ensures.updates))

pub returns-clause-dividing : goal.returns-clause-dividing
returns-clause-dividing c = λ logs parts is.
    rw c.of-all.ensures (dividing_is _ is (c.in_ok-report.ensures.report logs parts is) c.in_ok-report.ensures.scans c.in_ok-report.ensures.chosen c.in_ok-entries.ensures c.in_ok-batches.ensures.updates)
