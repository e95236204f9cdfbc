use Rattle.mt_recover.proofs.Preparing.{division_is}
use Rattle.mt_recover.proofs.prepared.Prepared.by_workers.Goals as goal

pub of-requires-2 : goal.of-requires-2
of-requires-2 g c =
    let found = c.requires in
    (found.0, found.1, division_is found.2 (c.in_ok-report.ensures.report found.0 found.1 found.2) c.in_ok-report.ensures.scans c.in_ok-report.ensures.chosen c.in_ok-entries.ensures c.in_ok-division.ensures.divided)

pub returns-clause-prepared : goal.returns-clause-prepared
returns-clause-prepared g c = λ logs parts is.
    c.of-2.ensures.prepared logs parts (division_is is (c.in_ok-report.ensures.report logs parts is) c.in_ok-report.ensures.scans c.in_ok-report.ensures.chosen c.in_ok-entries.ensures c.in_ok-division.ensures.divided)

pub returns-clause-cuts : goal.returns-clause-cuts
returns-clause-cuts g c = rw (c.of-2.ensures.divided.0, c.of-2.ensures.divided.1) c.in_ok-division.ensures.cuts
