use Rattle.mt_scan.proofs.part_scan.finish_part.Goals as goal

pub returns-in-Err-Broken-clause-scan : goal.returns-in-Err-Broken-clause-scan
returns-in-Err-Broken-clause-scan c = λ bytes fed. (rw c.in-Err-Broken.field-0-is at (c.in-Err-Broken.ensures.fault bytes fed)) (λ same. cc)

pub returns-in-Err-Header-clause-scan : goal.returns-in-Err-Header-clause-scan
returns-in-Err-Header-clause-scan c = λ bytes fed. (rw c.in-Err-Header.field-0-is at (c.in-Err-Header.ensures.fault bytes fed)) (λ same. cc)
