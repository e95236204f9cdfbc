use Rattle.std.proofs.Common.{[]}
use Rattle.mt_scan.proofs.scan.finish_log.Goals as goal

pub returns-in-Err-clause-fault : goal.returns-in-Err-clause-fault
returns-in-Err-clause-fault c = λ bytes fed. record { of_bytes = c.in-Err.fault; answered = c.in-Err.ensures.fault bytes [] fed; is = c.of_log.ensures }

pub returns-in-Ok-clause-scan : goal.returns-in-Ok-clause-scan
returns-in-Ok-clause-scan c = λ bytes fed. c.of.ensures bytes (c.in-Ok.ensures.log bytes [] fed)
