use Rattle.mt_record.proofs.EntryTexts.{entry_fault}
use Rattle.mt_record.proofs.body.check.check_entry.Goals as goal

pub returns-clause-fault : goal.returns-clause-fault
returns-clause-fault c = entry_fault c.args.format c.args.bytes.now c.check_change.result c.check_change.ensures.fault
