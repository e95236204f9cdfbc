use Rattle.mt_record.proofs.OneReading.{one_log, one_fault, one_reading_of, not_both, prefix_free}
use Rattle.mt_record.proofs.laws.one_reading.Goals as goal

pub returns : goal.returns
returns c = record { one_log = one_log; one_fault = one_fault; one_reading = one_reading_of; not_both = not_both; prefix_free = prefix_free }
