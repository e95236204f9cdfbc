use Rattle.mt_record.proofs.OnePart.{one_part, entry_free}
use Rattle.mt_record.proofs.PartFiles.{one_part_of, one_part_fault, part_not_both}
use Rattle.mt_record.proofs.laws.one_part.Goals as goal

pub returns : goal.returns
returns c = record { one_part = one_part; one_fault = one_part_fault; one_reading = one_part_of; not_both = part_not_both; prefix_free = entry_free }
