use Rattle.mt_words.specs.Limits.{limits_of}
use Rattle.mt_record.proofs.OneSalvage.{one_list, in_order, salvaged_log, part_of}
use Rattle.mt_record.proofs.laws.one_salvage.Goals as goal

pub returns : goal.returns
returns c = record { one_list = one_list; in_order = λ items format. in_order items (limits_of format); log = salvaged_log; part = part_of }
