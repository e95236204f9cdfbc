use Rattle.std.proofs.Common.{[]}
use Rattle.mt_recover.proofs.fed.Fed.new.Goals as goal

pub invariant_of-result : goal.invariant_of-result
invariant_of-result c = ([], [], rw (c.new.ensures.items, c.new-2.ensures.items) (record { logs_are = tt; parts_are = tt }))
