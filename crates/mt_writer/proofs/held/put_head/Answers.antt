use Rattle.std.proofs.Common.{◌∙◌, rules, take_at, drop_at}
use Rattle.mt_writer.proofs.held.put_head.Goals as goal

pub returns-clause-head : goal.returns-clause-head
returns-clause-head c = take_at c.copy_from_slice.new.self _ 12 (search rules) ∙ c.copy_from_slice.ensures.after

pub returns-clause-rest : goal.returns-clause-rest
returns-clause-rest c = drop_at c.copy_from_slice.new.self _ 12 (search rules)
