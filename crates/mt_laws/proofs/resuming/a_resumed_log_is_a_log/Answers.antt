use Rattle.mt_laws.proofs.Resumed.{file_replaced, reading_after, last_after, resumed_twice}
use Rattle.mt_laws.proofs.resuming.a_resumed_log_is_a_log.Goals as goal

pub returns-clause-reading : goal.returns-clause-reading
returns-clause-reading c = λ before after log cutoff fits is to. reading_after cutoff before after log fits is to

pub returns-clause-last : goal.returns-clause-last
returns-clause-last c = λ log cutoff last fits is. last_after log cutoff last fits is

pub returns-clause-again : goal.returns-clause-again
returns-clause-again c = λ log cutoff. resumed_twice cutoff log

pub returns-clause-file : goal.returns-clause-file
returns-clause-file c = file_replaced
