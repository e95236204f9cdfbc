use Rattle.std.proofs.Common.{map, sym}
use Rattle.mt_laws.specs.Lives.{as_written, running, down, crash, then}
use Rattle.mt_laws.proofs.KeptLogs.{history_with_deleted}
use Rattle.mt_laws.proofs.LostNames.{life_without}
use Rattle.mt_laws.proofs.lives.a_crash_of_names.Goals as goal

pub returns-clause-crash : goal.returns-clause-crash
returns-clause-crash c = λ acked before after checkpoints left parts life names are of_parts.
    then (running acked after checkpoints) (down acked (map as_written after) left parts) (life_without acked before after checkpoints life names)
    (crash acked after checkpoints left parts are of_parts)

pub returns-clause-deleted : goal.returns-clause-deleted
returns-clause-deleted c = λ acked before after checkpoints life names. life_without acked before after checkpoints life names

pub returns-clause-history : goal.returns-clause-history
returns-clause-history c = λ begin before after names. sym (history_with_deleted begin before after names.each)
