use Rattle.mt_writer.proofs.JournalLemmas.{reached_when_written, reached_when_synced}
use Rattle.mt_writer.proofs.laws.a_reach_stays_true.Goals as goal

pub returns : goal.returns
returns c = record { written = reached_when_written; synced = reached_when_synced }
