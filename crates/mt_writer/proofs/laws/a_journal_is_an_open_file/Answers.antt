use Rattle.mt_writer.proofs.JournalLemmas.{opens, written, written_out, synced_more}
use Rattle.mt_writer.proofs.laws.a_journal_is_an_open_file.Goals as goal

pub returns : goal.returns
returns c = record { opens = opens; written = written; taken = written_out; synced = synced_more }
