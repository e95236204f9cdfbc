use Rattle.mt_writer.proofs.FileLemmas.{file_opens}
use Rattle.mt_writer.proofs.laws.a_file_has_its_text.Goals as goal

pub returns : goal.returns
returns c = file_opens
