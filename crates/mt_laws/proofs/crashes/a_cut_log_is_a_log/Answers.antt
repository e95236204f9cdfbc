use Rattle.mt_laws.proofs.CutLogs.{cut_file}
use Rattle.mt_laws.proofs.crashes.a_cut_log_is_a_log.Goals as goal

pub returns : goal.returns
returns c = λ left written log is cut. cut_file left written log is cut
