use Rattle.mt_laws.proofs.SomeVerdict.{store_or_fault}
use Rattle.mt_laws.proofs.verdicts.some_verdict.Goals as goal

pub returns : goal.returns
returns c = λ logs parts are. store_or_fault logs parts are
