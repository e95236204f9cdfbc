use Rattle.mt_laws.proofs.Continued.{goes_on, none_comes_back}
use Rattle.mt_laws.proofs.resuming.an_update_after_a_resume.Goals as goal

pub returns-clause-goes_on : goal.returns-clause-goes_on
returns-clause-goes_on c = λ logs parts resumed later left pairs store resume on now. goes_on logs parts resumed later left pairs store resume on now

pub returns-clause-dropped : goal.returns-clause-dropped
returns-clause-dropped c = λ logs parts resumed left readings pairs store resume read u at. none_comes_back logs parts resumed left readings pairs store resume read u at
