use Rattle.mt_recover.proofs.OneReport.{one_report, report_adds_up}
use Rattle.mt_recover.proofs.laws.one_report.Goals as goal

pub returns-clause-one : goal.returns-clause-one
returns-clause-one c = λ logs parts outcome other is too. one_report logs parts outcome other is too

pub returns-clause-adds_up : goal.returns-clause-adds_up
returns-clause-adds_up c = λ logs parts outcome is. report_adds_up logs parts outcome is
