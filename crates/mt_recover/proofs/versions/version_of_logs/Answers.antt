use Rattle.std.proofs.Common.{◌∙◌, rules}
use Rattle.mt_scan.specs.declared.log_scan.LogScan.{LogScan}
use Rattle.mt_recover.proofs.VersionLemmas.{of_scans}
use Rattle.mt_recover.proofs.versions.version_of_logs.Goals as goal

pub returns : goal.returns
returns c = λ logs numbers. c.greatest_of.ensures (λ (scan : LogScan). scan.front.version) (λ x n e. search rules) ∙ of_scans 0 c.args.scans.now logs numbers
