use Rattle.std.proofs.Common.{◌∙◌, rules}
use Rattle.mt_recover.specs.Steps.LogScans.{version_in}
use Rattle.mt_recover.proofs.VersionLemmas.{of_scans_below}
use Rattle.mt_recover.proofs.versions.version_of_logs_below.Goals as goal

pub returns : goal.returns
returns c = λ bytes logs read show.
    c.greatest_of.ensures (version_in c.args.cutoff) (λ x n e. search rules) ∙ of_scans_below c.args.cutoff 0 bytes c.args.scans.now logs read show
