use Rattle.std.proofs.Common.{◌∙◌, rules}
use Rattle.mt_record.specs.LogTexts.{greatest}
use Rattle.mt_scan.specs.PartsShown.{KeptPart}
use Rattle.mt_recover.specs.Steps.Preparing.{entry_versions}
use Rattle.mt_recover.proofs.VersionLemmas.{of_parts}
use Rattle.mt_recover.proofs.versions.version_of_parts.Goals as goal

pub returns : goal.returns
returns c = c.greatest_of.ensures (λ (part : KeptPart). greatest (entry_versions part.entries)) (λ x n e. search rules) ∙ of_parts c.args.parts.now
