use Rattle.std.proofs.Common.{◌∙◌, List, sym, ap}
use Rattle.mt_record.specs.LogTexts.{greatest}
use Rattle.mt_scan.specs.PartsShown.{KeptPart, shown_by_all}
use Rattle.mt_scan.specs.Steps.Checkpoints.{entries_of}
use Rattle.mt_recover.specs.Steps.Preparing.{entry_versions}
use Rattle.mt_recover.proofs.VersionLemmas.{of_entries}
use Rattle.mt_recover.proofs.versions.version_of_checkpoint.Goals as goal

pub returns-in-Some : goal.returns-in-Some
returns-in-Some c =
    rw c.in-Some.is (c.version_of_parts.ensures
    ∙ ap (λ (parts : List KeptPart). greatest (entry_versions (entries_of (shown_by_all parts)))) c.deref.ensures.value
    ∙ sym (of_entries (entries_of (shown_by_all c.in-Some.checkpoint.parts.items))))
