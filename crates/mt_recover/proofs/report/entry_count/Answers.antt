use Rattle.std.proofs.Common.{◌∙◌, List, length, ap, rules}
use Rattle.std.specs.List.{sum_by}
use Rattle.mt_scan.specs.PartsShown.{KeptPart}
use Rattle.mt_recover.proofs.ReportLemmas.{entries_counted}
use Rattle.mt_recover.proofs.report.entry_count.Goals as goal

pub returns-in-Some : goal.returns-in-Some
returns-in-Some c =
    rw c.in-Some.is
    (c.total.ensures (λ (part : KeptPart). length part.entries) (λ x n e. search rules)
    ∙ ap (λ (parts : List KeptPart). sum_by (λ (part : KeptPart). length part.entries) parts) c.deref.ensures.value
    ∙ entries_counted c.in-Some.checkpoint.parts.items)
