use Rattle.std.proofs.Common.{◌≡◌}
use Rattle.std.specs.List.{filter}
use Rattle.mt_record.specs.LogTexts.{greatest}
use Rattle.mt_recover.specs.Report.{versions, is_below}
use Rattle.mt_recover.proofs.HistoryLemmas.{first_of}
use Rattle.mt_recover.proofs.versions.version_below.Given as goal

-- the greatest version below the cutoff of the records so far
abbrev pub invariant-loop-number : goal.invariant-loop-number
invariant-loop-number l = l.version ≡ greatest (versions (filter (is_below l.fn.cutoff) (first_of l.fn.scan.updates l.number)))
