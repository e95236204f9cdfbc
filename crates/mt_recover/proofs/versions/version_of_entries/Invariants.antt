use Rattle.std.proofs.Common.{◌≡◌, take}
use Rattle.mt_record.specs.LogTexts.{greatest}
use Rattle.mt_recover.specs.Steps.Preparing.{entry_versions}
use Rattle.mt_recover.proofs.versions.version_of_entries.Given as goal

-- the greatest version of the first entries
abbrev pub invariant-loop-number : goal.invariant-loop-number
invariant-loop-number l = l.version ≡ greatest (entry_versions (take l.number l.entries))
