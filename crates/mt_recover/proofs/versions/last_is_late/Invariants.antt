use Rattle.std.proofs.Common.{◌≡◌, ◌≤◌, length}
use Rattle.mt_words.specs.OneLog.{kept_updates}
use Rattle.mt_recover.proofs.HistoryLemmas.{first_of}
use Rattle.mt_recover.proofs.versions.last_is_late.Given as goal

abbrev pub decreases-loop-left : goal.decreases-loop-left
decreases-loop-left l = l.left

-- all updates are among the records that are left
abbrev pub invariant-loop-left : goal.invariant-loop-left
invariant-loop-left l = (l.left ≤ length l.fn.updates.records) × (first_of l.fn.updates l.left ≡ kept_updates l.fn.updates)
