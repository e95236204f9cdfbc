use Rattle.std.proofs.Common.{◌≡◌, ◌≤◌, ◌++◌, List, length}
use Rattle.std.specs.List.{All, filter}
use Rattle.mt_words.specs.Changes.{Logged, is_mark}
use Rattle.mt_record.proofs.kept.log.KeptRecords.cut.Given as goal

-- the records dropped so far are late, and their marks are counted
abbrev pub invariant-loop-self : goal.invariant-loop-self
invariant-loop-self l = (late : List Logged) × (l.fn.self ≡ l.self ++ late) × All (λ r. l.limit ≤ r.timestamp) late × (l.marks ≡ length (filter is_mark late))

abbrev pub decreases-loop-self : goal.decreases-loop-self
decreases-loop-self l = length l.self
