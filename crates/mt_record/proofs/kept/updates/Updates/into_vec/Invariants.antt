use Rattle.std.proofs.Common.{◌≡◌, take}
use Rattle.mt_words.specs.Updates.{updates_from}
use Rattle.mt_record.proofs.kept.updates.Updates.into_vec.Given as goal

-- the updates so far are those of the first records
abbrev pub invariant-loop-number : goal.invariant-loop-number
invariant-loop-number l = l.updates.items ≡ updates_from l.self-inside.log 0 (take l.number l.self-inside.records)
