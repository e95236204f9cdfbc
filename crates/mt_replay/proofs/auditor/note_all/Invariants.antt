use Rattle.std.proofs.Common.{◌≡◌, take}
use Rattle.mt_replay.specs.Steps.Auditor.{seen_in}
use Rattle.mt_replay.proofs.auditor.note_all.Given as goal

-- what the updates so far show
abbrev pub invariant-loop-text : goal.invariant-loop-text
invariant-loop-text l = l.seen.items ≡ seen_in (take l.text-index l.texts)
