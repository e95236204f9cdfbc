use Rattle.std.proofs.Common.{◌≡◌, take}
use Rattle.mt_replay.proofs.sorted_updates.gather.Given as goal

-- the first updates are gathered
abbrev pub invariant-loop-text : goal.invariant-loop-text
invariant-loop-text l = l.bodies ≡ take l.text-index l.texts
