use Rattle.std.proofs.Common.{◌≡◌, take}
use Rattle.std.specs.Prelude.{filter}
use Rattle.mt_replay.specs.InMemory.{survives_with}
use Rattle.mt_replay.proofs.in_memory.spelling.spell.Given as goal

-- the survivors of the first updates
abbrev pub invariant-loop-update : goal.invariant-loop-update
invariant-loop-update l = l.stream ≡ filter (survives_with l.entries l.window) (take l.update-index l.updates)
