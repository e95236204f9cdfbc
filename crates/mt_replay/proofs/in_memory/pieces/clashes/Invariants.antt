use Rattle.std.proofs.Common.{◌≡◌, take}
use Rattle.std.specs.List.{flat_map, filter}
use Rattle.mt_replay.specs.InMemory.{is_logged_in}
use Rattle.mt_replay.proofs.in_memory.pieces.clashes.Given as goal

-- the updates of the first logs
abbrev pub invariant-loop-updates : goal.invariant-loop-updates
invariant-loop-updates l = l.range ≡ filter (is_logged_in l.window) (flat_map (λ updates. updates.items) (take l.updates-index l.logs))
