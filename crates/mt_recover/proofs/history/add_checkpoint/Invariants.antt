use Rattle.std.proofs.Common.{◌≡◌, ◌++◌, take}
use Rattle.std.specs.List.{filter, flat_map}
use Rattle.mt_scan.specs.PartsShown.{KeptPart}
use Rattle.mt_replay.specs.Survivors.{wholes}
use Rattle.mt_recover.specs.History.{is_of}
use Rattle.mt_recover.proofs.history.add_checkpoint.Given as goal

-- the updates of the key in the parts so far
abbrev pub invariant-loop-part : goal.invariant-loop-part
invariant-loop-part l = l.updates.items ≡ l.initial.updates.items ++ filter (is_of l.key) (flat_map (λ (part : KeptPart). wholes part.entries) (take l.part-index l.part-items))
