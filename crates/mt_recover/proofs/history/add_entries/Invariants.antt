use Rattle.std.proofs.Common.{◌≡◌, ◌++◌, take}
use Rattle.std.specs.List.{filter}
use Rattle.mt_replay.specs.Survivors.{wholes}
use Rattle.mt_recover.specs.History.{is_of}
use Rattle.mt_recover.proofs.history.add_entries.Given as goal

-- the updates of the key among the entries so far
abbrev pub invariant-loop-number : goal.invariant-loop-number
invariant-loop-number l = l.updates.items ≡ l.initial.updates.items ++ filter (is_of l.key) (wholes (take l.number l.entries))
