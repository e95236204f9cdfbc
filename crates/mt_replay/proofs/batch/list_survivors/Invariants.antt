use Rattle.std.proofs.Common.{◌≡◌, ◌++◌}
use Rattle.std.specs.List.{filter}
use Rattle.mt_replay.specs.Survivors.{in_window}
use Rattle.mt_replay.proofs.BatchLemmas.{first_of}
use Rattle.mt_replay.proofs.batch.list_survivors.Given as goal

-- the survivors of the records so far
abbrev pub invariant-loop-number : goal.invariant-loop-number
invariant-loop-number l = l.survivors.items ≡ l.initial.survivors.items ++ filter (in_window l.window) (first_of l.share l.number)
