use Rattle.std.proofs.Common.{◌≡◌, ◌++◌}
use Rattle.std.specs.List.{filter}
use Rattle.mt_recover.specs.History.{is_of}
use Rattle.mt_recover.proofs.HistoryLemmas.{first_of}
use Rattle.mt_recover.proofs.history.add_log.Given as goal

-- the updates of the key among the records so far
abbrev pub invariant-loop-number : goal.invariant-loop-number
invariant-loop-number l = l.updates.items ≡ l.initial.updates.items ++ filter (is_of l.key) (first_of l.log l.number)
