use Rattle.std.proofs.Common.{◌≡◌, ◌≤◌, length}
use Rattle.std.specs.List.{filter}
use Rattle.mt_replay.specs.Survivors.{is_early}
use Rattle.mt_replay.proofs.BatchLemmas.{first_of}
use Rattle.mt_replay.proofs.batch.early_in.Given as goal

-- the early updates of the records so far
abbrev pub invariant-loop-number : goal.invariant-loop-number
invariant-loop-number l = record {
  few : l.count ≤ l.number;
  counts : l.count ≡ length (filter (is_early l.begin) (first_of l.share l.number));
}
