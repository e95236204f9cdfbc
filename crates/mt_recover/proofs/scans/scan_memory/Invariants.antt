use Rattle.std.proofs.Common.{◌≡◌, ℕ, length, map, take}
use Rattle.mt_recover.specs.Steps.Outcomes.{AllFrom, IsLogOutcome, in_memory}
use Rattle.mt_recover.proofs.scans.scan_memory.Given as goal

-- the first logs are scanned
abbrev pub invariant-loop-log : goal.invariant-loop-log
invariant-loop-log l = record {
  number_is : l.log ≡ length l.outcomes.items;
  are : (limit : ℕ) → AllFrom (IsLogOutcome limit) 0 (take l.log (map in_memory (map (λ log. log.now) l.logs))) l.outcomes.items;
}
