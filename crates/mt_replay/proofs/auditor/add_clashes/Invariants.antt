use Rattle.std.proofs.Common.{List, length}
use Rattle.mt_replay.specs.Clashes.{Clash, Rises}
use Rattle.mt_replay.specs.Steps.Auditor.{IsLowerSeen, AddClashes}
use Rattle.mt_replay.proofs.auditor.add_clashes.Given as goal

-- what is left rises, and once its clashes are added, all are
abbrev pub invariant-loop-first : goal.invariant-loop-first
invariant-loop-first l = record {
  rise : Rises IsLowerSeen l.rest;
  adds : (new : List Clash) → AddClashes l.key l.rest l.clashes.items new → AddClashes l.key l.seen l.fn.clashes.items new;
}

abbrev pub decreases-loop-first : goal.decreases-loop-first
decreases-loop-first l = length l.rest
