use Rattle.std.proofs.Common.{◌≡◌, take}
use Rattle.mt_scan.specs.Steps.Lasts.{last_of_segments}
use Rattle.mt_scan.proofs.lasts.last_of_worker.Given as goal

-- the greatest of the segments so far
abbrev pub invariant-loop-front : goal.invariant-loop-front
invariant-loop-front l = l.last ≡ last_of_segments l.worker (take l.front-index l.fronts)
