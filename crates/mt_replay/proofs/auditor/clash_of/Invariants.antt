use Rattle.std.proofs.Common.{◌≡◌, map, take}
use Rattle.mt_replay.proofs.auditor.clash_of.Given as goal

-- the places of the first
abbrev pub invariant-loop-one : goal.invariant-loop-one
invariant-loop-one l = l.places.items ≡ map (λ one. one.place) (take l.one-index l.seen)
