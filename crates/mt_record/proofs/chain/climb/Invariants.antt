use Rattle.mt_record.specs.Steps.Climbs.{Climbed}
use Rattle.mt_record.proofs.chain.climb.Given as goal

abbrev pub invariant-loop-place : goal.invariant-loop-place
invariant-loop-place l = Climbed l.times l.place l.ends.items l.places.items l.before.items
