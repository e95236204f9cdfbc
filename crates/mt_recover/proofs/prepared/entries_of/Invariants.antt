use Rattle.std.proofs.Common.{◌≡◌, ◌++◌, map}
use Rattle.std.specs.Vec.Iter.{into_iter_items}
use Rattle.mt_replay.specs.Survivors.{wholes}
use Rattle.mt_recover.proofs.prepared.entries_of.Given as goal

-- the entries of the parts so far
abbrev pub invariant-loop-part : goal.invariant-loop-part
invariant-loop-part l = record {
  rest : l.yielded ++ into_iter_items l.part-iterator ≡ into_iter_items l.initial.part-iterator;
  cells : l.lists.items ≡ map (λ part. wholes part.entries) l.yielded;
}
