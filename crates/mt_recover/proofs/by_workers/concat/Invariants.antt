use Rattle.std.proofs.Common.{◌≡◌, ◌++◌}
use Rattle.std.specs.List.{flat_map}
use Rattle.std.specs.Vec.Iter.{into_iter_items}
use Rattle.mt_recover.proofs.by_workers.concat.Given as goal

-- the items of the lists so far
abbrev pub invariant-loop-list : goal.invariant-loop-list
invariant-loop-list g l = record {
  rest : l.yielded ++ into_iter_items l.list-iterator ≡ l.fn.lists.items;
  all : l.all.items ≡ flat_map (λ list. list.items) l.yielded;
}
