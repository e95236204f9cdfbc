use Rattle.std.proofs.Common.{◌≡◌, ◌++◌, map}
use Rattle.std.specs.Vec.Iter.{into_iter_items}
use Rattle.mt_words.specs.Walks.{joined}
use Rattle.mt_tree.specs.Borders.{layer_walk}
use Rattle.mt_recover.proofs.assembling.join_all.Given as goal

-- the pairs of the drafts so far
abbrev pub invariant-loop-draft : goal.invariant-loop-draft
invariant-loop-draft l = record {
  rest : l.yielded ++ into_iter_items l.draft-iterator ≡ l.fn.drafts.items;
  pairs : layer_walk l.whole ≡ joined (map layer_walk l.yielded);
}
