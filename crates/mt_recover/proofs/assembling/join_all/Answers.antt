use Rattle.std.proofs.Common.{◌∷◌, [], ◌++◌, ◌∙◌, sym, ap, append_assoc}
use Rattle.std.specs.Vec.Iter.{into_iter_items}
use Rattle.mt_tree.specs.Borders.{layer_walk}
use Rattle.mt_recover.proofs.PiecesLemmas.{next_above, join_next}
use Rattle.mt_recover.proofs.assembling.join_all.Goals as goal

pub join-requires : goal.join-requires
join-requires c = next_above layer_walk c.loop-draft.yielded _ c.in-Some.draft _ c.args.drafts.items (layer_walk c.loop-draft.whole) c.loop-draft.invariant.rest c.in-Some.ensures.steps.0 c.loop-draft.invariant.pairs c.requires

pub loop-draft-preserved : goal.loop-draft-preserved
loop-draft-preserved c = record {
  rest = append_assoc c.loop-draft.yielded (c.in-Some.draft ∷ []) (into_iter_items c.next.new.self) ∙ ap (λ xs. c.loop-draft.yielded ++ xs) (sym c.in-Some.ensures.steps.0) ∙ c.loop-draft.invariant.rest;
  pairs = join_next layer_walk c.loop-draft.yielded c.in-Some.draft (layer_walk c.loop-draft.whole) (layer_walk c.in_ok-whole.whole) c.loop-draft.invariant.pairs c.in_ok-whole.ensures.pairs;
}
