use Rattle.std.proofs.Common.{◌≤◌, ◌*◌, ◌∷◌, [], ◌++◌, ◌∙◌, List, length, refl, sym, ap, subst, append_assoc, arith}
use Rattle.std.specs.List.{flat_map}
use Rattle.std.specs.Vec.Iter.{into_iter_items}
use Rattle.std.proofs.lemmas.List.{flat_map_more}
use Rattle.mt_words.specs.declared.update.Update.{Update}
use Rattle.std.proofs.lemmas.List.Sums.{sum_by_push}
use Rattle.mt_record.specs.Shares.{ShareView, updates_of_share}
use Rattle.mt_replay.specs.Batches.{batched}
use Rattle.mt_recover.specs.Steps.Batches.{AreFilled, records_in}
use Rattle.mt_recover.proofs.Filling.{few_batches, none_filled}
use Rattle.mt_recover.proofs.SharingLemmas.{all_yielded}
use Rattle.mt_recover.proofs.batches.batches_of.Goals as goal

pub loop-share-preserved : goal.loop-share-preserved
loop-share-preserved c = record {
  rest = append_assoc c.loop-share.yielded (c.in-Some.share ∷ []) (into_iter_items c.next.new.self) ∙ ap (λ xs. c.loop-share.yielded ++ xs) (sym c.in-Some.ensures.steps.0) ∙ c.loop-share.invariant.rest;
  few = subst (λ n. AreFilled c.size_for-size.result n c.add_share.new.batches.items) (sym (sum_by_push (λ (share : ShareView). length share.records) c.loop-share.yielded c.in-Some.share)) (c.in_ok-add_share.ensures.few (records_in c.loop-share.yielded) c.loop-share.invariant.few);
  updates = c.in_ok-add_share.ensures.updates ∙ ap (λ (us : List Update). us ++ updates_of_share c.in-Some.share) c.loop-share.invariant.updates ∙ flat_map_more updates_of_share [] c.loop-share.yielded c.in-Some.share;
}

pub loop-share-init : goal.loop-share-init
loop-share-init c = record {
  rest = refl;
  few = none_filled c.size_for-size.result c.new-batches.result.items c.new-batches.ensures.items;
  updates = ap batched c.new-batches.ensures.items;
}

pub returns : goal.returns
returns c =
    let I = c.loop-share.invariant in
    let left = c.loop-share.share-iterator in
    let all = all_yielded _ c.loop-share.yielded (into_iter_items left) (I.rest ∙ c.into_iter-share-iterator.ensures.into_iter_gives.0) (omega (arith, left.rest.ok.0, c.in-None.ensures.steps.0)) in
    record {
      updates = I.updates ∙ ap (flat_map updates_of_share) all ∙ c.in_ok-shares.ensures;
      few = few_batches c.size_for-size.result (records_in c.loop-share.yielded) c.args.workers c.loop-share.batches.items I.few (subst (λ shares. records_in shares ≤ c.size_for-size.result * c.args.workers) (c.deref.ensures.value ∙ sym all) c.size_for-size.ensures);
    }
