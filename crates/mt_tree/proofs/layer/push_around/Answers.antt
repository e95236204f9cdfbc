use Rattle.std.proofs.Common.{sym, subst}
use Rattle.std.proofs.lemmas.Result.{on_ok_weaker}
use Rattle.mt_tree.specs.Steps.Ranks.{IsRanked}
use Rattle.mt_tree.specs.Steps.Falls.{layer_back}
use Rattle.mt_tree.proofs.Puts.{views_parted, around, put_thirds, few_places}
use Rattle.mt_tree.specs.Steps.Places.{views}
use Rattle.mt_tree.specs.Borders.{layer_walk}
use Rattle.mt_tree.proofs.layer.push_around.Goals as goal

pub split_before-requires-2 : goal.split_before-requires-2
split_before-requires-2 c =
    layer_back 0 (views layer_walk c.split_before.new.places.items) (views layer_walk c.in_ok-run.run'.items) (subst IsRanked (sym (views_parted _ _ _ c.in_ok-run.ensures.same)) c.requires.lawful)

pub push_border-requires : goal.push_border-requires
push_border-requires c =
    let t = around _ _ _ _ _ _ _ _ c.requires.lawful c.requires.before c.requires.from c.requires.met c.index.ensures c.saturating_add.ensures c.in_ok-run.ensures.same c.in_ok-above.ensures.same
    c.in_ok-run.ensures.below c.in_ok-run.ensures.from c.in_ok-above.ensures.below c.in_ok-above.ensures.from in
    record { lawful = t.first.0; few = few_places _ t.first.1 }

pub push_border-requires-2 : goal.push_border-requires-2
push_border-requires-2 c =
    let t = around _ _ _ _ _ _ _ _ c.requires.lawful c.requires.before c.requires.from c.requires.met c.index.ensures c.saturating_add.ensures c.in_ok-run.ensures.same c.in_ok-above.ensures.same
    c.in_ok-run.ensures.below c.in_ok-run.ensures.from c.in_ok-above.ensures.below c.in_ok-above.ensures.from in
    record { lawful = t.second.0; few = few_places _ t.second.1 }

pub push_border-requires-3 : goal.push_border-requires-3
push_border-requires-3 c =
    let t = around _ _ _ _ _ _ _ _ c.requires.lawful c.requires.before c.requires.from c.requires.met c.index.ensures c.saturating_add.ensures c.in_ok-run.ensures.same c.in_ok-above.ensures.same
    c.in_ok-run.ensures.below c.in_ok-run.ensures.from c.in_ok-above.ensures.below c.in_ok-above.ensures.from in
    record { lawful = t.third.0; few = few_places _ t.third.1 }

pub returns : goal.returns
returns c =
    let t = around _ _ _ _ _ _ _ _ c.requires.lawful c.requires.before c.requires.from c.requires.met c.index.ensures c.saturating_add.ensures c.in_ok-run.ensures.same c.in_ok-above.ensures.same
    c.in_ok-run.ensures.below c.in_ok-run.ensures.from c.in_ok-above.ensures.below c.in_ok-above.ensures.from in
    on_ok_weaker _ (λ put. put_thirds _ _ _ _ _ _ _ _ _ c.in_ok-run.ensures.same c.in_ok-above.ensures.same t c.in_ok-push_border.ensures c.in_ok-push_border-2.ensures put) c.push_border-3.ensures
