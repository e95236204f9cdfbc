use Rattle.std.proofs.Common.{◌≡◌, ◌≤◌, List, length, sym, subst, arith, rules}
use Rattle.mt_tree.specs.Steps.Ranks.{IsRanked}
use Rattle.std.proofs.lemmas.Result.{on_ok_weaker}
use Rattle.mt_tree.proofs.Puts.{halves, first_border, put_halves, few_places}
use Rattle.mt_tree.specs.Steps.Places.{views}
use Rattle.mt_tree.specs.Borders.{layer_walk, DraftView}
use Rattle.mt_tree.specs.declared.place.Place.{Place}
use Rattle.mt_tree.proofs.layer.push_cut.Goals as goal

pub push_closed-requires : goal.push_closed-requires
push_closed-requires c =
    let h = halves _ _ _ _ c.len.result c.requires.lawful c.requires.long c.index.ensures (search rules) c.in_ok-last.ensures.same c.in_ok-last.ensures.below c.in_ok-last.ensures.from in
    record { lawful = h.first.0; some = first_border _ _ _ c.in_ok-last.ensures.same c.requires.long h }

pub push_border-requires : goal.push_border-requires
push_border-requires c =
    let h = halves _ _ _ _ c.len.result c.requires.lawful c.requires.long c.index.ensures (search rules) c.in_ok-last.ensures.same c.in_ok-last.ensures.below c.in_ok-last.ensures.from in
    let kept : c.reserve.new.self.items ≡ c.in_ok-last.last.items = search rules in
    let whole : IsRanked (views layer_walk c.in_ok-last.last.items) × (length c.in_ok-last.last.items ≤ 15) = (h.second.0, few_places _ h.second.1) in
    let held : IsRanked (views layer_walk c.reserve.new.self.items) × (length c.reserve.new.self.items ≤ 15) = subst (λ (z : List (Place DraftView)). IsRanked (views layer_walk z) × (length z ≤ 15)) (sym kept) whole in
    record { lawful = held.0; few = held.1 }

pub returns : goal.returns
returns c =
    let h = halves _ _ _ _ c.len.result c.requires.lawful c.requires.long c.index.ensures (search rules) c.in_ok-last.ensures.same c.in_ok-last.ensures.below c.in_ok-last.ensures.from in
    let kept : c.reserve.new.self.items ≡ c.in_ok-last.last.items = search rules in
    on_ok_weaker _ (λ put. put_halves _ _ _ _ _ _ _ c.in_ok-last.ensures.same c.requires.long h kept c.in_ok-push_closed.ensures put) c.push_border.ensures
