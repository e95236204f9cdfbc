use Rattle.std.proofs.Common.{◌≡◌, ◌≤◌, ◌<◌, ◌-◌, ℕ, List, [], ◌∷◌, ◌++◌, length, get_or, set, OnOk, sym, subst, refl, ap, ◌∙◌, arith, rules}
use Rattle.std.proofs.lemmas.List.{length-map, take_rest, set-get_or}
use Rattle.std.proofs.lemmas.Result.{on_ok_weaker}
use Rattle.mt_tree.proofs.Behind.{popped_lawful, last_lawful, last_meets, last_apart, met_long, linking, linked_last, deeper, deeper_below, deeper_light, deeper_followed, last_border, last_is_open, popped_is_open, popped_front, popped_places, opened, opened_layer, opened_border, opened_below, opened_light}
use Rattle.mt_tree.proofs.Puts.{put_one}
use Rattle.mt_tree.proofs.Links.{stored_are, links_parted, appended, put_moved}
use Rattle.std.specs.declared.result.Result.{Result}
use Rattle.std.specs.declared.result.Result.TheVariants.{Ok, Err}
use Rattle.mt_words.specs.Walks.{Pair}
use Rattle.mt_tree.specs.Layer.{walk, link, AllKeysBelow}
use Rattle.mt_tree.specs.Steps.Pairs.{weight}
use Rattle.mt_tree.specs.Steps.Ranks.{IsRanked}
use Rattle.mt_tree.specs.Steps.Places.{views, view_of}
use Rattle.mt_tree.specs.Steps.DraftViews.{border_view, border_views, IsOpen, CanFollow, LastMeets, HaveFollowed, HavePushed}
use Rattle.mt_tree.specs.Borders.{borders_walk, layer_walk, DraftView}
use Rattle.mt_tree.specs.declared.place.Place.{Place}
use Rattle.mt_tree.specs.declared.layer.Border.TheVariants.{Open}
use Rattle.mt_tree.proofs.layer.+push.Goals as goal

-- ---- a layer with a border
pub Layer::push-push_last-pushed-requires : goal.Layer::push-push_last-pushed-requires
Layer::push-push_last-pushed-requires t c =
    let same : borders_walk (border_views c.self.inside.borders.items) ≡ layer_walk c.args.self.now = ap layer_walk c.self.view_is in
    let few : 1 ≤ length c.args.self.now.borders = search (rules, c.if-is_empty) in
    let some : 1 ≤ length c.self.inside.borders.items = omega (arith, few, ap (λ (d : DraftView). length d.borders) c.self.view_is, length-map c.self.inside.borders.items border_view) in
    (omega (arith, ap weight same, c.decreases), (c.self.invariant, (some, subst (λ (w : List Pair). AllKeysBelow w ((c.args.key.now, c.args.columns) ∷ [])) (sym same) c.requires)))

pub Layer::push-returns-else-is_err-clause-lawful : goal.Layer::push-returns-else-is_err-clause-lawful
Layer::push-returns-else-is_err-clause-lawful t c = on_ok_weaker {P = HavePushed (c.args.key.now, c.args.columns) c.self.inside.borders.items c.push_last-pushed.new.borders.items} _ (λ pushed. stored_are _ pushed.lawful) c.push_last-pushed.ensures

-- ---- the last border
pub push_last-unreachable-requires : goal.push_last-unreachable-requires
push_last-unreachable-requires t c =
    let whole : c.len-at.result ≡ length c.args.borders.now.items = search rules in
    subst IsOpen c.in_default.is (last_is_open _ _ _ c.requires.lawful c.requires.some whole c.index_mut.ensures.value)

pub push_last-follow-requires : goal.push_last-follow-requires
push_last-follow-requires t c =
    let whole : c.len-at.result ≡ length c.args.borders.now.items = search rules in
    let a = last_border _ _ _ _ c.requires.some whole c.index_mut.ensures.value c.in-Open.is in
    let o = opened _ _ _ _ refl c.requires.lawful a.is in
    let some : 1 ≤ length (views layer_walk c.in-Open.places.items) = (opened_border _ _ _ o).0 in
    let light : weight (walk (views layer_walk c.in-Open.places.items)) ≤ weight (borders_walk (border_views c.args.borders.now.items)) = opened_light _ _ _ o in (
      omega (arith, light, c.decreases),
      record {
        lawful = opened_layer _ _ _ o;
        some = omega (arith, some, length-map c.in-Open.places.items (view_of layer_walk));
        links = (links_parted _ _ _ c.requires.lawful.links a.is).1;
        below = opened_below _ _ _ o ((c.args.key.now, c.args.columns) ∷ []) c.requires.below;
      },
    )

pub push_last-returns-then-len-le-MOST_PLACES : goal.push_last-returns-then-len-le-MOST_PLACES
push_last-returns-then-len-le-MOST_PLACES t c =
    let whole : c.len-at.result ≡ length c.args.borders.now.items = search rules in
    let a = last_border _ _ _ _ c.requires.some whole c.index_mut.ensures.value c.in-Open.is in
    let few : length c.follow.new.places.items ≤ 15 = search (rules, c.if-len-le-MOST_PLACES) in
    let put = put_one a.front _ c.follow.new.places (a.changed (Open c.follow.new.places)) c.in_ok-follow.ensures.lawful c.in_ok-follow.ensures.some few in
    appended _ _ _ _ _ _ c.requires.lawful a.is put c.in_ok-follow.ensures

-- ---- a last border that is too long
pub push_last-into_places-requires : goal.push_last-into_places-requires
push_last-into_places-requires t c =
    let whole : c.len-at.result ≡ length c.args.borders.now.items = search rules in
    let a = last_border _ _ _ _ c.requires.some whole c.index_mut.ensures.value c.in-Open.is in
    popped_is_open _ _ _ _ _ (a.changed (Open c.follow.new.places)) c.in-Some.ensures.items

pub push_last-push_cut-requires-clause-lawful : goal.push_last-push_cut-requires-clause-lawful
push_last-push_cut-requires-clause-lawful t c =
    let whole : c.len-at.result ≡ length c.args.borders.now.items = search rules in
    let a = last_border _ _ _ _ c.requires.some whole c.index_mut.ensures.value c.in-Open.is in
    let same : c.into_places.result.items ≡ c.follow.new.places.items = popped_places _ _ _ _ _ (a.changed (Open c.follow.new.places)) c.in-Some.ensures.items _ c.into_places.ensures in
    subst (λ (z : List (Place DraftView)). IsRanked (views layer_walk z)) (sym same) c.in_ok-follow.ensures.lawful

pub push_last-push_cut-requires-clause-long : goal.push_last-push_cut-requires-clause-long
push_last-push_cut-requires-clause-long t c =
    let whole : c.len-at.result ≡ length c.args.borders.now.items = search rules in
    let a = last_border _ _ _ _ c.requires.some whole c.index_mut.ensures.value c.in-Open.is in
    let same : c.into_places.result.items ≡ c.follow.new.places.items = popped_places _ _ _ _ _ (a.changed (Open c.follow.new.places)) c.in-Some.ensures.items _ c.into_places.ensures in
    let o = opened _ _ _ _ refl c.requires.lawful a.is in
    let most : length (views layer_walk c.in-Open.places.items) ≤ 15 = (opened_border _ _ _ o).1 in
    let long : 15 < length c.follow.new.places.items = search (rules, c.if-len-le-MOST_PLACES) in
    omega (arith, ap (λ (z : List (Place DraftView)). length z) same, most, long, length-map c.in-Open.places.items (view_of layer_walk), c.in_ok-follow.ensures.more)

pub push_last-returns : goal.push_last-returns
push_last-returns t c =
    let whole : c.len-at.result ≡ length c.args.borders.now.items = search rules in
    let a = last_border _ _ _ _ c.requires.some whole c.index_mut.ensures.value c.in-Open.is in
    let same : c.into_places.result.items ≡ c.follow.new.places.items = popped_places _ _ _ _ _ (a.changed (Open c.follow.new.places)) c.in-Some.ensures.items _ c.into_places.ensures in
    let front = popped_front _ _ _ _ _ (a.changed (Open c.follow.new.places)) c.in-Some.ensures.items in
    on_ok_weaker _ (λ put. appended _ _ _ _ _ _ c.requires.lawful a.is (put_moved _ _ _ _ _ same front put) c.in_ok-follow.ensures) c.push_cut.ensures

-- ---- places
pub follow-meets_key-requires : goal.follow-meets_key-requires
follow-meets_key-requires t c =
    let whole : c.len-at.result ≡ length c.args.places.now.items = search rules in
    last_lawful _ _ c.requires.lawful c.requires.some (c.index.ensures ∙ ap (λ (k : ℕ). get_or c.args.places.now.items (k - 1) c.index.result.now) whole)

pub follow-push_own-requires-clause-apart : goal.follow-push_own-requires-clause-apart
follow-push_own-requires-clause-apart t c =
    let whole : c.len-at.result ≡ length c.args.places.now.items = search rules in
    last_apart c.args.places.now.items c.len-at.result c.index.result.now c.args.key.now c.slice_of-slice.result c.requires.some whole c.index.ensures c.slice_of-slice.ensures.value (search (rules, c.if-not-meets_key))

-- ---- in the layer that the last place links to
pub follow-push-requires : goal.follow-push-requires
follow-push-requires t c =
    let whole : c.len-at.result ≡ length c.args.places.now.items = search rules in
    let met = last_meets c.args.places.now.items c.len-at.result c.index.result.now c.args.key.now c.slice_of-slice.result c.requires.some whole c.index.ensures c.slice_of-slice.ensures.value (search (rules, c.if-not-meets_key)) in
    let l = linked_last c.args.places.now.items c.len-at.result c.slice_of-slice.result c.index_mut.result.now c.in-Link.lower c.args.key.now c.args.columns c.requires met whole c.index_mut.ensures.value c.in-Link.is c.slice_of-slice.ensures.value c.slice_of-slice.ensures.bytes in
    let light = deeper_light _ _ _ _ _ l.below _ _ l.last.is in
    (omega (arith, light, c.decreases), deeper_below _ _ _ _ _ l.below _ _ _ l.last.is (take_rest c.args.key.now 8) c.requires.below)

on_ok_both : {T E P Q R : Type 0} (r : Result T E) → (P → Q → R) → OnOk r P → OnOk r Q → OnOk r R
on_ok_both (Ok x) f p q = f p q
on_ok_both (Err e) f p q = tt

pub follow-returns-in-Link : goal.follow-returns-in-Link
follow-returns-in-Link t c =
    let whole : c.len-at.result ≡ length c.args.places.now.items = search rules in
    let met = last_meets c.args.places.now.items c.len-at.result c.index.result.now c.args.key.now c.slice_of-slice.result c.requires.some whole c.index.ensures c.slice_of-slice.ensures.value (search (rules, c.if-not-meets_key)) in
    let l = linked_last c.args.places.now.items c.len-at.result c.slice_of-slice.result c.index_mut.result.now c.in-Link.lower c.args.key.now c.args.columns c.requires met whole c.index_mut.ensures.value c.in-Link.is c.slice_of-slice.ensures.value c.slice_of-slice.ensures.bytes in
    on_ok_both c.push.result (λ pairs borders. deeper_followed _ _ _ _ _ _ _ _ _ _ c.push.new.self c.requires l.below l.last.is (take_rest c.args.key.now 8) pairs borders (ap (λ (s : ℕ). linking s c.push.new.self) l.below.same) (l.last.changed _)) c.push.ensures.pairs c.push.ensures.lawful

-- ---- in a layer of their own, below the last place
-- the last place is as it was
same_items : (places : List (Place DraftView)) (x : Place DraftView) (n : ℕ) → x ≡ get_or places n x → set places n x ≡ places
same_items places x n e = ap (set places n) e ∙ set-get_or places n x

pub follow-push_below-requires : goal.follow-push_below-requires
follow-push_below-requires t c =
    let whole : c.len-at.result ≡ length c.args.places.now.items = search rules in
    let met = last_meets c.args.places.now.items c.len-at.result c.index.result.now c.args.key.now c.slice_of-slice.result c.requires.some whole c.index.ensures c.slice_of-slice.ensures.value (search (rules, c.if-not-meets_key)) in
    let same = same_items c.args.places.now.items c.index_mut.result.now _ c.index_mut.ensures.value in
    let light = ap (λ (z : List (Place DraftView)). weight (walk (views layer_walk z))) same in
    (omega (arith, light, c.decreases), (subst (CanFollow (c.args.key.now, c.args.columns)) (sym same) c.requires, subst (LastMeets c.args.key.now) (sym same) met))

pub follow-returns : goal.follow-returns
follow-returns t c =
    let same = same_items c.args.places.now.items c.index_mut.result.now _ c.index_mut.ensures.value in
    on_ok_weaker _ (λ followed. subst (λ (z : List (Place DraftView)). HaveFollowed (c.args.key.now, c.args.columns) z c.push_below.new.places.items) same followed) c.push_below.ensures

pub push_below-below-requires : goal.push_below-below-requires
push_below-below-requires t c = record { lawful = popped_lawful _ _ _ c.requires.can.lawful c.in-Some.ensures.items; long = met_long _ _ _ _ c.requires.met c.in-Some.ensures.items }

pub push_below-push-requires : goal.push_below-push-requires
push_below-push-requires t c =
    let d = deeper _ _ _ _ _ c.args.columns _ c.requires.can.lawful c.requires.met c.in-Some.ensures.items c.slice_of-slice.ensures.value c.slice_of-slice.ensures.bytes c.in_ok-lower.ensures.pairs c.in_ok-lower.ensures.some c.in_ok-lower.ensures.no_empty_key in
    let light = deeper_light _ _ _ _ _ d _ _ c.in-Some.ensures.items in
    (omega (arith, light, c.decreases), deeper_below _ _ _ _ _ d _ _ _ c.in-Some.ensures.items (take_rest c.args.key.now 8) c.requires.can.below)

pub push_below-returns : goal.push_below-returns
push_below-returns t c =
    let d = deeper _ _ _ _ _ c.args.columns _ c.requires.can.lawful c.requires.met c.in-Some.ensures.items c.slice_of-slice.ensures.value c.slice_of-slice.ensures.bytes c.in_ok-lower.ensures.pairs c.in_ok-lower.ensures.some c.in_ok-lower.ensures.no_empty_key in
    deeper_followed _ _ _ _ _ _ _ _ _ _ _ c.requires.can d c.in-Some.ensures.items (take_rest c.args.key.now 8) c.in_ok-push.ensures.pairs c.in_ok-push.ensures.lawful refl c.in_ok-push-2.ensures.items
