use Rattle.std.proofs.Common.{◌≡◌, ◌≤◌, ◌<◌, length, List, refl, ap, sym, subst, ◌∙◌, arith, rules}
use Rattle.std.proofs.lemmas.List.{length-map}
use Rattle.mt_words.specs.Slices.{slice_bytes}
use Rattle.mt_words.proofs.SliceBytes.{slice_bytes-length}
use Rattle.mt_tree.specs.Layer.{walk, pairs_at}
use Rattle.mt_tree.specs.Steps.Pairs.{weight}
use Rattle.mt_tree.specs.Steps.Seams.{Meet}
use Rattle.mt_words.specs.Walks.{Pair}
use Rattle.mt_tree.specs.Borders.{layer_walk, DraftView}
use Rattle.mt_tree.specs.Nodes.{IsBorder}
use Rattle.mt_tree.specs.Steps.DraftViews.{IsFirstOpen, IsStored}
use Rattle.mt_tree.proofs.Joins.{first_removed, last_lawful, below_at_seam, apart_layer, merged_layer, last_weight, below_lighter, below_shared, Merging, merged_lawful, merged_rank, same_slice}
use Rattle.mt_tree.proofs.Meets.{open_first, seam_of, same_first, glued_layer, ends_kept, ends_merged, sides, left_layer, right_layer, last_border, seam_walk}
use Rattle.mt_tree.proofs.Behind.{open_end}
use Rattle.mt_tree.proofs.Puts.{popped_open}
use Rattle.mt_tree.proofs.Links.{stored_are, links_parted, links_first, seam_stored, links_merged, links_kept}
use Rattle.mt_tree.specs.Steps.Places.{views, view_of}
use Rattle.mt_tree.specs.declared.place.Place.{Place}
use Rattle.mt_tree.proofs.layer.+join.Goals as goal
use Rattle.mt_tree.proofs.layer.+join.Goals.{meet-then-meets+in_ok-upper+in_ok-lower+in_ok-joined+in_ok-push, meet-else-meets+in_ok-push-2}

pub meet-meets-requires-clause-lawful : goal.meet-meets-requires-clause-lawful
meet-meets-requires-clause-lawful t c = last_lawful _ _ _ _ (seam_of _ _ _ _ _ c.requires.left_lawful c.requires.right_lawful c.requires.below c.in-Some.ensures.items c.requires.some.1 c.index.ensures)

pub meet-below-requires-clause-lawful : goal.meet-below-requires-clause-lawful
meet-below-requires-clause-lawful t c = last_lawful _ _ _ _ (seam_of _ _ _ _ _ c.requires.left_lawful c.requires.right_lawful c.requires.below c.in-Some.ensures.items c.requires.some.1 c.index.ensures)

pub meet-join-requires : goal.meet-join-requires
meet-join-requires t c =
    let s = seam_of _ _ _ _ _ c.requires.left_lawful c.requires.right_lawful c.requires.below c.in-Some.ensures.items c.requires.some.1 c.remove-first.ensures.value in
    let first : c.index.result.now ≡ c.remove-first.result = same_first _ _ _ c.requires.some.1 c.index.ensures c.remove-first.ensures.value in
    let here : Meet (view_of layer_walk c.in-Some.last) (view_of layer_walk c.index.result.now) = search rules in
    let meet : Meet (view_of layer_walk c.in-Some.last) (view_of layer_walk c.remove-first.result) = subst (λ (z : Place DraftView). Meet (view_of layer_walk c.in-Some.last) (view_of layer_walk z)) first here in
    let light : weight (layer_walk c.in_ok-upper.upper) < weight (pairs_at (view_of layer_walk c.in-Some.last)) =
    subst (λ (w : List Pair). weight (layer_walk c.in_ok-upper.upper) < weight w) c.in_ok-upper.ensures.pairs (below_lighter (slice_bytes c.in-Some.last.slice) (layer_walk c.in_ok-upper.upper) (slice_bytes-length c.in-Some.last.slice) c.in_ok-upper.ensures.some) in
    let heavy = last_weight _ _ _ _ s in
    let left = ap (λ (z : List (Place DraftView)). weight (walk (views layer_walk z))) c.in-Some.ensures.items in
    (omega (arith, left, heavy, light, c.decreases), below_shared _ _ _ _ meet c.in_ok-upper.ensures.pairs c.in_ok-lower.ensures.pairs (below_at_seam _ _ _ _ s))

pub Layer::join-into_places-requires : goal.Layer::join-into_places-requires
Layer::join-into_places-requires t c = popped_open _ _ _ c.in-Some.ensures.items c.left.invariant.last

pub Layer::join-into_places-requires-2 : goal.Layer::join-into_places-requires-2
Layer::join-into_places-requires-2 t c =
    let some : 0 < length c.right.inside.borders.items = search rules in
    subst IsFirstOpen (first_removed _ _ _ some c.remove-first.ensures.value c.remove-first.ensures.items) c.right.invariant.first

pub Layer::join-meet-requires : goal.Layer::join-meet-requires
Layer::join-meet-requires t c =
    let some : 0 < length c.right.inside.borders.items = search rules in
    let s = sides _ _ _ _ _ _ _ _ c.left.view_is c.right.view_is c.left.invariant c.right.invariant c.requires (open_end _ _ _ _ c.in-Some.ensures.items c.into_places.ensures) (open_first _ _ _ _ some c.remove-first.ensures.value c.remove-first.ensures.items c.into_places-2.ensures) in
    let l_some : 1 ≤ length (views layer_walk c.into_places.result.items) = (last_border _ _ _ _ _ s).0 in
    let f_some : 1 ≤ length (views layer_walk c.into_places-2.result.items) = s.right.0.0.0 in (
      omega (arith, s.light, c.decreases),
      (
        left_layer _ _ _ _ _ s,
        (
          right_layer _ _ _ _ _ s,
          (
            (omega (arith, length-map c.into_places.result.items (view_of layer_walk)), omega (arith, length-map c.into_places-2.result.items (view_of layer_walk))),
            (((links_parted _ _ _ c.left.invariant.links (open_end _ _ _ _ c.in-Some.ensures.items c.into_places.ensures)).1, (links_first _ _ _ c.right.invariant.links (open_first _ _ _ _ some c.remove-first.ensures.value c.remove-first.ensures.items c.into_places-2.ensures)).0), s.below),
          ),
        ),
      ),
    )

pub meet-returns-clause-lawful : goal.meet-returns-clause-lawful
meet-returns-clause-lawful t c =
    elim c.if-meets.branch [
      | meet-then-meets+in_ok-upper+in_ok-lower+in_ok-joined+in_ok-push w ↦
          let s = seam_of _ _ _ _ _ c.requires.left_lawful c.requires.right_lawful c.requires.below c.in-Some.ensures.items c.requires.some.1 w.remove-first.ensures.value in
          let first : c.index.result.now ≡ w.remove-first.result = same_first _ _ _ c.requires.some.1 c.index.ensures w.remove-first.ensures.value in
          let here : Meet (view_of layer_walk c.in-Some.last) (view_of layer_walk c.index.result.now) = search (rules, w.if-meets) in
          let meet : Meet (view_of layer_walk c.in-Some.last) (view_of layer_walk w.remove-first.result) = subst (λ (z : Place DraftView). Meet (view_of layer_walk c.in-Some.last) (view_of layer_walk z)) first here in
          let m : Merging c.in-Some.last w.remove-first.result (layer_walk w.in_ok-upper.upper) (layer_walk w.in_ok-lower.lower) (layer_walk w.in_ok-joined.joined) = record {
            meet = meet;
            upper_is = w.in_ok-upper.ensures.pairs;
            upper_some = w.in_ok-upper.ensures.some;
            lower_some = w.in_ok-lower.ensures.some;
            upper_keys = w.in_ok-upper.ensures.no_empty_key;
            lower_keys = w.in_ok-lower.ensures.no_empty_key;
            is = w.in_ok-joined.ensures.pairs;
          } in
          glued_layer _ _ _ _ _ (ap (λ v. v.items) w.places-is ∙ w.in_ok-push.ensures.items) (ap (λ v. v.items) w.rest-is ∙ w.remove-first.ensures.items)
          (merged_layer _ _ _ _ s _ meet (merged_lawful _ _ _ _ _ m (last_lawful _ _ _ _ s)) (merged_rank _ _ _ _ _ m))
      | meet-else-meets+in_ok-push-2 w ↦
          let s = seam_of _ _ _ _ _ c.requires.left_lawful c.requires.right_lawful c.requires.below c.in-Some.ensures.items c.requires.some.1 c.index.ensures in
          let apart : Meet (view_of layer_walk c.in-Some.last) (view_of layer_walk c.index.result.now) → ⊥ = search (rules, w.if-meets) in
          glued_layer _ _ _ _ _ (ap (λ v. v.items) w.places-is ∙ w.in_ok-push-2.ensures.items) (ap (λ v. v.items) w.rest-is ∙ first_removed _ _ _ c.requires.some.1 c.index.ensures refl) (apart_layer _ _ _ _ s apart)
    ]

pub meet-returns-clause-slices : goal.meet-returns-clause-slices
meet-returns-clause-slices t c =
    elim c.if-meets.branch [
      | meet-then-meets+in_ok-upper+in_ok-lower+in_ok-joined+in_ok-push w ↦
          let first : c.index.result.now ≡ w.remove-first.result = same_first _ _ _ c.requires.some.1 c.index.ensures w.remove-first.ensures.value in
          let here : Meet (view_of layer_walk c.in-Some.last) (view_of layer_walk c.index.result.now) = search (rules, w.if-meets) in
          let meet : Meet (view_of layer_walk c.in-Some.last) (view_of layer_walk w.remove-first.result) = subst (λ (z : Place DraftView). Meet (view_of layer_walk c.in-Some.last) (view_of layer_walk z)) first here in
          ends_merged _ _ _ _ _ _ _ _ _ c.in-Some.ensures.items (first_removed _ _ _ c.requires.some.1 w.remove-first.ensures.value refl) (ap (λ v. v.items) w.places-is ∙ w.in_ok-push.ensures.items) (ap (λ v. v.items) w.rest-is ∙ w.remove-first.ensures.items) refl (same_slice _ _ meet)
      | meet-else-meets+in_ok-push-2 w ↦
          ends_kept _ _ _ _ c.requires.some.0 c.requires.some.1 (ap (λ v. v.items) w.places-is ∙ w.in_ok-push-2.ensures.items ∙ sym c.in-Some.ensures.items) (ap (λ v. v.items) w.rest-is)
    ]

pub Layer::join-push_both-requires-clause-some : goal.Layer::join-push_both-requires-clause-some
Layer::join-push_both-requires-clause-some t c =
    let some : 0 < length c.right.inside.borders.items = search rules in
    let s = sides _ _ _ _ _ _ _ _ c.left.view_is c.right.view_is c.left.invariant c.right.invariant c.requires (open_end _ _ _ _ c.in-Some.ensures.items c.into_places.ensures) (open_first _ _ _ _ some c.remove-first.ensures.value c.remove-first.ensures.items c.into_places-2.ensures) in
    let b : IsBorder (views layer_walk c.into_places.result.items) = last_border _ _ _ _ _ s in
    let low : 1 ≤ length (views layer_walk c.into_places.result.items) = b.0 in
    let high : length (views layer_walk c.into_places.result.items) ≤ 15 = b.1 in
    let same = c.in_ok-last.ensures.same in
    let x = length-map c.into_places.result.items (view_of layer_walk) in
    let y = length-map c.in_ok-last.last.items (view_of layer_walk) in
    (omega (arith, x, y, same), omega (arith, x, y, same))

pub Layer::join-invariant_of-result-2 : goal.Layer::join-invariant_of-result-2
Layer::join-invariant_of-result-2 t c =
    let some : 0 < length c.right.inside.borders.items = search rules in
    let s = sides _ _ _ _ _ _ _ _ c.left.view_is c.right.view_is c.left.invariant c.right.invariant c.requires (open_end _ _ _ _ c.in-Some.ensures.items c.into_places.ensures) (open_first _ _ _ _ some c.remove-first.ensures.value c.remove-first.ensures.items c.into_places-2.ensures) in
    seam_stored _ _ _ _ _ _ _ _ _ _ _ s c.left.invariant c.right.invariant (open_end _ _ _ _ c.in-Some.ensures.items c.into_places.ensures) (open_first _ _ _ _ some c.remove-first.ensures.value c.remove-first.ensures.items c.into_places-2.ensures)
    c.in_ok-last.ensures.same c.in_ok-last.ensures.slices c.in_ok-last.ensures.links c.in_ok-push_both.ensures c.in_ok-append.ensures.items

pub Layer::join-returns-clause-lawful : goal.Layer::join-returns-clause-lawful
Layer::join-returns-clause-lawful t c =
    let some : 0 < length c.right.inside.borders.items = search rules in
    let s = sides _ _ _ _ _ _ _ _ c.left.view_is c.right.view_is c.left.invariant c.right.invariant c.requires (open_end _ _ _ _ c.in-Some.ensures.items c.into_places.ensures) (open_first _ _ _ _ some c.remove-first.ensures.value c.remove-first.ensures.items c.into_places-2.ensures) in
    stored_are _ (seam_stored _ _ _ _ _ _ _ _ _ _ _ s c.left.invariant c.right.invariant (open_end _ _ _ _ c.in-Some.ensures.items c.into_places.ensures) (open_first _ _ _ _ some c.remove-first.ensures.value c.remove-first.ensures.items c.into_places-2.ensures)
    c.in_ok-last.ensures.same c.in_ok-last.ensures.slices c.in_ok-last.ensures.links c.in_ok-push_both.ensures c.in_ok-append.ensures.items)

-- one of the two layers has no borders
pub Layer::join-returns-in_default-clause-lawful : goal.Layer::join-returns-in_default-clause-lawful
Layer::join-returns-in_default-clause-lawful t c = stored_are _ c.right.invariant

pub Layer::join-returns-then-is_empty-clause-lawful : goal.Layer::join-returns-then-is_empty-clause-lawful
Layer::join-returns-then-is_empty-clause-lawful t c = stored_are _ (subst IsStored (c.in-Some.ensures.items ∙ sym c.in_ok-push.ensures.items) c.left.invariant)

pub Layer::join-returns-clause-pairs : goal.Layer::join-returns-clause-pairs
Layer::join-returns-clause-pairs t c =
    let some : 0 < length c.right.inside.borders.items = search rules in
    let cut = open_first _ _ _ _ some c.remove-first.ensures.value c.remove-first.ensures.items c.into_places-2.ensures in
    seam_walk _ _ _ _ _ _ _ _ c.in_ok-last.last.items c.in_ok-last.first.items _ _ c.left.view_is c.right.view_is (open_end _ _ _ _ c.in-Some.ensures.items c.into_places.ensures) cut c.in_ok-push_both.ensures.put c.in_ok-append.ensures.items c.in_ok-last.ensures.pairs

-- ---- links
pub meet-returns-clause-links : goal.meet-returns-clause-links
meet-returns-clause-links t c =
    elim c.if-meets.branch [
      | meet-then-meets+in_ok-upper+in_ok-lower+in_ok-joined+in_ok-push w ↦
          links_merged _ _ _ _ _ _ _ _ _ c.requires.links.0 c.requires.links.1 c.in-Some.ensures.items (first_removed _ _ _ c.requires.some.1 w.remove-first.ensures.value refl) w.in_ok-joined.ensures.lawful
          (ap (λ v. v.items) w.places-is ∙ w.in_ok-push.ensures.items) (ap (λ v. v.items) w.rest-is ∙ w.remove-first.ensures.items)
      | meet-else-meets+in_ok-push-2 w ↦
          links_kept _ _ _ _ c.requires.links.0 c.requires.links.1 (ap (λ v. v.items) w.places-is ∙ w.in_ok-push-2.ensures.items ∙ sym c.in-Some.ensures.items) (ap (λ v. v.items) w.rest-is)
    ]
