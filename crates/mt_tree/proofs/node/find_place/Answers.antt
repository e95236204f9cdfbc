use Rattle.std.proofs.Common.{◌≡◌, ℕ, ◌+◌, ◌<◌, ◌≤◌, length, get_or, List, sym, ap, ◌∙◌, subst, inl, inr, ◌⊎◌, arith, rules}
use Rattle.std.proofs.lemmas.Bool.{cases_lt}
use Rattle.mt_tree.specs.Layer.{PlaceView, IsPlace}
use Rattle.mt_tree.specs.Steps.Ranks.{rank_at}
use Rattle.mt_tree.proofs.Finds.{view_lawful, view_at}
use Rattle.mt_tree.specs.Steps.Places.{views, view_of}
use Rattle.mt_tree.specs.Steps.Levels.{node_walk}
use Rattle.mt_tree.specs.Nodes.{NodeView}
use Rattle.mt_tree.specs.declared.place.Place.{Place}
use Rattle.mt_tree.proofs.node.find_place.Goals as goal

pub is_place_of-requires : goal.is_place_of-requires
is_place_of-requires c =
    subst (λ (x : Place NodeView). IsPlace (view_of node_walk x)) (sym c.index-places-at.is) (view_lawful c.args.places.now c.loop-at.at c.index-places-at.result c.requires c.loop-at-test.true)

one_more : (xs : List (Place NodeView)) (i r : ℕ) (x : Place NodeView) → i < length xs → x ≡ get_or xs i x → (rank_at (view_of node_walk x) ≡ r → ⊥)
    → ((k : ℕ) (d : PlaceView) → k < i → rank_at (get_or (views node_walk xs) k d) ≡ r → ⊥) → (k : ℕ) (d : PlaceView) → k < i + 1 → (k < i) ⊎ (i ≤ k) → rank_at (get_or (views node_walk xs) k d) ≡ r → ⊥
one_more xs i r x l e n before k d m (inl lt) f = before k d lt f
one_more xs i r x l e n before k d m (inr ge) f =
    let at : k ≡ i = omega arith in
    n (sym (ap rank_at (view_at xs i x d l e)) ∙ ap (λ j. rank_at (get_or (views node_walk xs) j d)) (sym at) ∙ f)

pub loop-at-preserved : goal.loop-at-preserved
loop-at-preserved c k d l =
    one_more c.args.places.now c.loop-at.at _ c.index-places-at.result c.loop-at-test.true c.index-places-at.is (search (rules, c.if-is_place_of)) c.loop-at.invariant k d l (cases_lt k c.loop-at.at)
