-- The ends of a layer that is a list of borders.
use Rattle.std.proofs.Common.{◌≡◌, ℕ, suc, ◌-◌, ◌≤◌, List, [], ◌∷◌, ◌++◌, length, sym, ap, ◌∙◌, subst, arith, append_assoc}
use Rattle.std.specs.Prelude.{slice_get, Some, None}
use Rattle.std.specs.List.{AllByRecursion}
use Rattle.std.proofs.lemmas.List.{append-nil, map-append, length-map}
use Rattle.mt_tree.specs.Layer.{PlaceView, walk, IsPlace}
use Rattle.mt_tree.specs.Steps.Ranks.{IsRanked}
use Rattle.mt_words.specs.Walks.{Pair, joined}
use Rattle.mt_tree.specs.Nodes.{IsBorder}
use Rattle.mt_tree.specs.Borders.{DraftView, layer_walk}
use Rattle.mt_tree.specs.Steps.Edges.{PlaceEdge, LastEdge, FirstEdge}
use Rattle.mt_tree.specs.Steps.DraftViews.{border_view, border_views, draft_of, IsOpen, IsOpened, IsFirstOpen, IsLastOpen, IsStored}
use Rattle.mt_tree.specs.declared.layer.Border.{Border}
use Rattle.mt_tree.specs.declared.layer.Border.TheVariants.{Open, Closed}
use Rattle.mt_tree.proofs.Orders.{last_of, first_of, last_edge, first_edge}
use Rattle.mt_tree.proofs.Puts.{borders-append, last_open}
use Rattle.mt_tree.specs.Steps.Falls.{layer_back, joined-append}
use Rattle.mt_tree.proofs.Joins.{all_back}
use Rattle.mt_tree.specs.Steps.Places.{views, view_of}
use Rattle.mt_tree.specs.declared.place.Place.{Place}

opened_view : (b : Border) (rs : List (Place DraftView)) → IsOpened b rs → border_view b ≡ views layer_walk rs
opened_view (Open ps) rs e = ap (views layer_walk) (sym e)
opened_view (Closed f) rs h = absurd h

pub last_is_open : (ps qs : List Border) (b : Border) → IsStored ps → qs ≡ ps → Some b ≡ slice_get qs (length qs - 1) → IsOpen b
last_is_open ps qs b h e f = let l = last_of qs b f in last_open l.0 b (subst IsLastOpen (sym e ∙ l.1) h.last)

pub first_is_open : (ps qs : List Border) (b : Border) → IsStored ps → qs ≡ ps → Some b ≡ slice_get qs 0 → IsOpen b
first_is_open ps qs b h e f = let l = first_of qs b f in subst IsFirstOpen (sym e ∙ l.1) h.first

-- the places up to the last one
last_places : (ps qs : List Border) (b : Border) (rs : List (Place DraftView)) (x : Place DraftView) → qs ≡ ps → Some b ≡ slice_get qs (length qs - 1) → IsOpened b rs → Some x ≡ slice_get rs (length rs - 1) → (front : List PlaceView) × (joined (border_views ps) ≡ front ++ view_of layer_walk x ∷ [])
last_places ps qs b rs x e f g k =
    let l = last_of qs b f in
    let m = last_of rs x k in
    let places : border_view b ≡ views layer_walk m.0 ++ view_of layer_walk x ∷ [] = opened_view b rs g ∙ ap (views layer_walk) m.1 ∙ map-append (view_of layer_walk) m.0 (x ∷ []) in (
      joined (border_views l.0) ++ views layer_walk m.0,
      ap (λ (z : List Border). joined (border_views z)) (sym e ∙ l.1) ∙ ap joined (borders-append l.0 (b ∷ [])) ∙ joined-append (border_views l.0) (border_view b ∷ [])
          ∙ ap (λ (z : List PlaceView). joined (border_views l.0) ++ z) (append-nil (border_view b) ∙ places) ∙ sym (append_assoc (joined (border_views l.0)) (views layer_walk m.0) (view_of layer_walk x ∷ [])),
    )

pub last_border_lawful : (ps qs : List Border) (b : Border) (rs : List (Place DraftView)) (x : Place DraftView) → IsStored ps → qs ≡ ps → Some b ≡ slice_get qs (length qs - 1) → IsOpened b rs → Some x ≡ slice_get rs (length rs - 1) → IsPlace (view_of layer_walk x)
last_border_lawful ps qs b rs x h e f g k = let l = last_places ps qs b rs x e f g k in (layer_back 0 l.0 (view_of layer_walk x ∷ []) (subst IsRanked l.1 h.own.2)).0

pub last_of_borders : (w : List Pair) (d : DraftView) (ps qs : List Border) (b : Border) (rs : List (Place DraftView)) (x : Place DraftView) (s m : ℕ) (below : List Pair) → w ≡ layer_walk d → draft_of ps ≡ d → IsStored ps → qs ≡ ps → Some b ≡ slice_get qs (length qs - 1) → IsOpened b rs → Some x ≡ slice_get rs (length rs - 1)
    → PlaceEdge (view_of layer_walk x) s m below → LastEdge w s m below
last_of_borders w d ps qs b rs x s m below is view h e f g k edge =
    let l = last_places ps qs b rs x e f g k in
    subst (λ (z : List Pair). LastEdge z s m below) (ap walk (sym l.1) ∙ ap layer_walk view ∙ sym is) (last_edge l.0 (view_of layer_walk x) s m below (subst IsRanked l.1 h.own.2) edge)

pub first_of_borders : (w : List Pair) (d : DraftView) (ps qs : List Border) (b : Border) (rs : List (Place DraftView)) (x : Place DraftView) (s m : ℕ) (below : List Pair) → w ≡ layer_walk d → draft_of ps ≡ d → IsStored ps → qs ≡ ps → Some b ≡ slice_get qs 0 → IsOpened b rs → Some x ≡ slice_get rs 0
    → PlaceEdge (view_of layer_walk x) s m below → FirstEdge w s m below
first_of_borders w d ps qs b rs x s m below is view h e f g k edge =
    let l = first_of qs b f in
    let n = first_of rs x k in
    let places : joined (border_views ps) ≡ view_of layer_walk x ∷ (views layer_walk n.0 ++ joined (border_views l.0)) =
    ap (λ (z : List Border). joined (border_views z)) (sym e ∙ l.1) ∙ ap (λ (z : List PlaceView). z ++ joined (border_views l.0)) (opened_view b rs g ∙ ap (views layer_walk) n.1) in
    subst (λ (z : List Pair). FirstEdge z s m below) (ap walk (sym places) ∙ ap layer_walk view ∙ sym is) (first_edge (view_of layer_walk x) (views layer_walk n.0 ++ joined (border_views l.0)) s m below (subst IsRanked places h.own.2) edge)

-- a border is not empty
pub last_border_some : (ps qs : List Border) (b : Border) (rs : List (Place DraftView)) → IsStored ps → qs ≡ ps → Some b ≡ slice_get qs (length qs - 1) → IsOpened b rs → 1 ≤ length rs
last_border_some ps qs b rs h e f g =
    let l = last_of qs b f in
    let each : AllByRecursion IsBorder (border_views l.0 ++ border_view b ∷ []) = subst (AllByRecursion IsBorder) (ap border_views (sym e ∙ l.1) ∙ borders-append l.0 (b ∷ [])) h.own.0 in
    let some : 1 ≤ length (border_view b) = (all_back IsBorder (border_views l.0) (border_view b ∷ []) each).0.0 in
    omega (arith, ap (λ (z : List PlaceView). length z) (opened_view b rs g), length-map rs (view_of layer_walk))

pub never_none : (rs : List (Place DraftView)) → 1 ≤ length rs → slice_get rs (length rs - 1) ≡ None → ⊥
never_none [] h e = omega arith
never_none (x ∷ []) h e = let at : length (x ∷ []) - 1 ≡ 0 = omega arith in let f : Some x ≡ None = sym (ap (slice_get (x ∷ [])) at) ∙ e in cc
never_none (x ∷ y ∷ rs) h e = let at : length (x ∷ y ∷ rs) - 1 ≡ suc (length (y ∷ rs) - 1) = omega arith in never_none (y ∷ rs) (omega arith) (sym (ap (slice_get (x ∷ y ∷ rs)) at) ∙ e)
