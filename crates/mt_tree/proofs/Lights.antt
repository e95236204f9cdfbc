-- What lies below weighs less.
use Rattle.std.proofs.Common.{◌≡◌, ℕ, zero, suc, ◌+◌, ◌<◌, ◌≤◌, List, [], ◌∷◌, ◌++◌, length, take, get_or, sym, ap, ◌∙◌, subst, arith, append_assoc}
use Rattle.std.specs.List.{AllByRecursion}
use Rattle.std.proofs.lemmas.List.{append-nil, take_more}
use Rattle.mt_words.specs.Walks.{joined}
use Rattle.mt_tree.specs.Layer.{PlaceView, link, pairs_at, walk, IsPlace}
use Rattle.mt_tree.specs.Steps.Pairs.{weight}
use Rattle.mt_tree.specs.Steps.Falls.{weight-append, node_some, all_weight, all_weight-cons, joined-append}
use Rattle.mt_tree.specs.Nodes.{NodeView, places, IsNode}
use Rattle.mt_tree.specs.Steps.Levels.{borders_of, node_walk}
use Rattle.mt_tree.specs.declared.place.Content.TheVariants.{Link}
use Rattle.mt_tree.proofs.Levels.{link_lighter}
use Rattle.mt_tree.specs.Steps.Places.{views, view_of, view_of_content}
use Rattle.mt_tree.specs.declared.place.Place.{Place}
use Rattle.mt_tree.specs.declared.place.Content.{Content}

-- ---- children
kid_light : (ks : List NodeView) (i : ℕ) (d : NodeView) → i < length ks → weight (node_walk (get_or ks i d)) ≤ all_weight ks
kid_light [] i d l = absurd (omega arith)
kid_light (k ∷ ks) zero d l = omega (arith, all_weight-cons k ks)
kid_light (k ∷ ks) (suc i) d l = omega (arith, all_weight-cons k ks, kid_light ks i d (omega arith))

pub kid_lighter : (ks : List NodeView) (i : ℕ) (d : NodeView) → 2 ≤ length ks → AllByRecursion IsNode ks → i < length ks → weight (node_walk (get_or ks i d)) < all_weight ks
kid_lighter [] i d h a l = absurd (omega arith)
kid_lighter (k ∷ []) i d h a l = absurd (omega arith)
kid_lighter (k ∷ m ∷ ks) zero d h a l = omega (arith, all_weight-cons k (m ∷ ks), all_weight-cons m ks, node_some m a.1.0)
kid_lighter (k ∷ m ∷ ks) (suc i) d h a l = omega (arith, all_weight-cons k (m ∷ ks), node_some k a.0, kid_light (m ∷ ks) i d (omega arith))

-- ---- places of a border
pub view_light : (xs : List (Place NodeView)) (i : ℕ) (d : Place NodeView) → i < length xs → weight (pairs_at (view_of node_walk (get_or xs i d))) ≤ weight (walk (views node_walk xs))
view_light [] i d l = absurd (omega arith)
view_light (x ∷ xs) zero d l = omega (arith, weight-append (pairs_at (view_of node_walk x)) (walk (views node_walk xs)))
view_light (x ∷ xs) (suc i) d l = omega (arith, weight-append (pairs_at (view_of node_walk x)) (walk (views node_walk xs)), view_light xs i d (omega arith))

-- ---- a place's link
pub content_lighter : (s : ℕ) (h : Content NodeView) (n : NodeView) → IsPlace (view_of_content node_walk s h) → h ≡ Link n → weight (node_walk n) < weight (pairs_at (view_of_content node_walk s h))
content_lighter s h n lawful e =
    let same : weight (pairs_at (view_of_content node_walk s h)) ≡ weight (pairs_at (link s (node_walk n))) = ap (λ (z : Content NodeView). weight (pairs_at (view_of_content node_walk s z))) e in
    let link_lawful : IsPlace (link s (node_walk n)) = subst (λ (z : Content NodeView). IsPlace (view_of_content node_walk s z)) e lawful in
    omega (arith, same, link_lighter s (node_walk n) link_lawful)

-- ---- one more
kids-push : (ks : List NodeView) (k : NodeView) → joined (borders_of (ks ++ k ∷ [])) ≡ joined (borders_of ks) ++ places k
kids-push [] k = ap joined (append-nil k.tree.borders)
kids-push (m ∷ ks) k =
    joined-append m.tree.borders (borders_of (ks ++ k ∷ []))
    ∙ ap (λ (z : List PlaceView). places m ++ z) (kids-push ks k)
    ∙ sym (append_assoc (places m) (joined (borders_of ks)) (places k))
    ∙ ap (λ (z : List PlaceView). z ++ places k) (sym (joined-append m.tree.borders (borders_of ks)))

pub kids_more : (ks : List NodeView) (i : ℕ) (k : NodeView) → i < length ks → k ≡ get_or ks i k → joined (borders_of (take (i + 1) ks)) ≡ joined (borders_of (take i ks)) ++ places k
kids_more ks i k l e =
    ap (λ (z : List NodeView). joined (borders_of z)) (take_more ks i k l ∙ ap (λ (z : NodeView). take i ks ++ z ∷ []) (sym e)) ∙ kids-push (take i ks) k
