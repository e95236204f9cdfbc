-- Pieces that make a walk.
use Rattle.std.proofs.Common.{◌≡◌, ◌∙◌, ◌++◌, ap, append_assoc, List, [], ◌∷◌, map, refl, sym, subst}
use Rattle.std.proofs.lemmas.List.{append-nil}
use Rattle.mt_words.specs.Walks.{Pair, KeysRise, joined}
use Rattle.mt_words.specs.Words.{IsBelow}
use Rattle.mt_tree.specs.Layer.{AllKeysBelow}
use Rattle.mt_tree.proofs.Joins.{all_front, all_back}

-- if keys rise through two lists, those of the first list are below those of the second
front_below : (v w : List Pair) → KeysRise (v ++ w) → AllKeysBelow v w
front_below [] w rise = tt
front_below (p ∷ v) w rise = (all_back (λ (q : Pair). IsBelow p.0 q.0) v w rise.0, front_below v w rise.1)

below_front : (v b c : List Pair) → AllKeysBelow v (b ++ c) → AllKeysBelow v b
below_front [] b c below = tt
below_front (p ∷ v) b c below = (all_front (λ (q : Pair). IsBelow p.0 q.0) b c below.0, below_front v b c below.1)

joined_more : {X : Type 0} (of : X → List Pair) (done rest : List X) → joined (map of (done ++ rest)) ≡ joined (map of done) ++ joined (map of rest)
joined_more of [] rest = refl
joined_more of (x ∷ xs) rest = ap (λ w. of x ++ w) (joined_more of xs rest) ∙ sym (append_assoc (of x) (joined (map of xs)) (joined (map of rest)))

-- the pairs joined so far lie below those of the next draft
pub next_above : {X : Type 0} (of : X → List Pair) (done left : List X) (x : X) (rest all : List X) (whole : List Pair) → done ++ left ≡ all → left ≡ x ∷ rest → whole ≡ joined (map of done)
    → KeysRise (joined (map of all)) → AllKeysBelow whole (of x)
next_above of done left x rest all whole parts next is rise =
    let split = ap (λ xs. joined (map of xs)) (sym parts ∙ ap (λ xs. done ++ xs) next) ∙ joined_more of done (x ∷ rest) in
    let below = front_below (joined (map of done)) (of x ++ joined (map of rest)) (subst KeysRise split rise) in
    subst (λ w. AllKeysBelow w (of x)) (sym is) (below_front (joined (map of done)) (of x) (joined (map of rest)) below)

-- the pairs joined so far, with those of the next draft, are the pairs of one draft more
pub join_next : {X : Type 0} (of : X → List Pair) (done : List X) (x : X) (whole new : List Pair) → whole ≡ joined (map of done) → new ≡ whole ++ of x → new ≡ joined (map of (done ++ x ∷ []))
join_next of done x whole new is more = more ∙ (λ i. is i ++ sym (append-nil (of x)) i) ∙ sym (joined_more of done (x ∷ []))
