-- Lists in another order.
use Rattle.std.proofs.Common.{◌≡◌, ℕ, zero, suc, ◌<◌, List, [], ◌∷◌, length, map, get_or, slice_set, refl, ap, ◌∙◌, subst, arith}
use Rattle.std.specs.List.{AllZip, swap}
use Rattle.std.specs.List.Sorted.{apply_swaps, SwapsInRange}
use Rattle.std.proofs.lemmas.List.Edits.{length-swap}

pub length_swaps : {A : Type 0} (xs : List A) (moves : List (ℕ × ℕ)) → length (apply_swaps xs moves) ≡ length xs
length_swaps xs [] = refl
length_swaps xs (m ∷ ms) = length-swap (apply_swaps xs ms) m.0 m.1 ∙ length_swaps xs ms

-- the swaps are of as many
pub swaps_of : (m n : ℕ) (moves : List (ℕ × ℕ)) → SwapsInRange m moves → m ≡ n → SwapsInRange n moves
swaps_of m n moves within same = subst (λ (k : ℕ). SwapsInRange k moves) same within

-- ---- two lists

zip_get : {A B : Type 0} (R : A → B → Type 0) (xs : List A) (ys : List B) (i : ℕ) (d : A) (e : B) → AllZip R xs ys → i < length xs → R (get_or xs i d) (get_or ys i e)
zip_get R [] ys i d e are below = absurd (omega (arith, below))
zip_get R (x ∷ xs) [] i d e are below = absurd are
zip_get R (x ∷ xs) (y ∷ ys) zero d e are below = are.0
zip_get R (x ∷ xs) (y ∷ ys) (suc i) d e are below = zip_get R xs ys i d e are.1 (omega (arith, below))

zip_set : {A B : Type 0} (R : A → B → Type 0) (xs : List A) (ys : List B) (i : ℕ) (x : A) (y : B) → AllZip R xs ys → R x y → AllZip R (slice_set xs i x) (slice_set ys i y)
zip_set R [] [] i x y are is = tt
zip_set R [] (w ∷ ws) i x y are is = absurd are
zip_set R (z ∷ zs) [] i x y are is = absurd are
zip_set R (z ∷ zs) (w ∷ ws) zero x y are is = (is, are.1)
zip_set R (z ∷ zs) (w ∷ ws) (suc i) x y are is = (are.0, zip_set R zs ws i x y are.1 is)

zip_swap : {A B : Type 0} (R : A → B → Type 0) (xs : List A) (ys : List B) (i j : ℕ) → AllZip R xs ys → i < length xs → j < length xs → AllZip R (swap xs i j) (swap ys i j)
zip_swap R [] [] i j are first next = tt
zip_swap R [] (y ∷ ys) i j are first next = absurd are
zip_swap R (x ∷ xs) [] i j are first next = absurd are
zip_swap R (x ∷ xs) (y ∷ ys) i j are first next =
    zip_set R (slice_set (x ∷ xs) i (get_or (x ∷ xs) j x)) (slice_set (y ∷ ys) i (get_or (y ∷ ys) j y)) j (get_or (x ∷ xs) i x) (get_or (y ∷ ys) i y)
    (zip_set R (x ∷ xs) (y ∷ ys) i (get_or (x ∷ xs) j x) (get_or (y ∷ ys) j y) are (zip_get R (x ∷ xs) (y ∷ ys) j x y are next)) (zip_get R (x ∷ xs) (y ∷ ys) i x y are first)

pub zip_swaps : {A B : Type 0} (R : A → B → Type 0) (xs : List A) (ys : List B) (moves : List (ℕ × ℕ)) → AllZip R xs ys → SwapsInRange (length xs) moves
    → AllZip R (apply_swaps xs moves) (apply_swaps ys moves)
zip_swaps R xs ys [] are within = are
zip_swaps R xs ys (m ∷ ms) are within =
    zip_swap R (apply_swaps xs ms) (apply_swaps ys ms) m.0 m.1 (zip_swaps R xs ys ms are within.2)
    (omega (arith, within.0, length_swaps xs ms)) (omega (arith, within.1, length_swaps xs ms))

-- ---- a list that is made of another

map_get : {A B : Type 0} (f : A → B) (xs : List A) (i : ℕ) (d : A) → f (get_or xs i d) ≡ get_or (map f xs) i (f d)
map_get f [] i d = refl
map_get f (x ∷ xs) zero d = refl
map_get f (x ∷ xs) (suc i) d = map_get f xs i d

map_set : {A B : Type 0} (f : A → B) (xs : List A) (i : ℕ) (x : A) → map f (slice_set xs i x) ≡ slice_set (map f xs) i (f x)
map_set f [] i x = refl
map_set f (y ∷ ys) zero x = refl
map_set f (y ∷ ys) (suc i) x = ap (λ zs. f y ∷ zs) (map_set f ys i x)

map_swap : {A B : Type 0} (f : A → B) (xs : List A) (i j : ℕ) → map f (swap xs i j) ≡ swap (map f xs) i j
map_swap f [] i j = refl
map_swap {A} {B} f (x ∷ xs) i j =
    map_set f (slice_set (x ∷ xs) i (get_or (x ∷ xs) j x)) j (get_or (x ∷ xs) i x)
    ∙ ap (λ (ys : List B). slice_set ys j (f (get_or (x ∷ xs) i x))) (map_set f (x ∷ xs) i (get_or (x ∷ xs) j x))
    ∙ ap (λ (y : B). slice_set (slice_set (map f (x ∷ xs)) i y) j (f (get_or (x ∷ xs) i x))) (map_get f (x ∷ xs) j x)
    ∙ ap (λ (y : B). slice_set (slice_set (map f (x ∷ xs)) i (get_or (map f (x ∷ xs)) j (f x))) j y) (map_get f (x ∷ xs) i x)

pub map_swaps : {A B : Type 0} (f : A → B) (xs : List A) (moves : List (ℕ × ℕ)) → map f (apply_swaps xs moves) ≡ apply_swaps (map f xs) moves
map_swaps f xs [] = refl
map_swaps {A} {B} f xs (m ∷ ms) = map_swap f (apply_swaps xs ms) m.0 m.1 ∙ ap (λ (ys : List B). swap ys m.0 m.1) (map_swaps f xs ms)
