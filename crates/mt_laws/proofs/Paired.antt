-- Lists whose elements are paired, one by one.
use Rattle.std.proofs.Common.{ℕ, zero, suc, IsSomeAnd, List, [], ◌∷◌, take, map, Contains, inl, inr, subst}
use Rattle.std.specs.Prelude.{slice_get}
use Rattle.std.specs.List.{AllZip}
use Rattle.mt_words.proofs.Elements.{no_element, head_or_tail, head_in, tail_in}

-- an element of the first list has a partner in the second
pub partner : {A B : Type 0} (R : A → B → Type 0) (xs : List A) (ys : List B) (x : A) → AllZip R xs ys → Contains xs x → (y : B) × Contains ys y × R x y
partner R [] ys x are at = absurd (no_element x at)
partner R (z ∷ zs) [] x are at = absurd are
partner {A} {B} R (z ∷ zs) (y ∷ ys) x are at = elim (head_or_tail z x zs at) as (λ _. (w : B) × Contains (y ∷ ys) w × R x w) [
  | inl e ↦ (y, head_in y ys, subst (λ (a : A). R a y) e are.0)
  | inr later ↦ let rest = partner R zs ys x are.1 later in (rest.0, tail_in y rest.0 ys rest.1, rest.2)
]

-- an element of the second list is a partner of one in the first
pub partner_of : {A B : Type 0} (R : A → B → Type 0) (xs : List A) (ys : List B) (y : B) → AllZip R xs ys → Contains ys y → (x : A) × Contains xs x × R x y
partner_of R [] [] y are at = absurd (no_element y at)
partner_of R [] (z ∷ zs) y are at = absurd are
partner_of R (x ∷ xs) [] y are at = absurd (no_element y at)
partner_of {A} {B} R (x ∷ xs) (z ∷ zs) y are at = elim (head_or_tail z y zs at) as (λ _. (w : A) × Contains (x ∷ xs) w × R w y) [
  | inl e ↦ (x, head_in x xs, subst (λ (b : B). R x b) e are.0)
  | inr later ↦ let rest = partner_of R xs zs y are.1 later in (rest.0, tail_in x rest.0 xs rest.1, rest.2)
]

-- what holds of an element of the second list at a place holds of that of the first
pub at_place : {A : Type 0} (R : A → A → Type 0) (P Q : A → Type 0) (xs ys : List A) (i : ℕ) → AllZip R xs ys → ((x y : A) → R x y → P y → Q x)
    → IsSomeAnd (slice_get ys i) P → IsSomeAnd (slice_get xs i) Q
at_place R P Q [] [] i are follows is = absurd is
at_place R P Q [] (y ∷ ys) i are follows is = absurd are
at_place R P Q (x ∷ xs) [] i are follows is = absurd are
at_place R P Q (x ∷ xs) (y ∷ ys) zero are follows is = follows x y are.0 is
at_place R P Q (x ∷ xs) (y ∷ ys) (suc i) are follows is = at_place R P Q xs ys i are.1 follows is

-- ---- from pairs to pairs

-- what holds of each pair, if more does
pub zip_weaker : {A B : Type 0} (R S : A → B → Type 0) (xs : List A) (ys : List B) → ((x : A) (y : B) → R x y → S x y) → AllZip R xs ys → AllZip S xs ys
zip_weaker R S [] [] follows are = tt
zip_weaker R S [] (y ∷ ys) follows are = absurd are
zip_weaker R S (x ∷ xs) [] follows are = absurd are
zip_weaker R S (x ∷ xs) (y ∷ ys) follows are = (follows x y are.0, zip_weaker R S xs ys follows are.1)

pub zip_map : {A B C D : Type 0} (R : C → D → Type 0) (f : A → C) (g : B → D) (xs : List A) (ys : List B) → AllZip (λ x y. R (f x) (g y)) xs ys
    → AllZip R (map f xs) (map g ys)
zip_map R f g [] [] are = tt
zip_map R f g [] (y ∷ ys) are = absurd are
zip_map R f g (x ∷ xs) [] are = absurd are
zip_map R f g (x ∷ xs) (y ∷ ys) are = (are.0, zip_map R f g xs ys are.1)

-- the pairs the other way round
pub zip_turned : {A B C D : Type 0} (R : D → C → Type 0) (f : A → C) (g : B → D) (xs : List A) (ys : List B) → AllZip (λ x y. R (g y) (f x)) xs ys
    → AllZip R (map g ys) (map f xs)
zip_turned R f g [] [] are = tt
zip_turned R f g [] (y ∷ ys) are = absurd are
zip_turned R f g (x ∷ xs) [] are = absurd are
zip_turned R f g (x ∷ xs) (y ∷ ys) are = (are.0, zip_turned R f g xs ys are.1)

pub zip_take : {A B : Type 0} (R : A → B → Type 0) (n : ℕ) (xs : List A) (ys : List B) → AllZip R xs ys → AllZip R (take n xs) (take n ys)
zip_take R zero xs ys are = tt
zip_take R (suc n) [] [] are = tt
zip_take R (suc n) [] (y ∷ ys) are = absurd are
zip_take R (suc n) (x ∷ xs) [] are = absurd are
zip_take R (suc n) (x ∷ xs) (y ∷ ys) are = (are.0, zip_take R n xs ys are.1)

-- both of each pair are in their lists
pub zip_members : {A B : Type 0} (R : A → B → Type 0) (xs : List A) (ys : List B) → AllZip R xs ys → AllZip (λ x y. Contains xs x × Contains ys y × R x y) xs ys
zip_members R [] [] are = tt
zip_members R [] (y ∷ ys) are = absurd are
zip_members R (x ∷ xs) [] are = absurd are
zip_members {A} {B} R (x ∷ xs) (y ∷ ys) are = (
  (head_in x xs, head_in y ys, are.0),
  zip_weaker (λ a b. Contains xs a × Contains ys b × R a b) (λ a b. Contains (x ∷ xs) a × Contains (y ∷ ys) b × R a b) xs ys (λ a b both. (tail_in x a xs both.0, tail_in y b ys both.1, both.2)) (zip_members R xs ys are.1),
)

-- elements that have a partner in common
pub zip_through : {A B C : Type 0} (R : A → B → Type 0) (S : B → C → Type 0) (xs : List A) (ys : List B) (zs : List C) → AllZip R xs ys → AllZip S ys zs
    → AllZip (λ x z. (y : B) × R x y × S y z) xs zs
zip_through R S [] [] [] are too = tt
zip_through R S [] [] (z ∷ zs) are too = absurd too
zip_through R S [] (y ∷ ys) zs are too = absurd are
zip_through R S (x ∷ xs) [] zs are too = absurd are
zip_through R S (x ∷ xs) (y ∷ ys) [] are too = absurd too
zip_through R S (x ∷ xs) (y ∷ ys) (z ∷ zs) are too = ((y, are.0, too.0), zip_through R S xs ys zs are.1 too.1)

pub zip_back : {A B C : Type 0} (R : A → B → Type 0) (S : A → C → Type 0) (xs : List A) (ys : List B) (zs : List C) → AllZip R xs ys → AllZip S xs zs
    → AllZip (λ y z. (x : A) × R x y × S x z) ys zs
zip_back R S [] [] [] are too = tt
zip_back R S [] [] (z ∷ zs) are too = absurd too
zip_back R S [] (y ∷ ys) zs are too = absurd are
zip_back R S (x ∷ xs) [] zs are too = absurd are
zip_back R S (x ∷ xs) (y ∷ ys) [] are too = absurd too
zip_back R S (x ∷ xs) (y ∷ ys) (z ∷ zs) are too = ((x, are.0, too.0), zip_back R S xs ys zs are.1 too.1)
