-- What a list contains, by its head and its tail.
use Rattle.std.proofs.Common.{◌≡◌, ◌⊎◌, inl, inr, List, [], ◌∷◌, Contains, arith}
use Rattle.std.proofs.lemmas.List.Elements.{Contains-push, Contains-push_cases, Contains-append_cases, Contains-append_left, Contains-append_right}

pub no_element : {A : Type 0} (x : A) → Contains [] x → ⊥
no_element x at = omega (arith, at.1)

pub head_or_tail : {A : Type 0} (x y : A) (xs : List A) → Contains (x ∷ xs) y → (x ≡ y) ⊎ Contains xs y
head_or_tail x y xs at = elim (Contains-append_cases (x ∷ []) xs y at) as (λ _. (x ≡ y) ⊎ Contains xs y) [
  | inl one ↦ elim (Contains-push_cases [] x y one) as (λ _. (x ≡ y) ⊎ Contains xs y) [ inl none ↦ absurd (no_element y none) | inr e ↦ inl e ]
  | inr later ↦ inr later
]

pub head_in : {A : Type 0} (x : A) (xs : List A) → Contains (x ∷ xs) x
head_in x xs = Contains-append_left (x ∷ []) xs x (Contains-push [] x)

pub tail_in : {A : Type 0} (x y : A) (xs : List A) → Contains xs y → Contains (x ∷ xs) y
tail_in x y xs at = Contains-append_right (x ∷ []) xs y at
