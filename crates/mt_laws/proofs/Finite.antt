-- What can be found among finitely many things by a statement that is decided of each.
use Rattle.std.proofs.Common.{◌≡◌, ◌⊎◌, inl, inr, ◌↔◌, ℕ, zero, suc, ◌<◌, Bool, IsTrue, IsSomeAnd, List, [], ◌∷◌, length, Contains, subst, sym, arith}
use Rattle.std.specs.Prelude.{slice_get}
use Rattle.std.proofs.lemmas.Bool.{cases_Bool, cases_lt, cases_eq, both_ways}
use Rattle.mt_words.proofs.Elements.{no_element, head_or_tail, head_in, tail_in}
use Rattle.mt_scan.specs.Segments.{IsFirst}
use Rattle.mt_laws.proofs.Decided.{Decided, both, alike}

-- ---- single statements

pub implied : {P Q : Type 0} → Decided P → Decided Q → Decided (P → Q)
implied p (inl q) = inl (λ _. q)
implied (inl p) (inr fails) = inr (λ holds. fails (holds p))
implied (inr none) (inr fails) = inl (λ p. absurd (none p))

pub same_number : (m n : ℕ) → Decided (m ≡ n)
same_number m n = cases_eq m n

pub passes : (test : Bool) → Decided (IsTrue test)
passes test = elim (cases_Bool test) as (λ _. Decided (IsTrue test)) [ inl is ↦ inl is | inr not ↦ inr (both_ways test not) ]

-- ---- lists

-- whether P holds for each element
pub each_of : {A : Type 0} (P : A → Type 0) → ((x : A) → Decided (P x)) → (xs : List A) → Decided ((x : A) → Contains xs x → P x)
each_of P decides [] = inl (λ x at. absurd (no_element x at))
each_of P decides (x ∷ xs) = alike
    (λ all y at. elim (head_or_tail x y xs at) as (λ _. P y) [ inl e ↦ subst P e all.0 | inr later ↦ all.1 y later ])
    (λ all. (all x (head_in x xs), λ y at. all y (tail_in x y xs at)))
    (both (decides x) (each_of P decides xs))

-- the list has exactly those elements of xs for which P holds
abbrev pub IsFiltered : {A : Type 0} → (A → Type 0) → List A → List A → Type 0
IsFiltered {A} P xs ys = (x : A) → Contains ys x ↔ Contains xs x × P x

with_head : {A : Type 0} (P : A → Type 0) (x : A) (xs ys : List A) → P x → IsFiltered P xs ys → IsFiltered P (x ∷ xs) (x ∷ ys)
with_head P x xs ys holds are y = (
  λ at. elim (head_or_tail x y ys at) as (λ _. Contains (x ∷ xs) y × P y) [
    | inl e ↦ (subst (Contains (x ∷ xs)) e (head_in x xs), subst P e holds)
    | inr later ↦ let found = (are y).0 later in (tail_in x y xs found.0, found.1)
  ],
  λ found. elim (head_or_tail x y xs found.0) as (λ _. Contains (x ∷ ys) y) [
    | inl e ↦ subst (Contains (x ∷ ys)) e (head_in x ys)
    | inr later ↦ tail_in x y ys ((are y).1 (later, found.1))
  ],
)

without_head : {A : Type 0} (P : A → Type 0) (x : A) (xs ys : List A) → (P x → ⊥) → IsFiltered P xs ys → IsFiltered P (x ∷ xs) ys
without_head P x xs ys fails are y = (
  λ at. let found = (are y).0 at in (tail_in x y xs found.0, found.1),
  λ found. elim (head_or_tail x y xs found.0) as (λ _. Contains ys y) [
    | inl e ↦ absurd (fails (subst P (sym e) found.1))
    | inr later ↦ (are y).1 (later, found.1)
  ],
)

-- there is such a list
pub filtered : {A : Type 0} (P : A → Type 0) → ((x : A) → Decided (P x)) → (xs : List A) → (ys : List A) × IsFiltered P xs ys
filtered P decides [] = ([], λ x. (λ at. absurd (no_element x at), λ found. found.0))
filtered P decides (x ∷ xs) =
    let rest = filtered P decides xs in
    elim (decides x) as (λ _. (ys : List _) × IsFiltered P (x ∷ xs) ys) [
      | inl holds ↦ (x ∷ rest.0, with_head P x xs rest.0 holds rest.1)
      | inr fails ↦ (rest.0, without_head P x xs rest.0 fails rest.1)
    ]

-- ---- numbers

-- there is a first number for which P holds, or there is none
abbrev pub HasFirst : (ℕ → Type 0) → Type 0
HasFirst P = ((i : ℕ) × IsFirst P i) ⊎ ((i : ℕ) → P i → ⊥)

first_below : (P : ℕ → Type 0) → ((i : ℕ) → Decided (P i)) → (n : ℕ) → ((i : ℕ) × IsFirst P i) ⊎ ((i : ℕ) → i < n → P i → ⊥)
first_below P decides zero = inr (λ i lt. absurd (omega arith))
first_below P decides (suc n) = elim (first_below P decides n) as (λ _. ((i : ℕ) × IsFirst P i) ⊎ ((i : ℕ) → i < suc n → P i → ⊥)) [
  | inl found ↦ inl found
  | inr none ↦ elim (decides n) as (λ _. ((i : ℕ) × IsFirst P i) ⊎ ((i : ℕ) → i < suc n → P i → ⊥)) [
    | inl holds ↦ inl (n, (holds, none))
    | inr fails ↦ inr (λ i lt. elim (cases_lt i n) as (λ _. P i → ⊥) [
      | inl before ↦ none i before
      | inr past ↦ let same : n ≡ i = omega arith in subst (λ (k : ℕ). P k → ⊥) same fails
    ])
  ]
]

-- so it is if P can be decided, and holds for no number from n on
pub has_first : (P : ℕ → Type 0) → ((i : ℕ) → Decided (P i)) → (n : ℕ) → ((i : ℕ) → P i → i < n) → HasFirst P
has_first P decides n within = elim (first_below P decides n) as (λ _. HasFirst P) [
  | inl found ↦ inl found
  | inr none ↦ inr (λ i holds. none i (within i holds) holds)
]

-- a list has values only at the positions below its length
pub within_length : {X : Type 0} (P : X → Type 0) (xs : List X) (i : ℕ) → IsSomeAnd (slice_get xs i) P → i < length xs
within_length P [] i is = absurd is
within_length P (x ∷ xs) zero is = omega arith
within_length P (x ∷ xs) (suc i) is = omega (arith, within_length P xs i is)
