-- Statements that hold or do not, by a test.
use Rattle.std.proofs.Common.{◌≡◌, ◌⊎◌, inl, inr, ℕ, suc, ◌<◌, ◌≤◌, List, [], ◌∷◌, length, drop, refl, sym, ap, subst, arith}
use Rattle.std.proofs.lemmas.Bool.{cases_lt, cases_eq}
use Rattle.std.specs.Prelude.{Option, Some, None, IfSome, slice_index}
use Rattle.std.specs.List.{AllByRecursion}
use Rattle.mt_words.specs.Words.{Rise}

-- the statement holds, or it does not
abbrev pub Decided : Type 0 → Type 0
Decided P = P ⊎ (P → ⊥)

-- ---- numbers and bytes

pub at_most : (m n : ℕ) → Decided (m ≤ n)
at_most m n = elim (cases_lt n m) as (λ _. Decided (m ≤ n)) [ inl more ↦ inr (λ most. omega (arith, more, most)) | inr most ↦ inl most ]

pub below : (m n : ℕ) → Decided (m < n)
below m n = elim (cases_lt m n) as (λ _. Decided (m < n)) [ inl less ↦ inl less | inr most ↦ inr (λ less. omega (arith, less, most)) ]

pub same_bytes : (xs ys : List ℕ) → Decided (xs ≡ ys)
same_bytes [] [] = inl refl
same_bytes [] (y ∷ ys) = inr (λ e. omega (arith, ap length e))
same_bytes (x ∷ xs) [] = inr (λ e. omega (arith, ap length e))
same_bytes (x ∷ xs) (y ∷ ys) = by (cases_eq x y) (same_bytes xs ys)
  where
    by : Decided (x ≡ y) → Decided (xs ≡ ys) → Decided (x ∷ xs ≡ y ∷ ys)
    by (inl first) (inl rest) = inl (λ i. first i ∷ rest i)
    by (inr fails) rest = inr (λ e. fails (ap (λ (l : List ℕ). slice_index l 0) e))
    by (inl first) (inr fails) = inr (λ e. fails (ap (drop 1) e))

-- ---- statements of several

pub both : {P Q : Type 0} → Decided P → Decided Q → Decided (P × Q)
both (inl p) (inl q) = inl (p, q)
both (inr fails) q = inr (λ pq. fails pq.0)
both (inl p) (inr fails) = inr (λ pq. fails pq.1)

-- statements that follow from one another are decided alike
pub alike : {P Q : Type 0} → (P → Q) → (Q → P) → Decided P → Decided Q
alike to from (inl p) = inl (to p)
alike to from (inr fails) = inr (λ q. fails (from q))

pub three : {P Q R : Type 0} → Decided P → Decided Q → Decided R → Decided (P × Q × R)
three p q r = alike (λ pqr. (pqr.0, pqr.1.0, pqr.1.1)) (λ pqr. (pqr.0, (pqr.1, pqr.2))) (both p (both q r))

pub all : {A : Type 0} (P : A → Type 0) → ((x : A) → Decided (P x)) → (xs : List A) → Decided (AllByRecursion P xs)
all P test [] = inl tt
all P test (x ∷ xs) = both (test x) (all P test xs)

pub if_some : {A : Type 0} (P : A → Type 0) → ((x : A) → Decided (P x)) → (o : Option A) → Decided (IfSome o P)
if_some P test None = inl tt
if_some P test (Some x) = test x

pub rises : (low : ℕ) (numbers : List ℕ) → Decided (Rise low numbers)
rises low [] = inl tt
rises low (n ∷ ns) = both (at_most low n) (rises (suc n) ns)

-- ---- whether there is a value

-- if only one value can satisfy `P`, some value does or none does
pub some_or_none : {A : Type 0} (P : A → Type 0) (candidate : A) → ((x : A) → P x → candidate ≡ x) → Decided (P candidate)
    → ((x : A) × P x) ⊎ ((x : A) → P x → ⊥)
some_or_none P candidate only (inl is) = inl (candidate, is)
some_or_none P candidate only (inr fails) = inr (λ x is. fails (subst P (sym (only x is)) is))
