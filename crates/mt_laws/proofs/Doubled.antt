-- Files of which none is the same segment as another, told file by file.
use Rattle.std.proofs.Common.{◌≡◌, ◌⊎◌, inl, inr, ℕ, zero, suc, IsSomeAnd, Option, Some, None, List, [], ◌∷◌, take, Contains, refl, sym, subst, arith}
use Rattle.std.specs.Prelude.{slice_get}
use Rattle.mt_words.proofs.Elements.{no_element, head_or_tail, tail_in}
use Rattle.mt_record.specs.Logs.{LogReading}
use Rattle.mt_scan.specs.Segments.{IsSame, HasFile, IsDoubled}
use Rattle.mt_laws.proofs.LeftFiles.{none_at, some_at, place_of, doubled_by}

-- no later file is the same segment as an earlier one
abbrev pub AreApart : List LogReading → Type 0
AreApart [] = Unit {0}
AreApart (f ∷ fs) = ((x : LogReading) → Contains fs x → IsSame x.head.segment f.head.segment → ⊥) × AreApart fs

pub apart_of : (fs : List LogReading) → ((i : ℕ) → IsDoubled fs i → ⊥) → AreApart fs
apart_of [] once = tt
apart_of (f ∷ fs) once = (
  λ x at same. let j = place_of fs x at in once (suc j.0) (doubled_by (f ∷ fs) 0 (suc j.0) f x (omega arith) refl j.1 same),
  apart_of fs (λ i doubled. once (suc i) (some_at (λ file. HasFile (take i fs) (IsSame file.head.segment)) (λ file. HasFile (f ∷ take i fs) (IsSame file.head.segment)) (slice_get fs i) (λ file has.
      let at = tail_in f has.1 (take i fs) (has.0, has.2, has.3) in (at.0, has.1, at.1, at.2, has.4)) doubled)),
)

either_at : {X : Type 0} (P Q : X → Type 0) (o : Option X) → IsSomeAnd o (λ x. P x ⊎ Q x) → IsSomeAnd o P ⊎ IsSomeAnd o Q
either_at P Q None is = absurd is
either_at P Q (Some x) is = is

pub once_of : (fs : List LogReading) → AreApart fs → (i : ℕ) → IsDoubled fs i → ⊥
once_of [] apart i doubled = doubled
once_of (f ∷ fs) apart zero doubled = no_element doubled.1 (doubled.0, doubled.2, doubled.3)
once_of (f ∷ fs) apart (suc k) doubled = elim (either_at Same Later (slice_get fs k) (some_at (λ file. HasFile (f ∷ take k fs) (IsSame file.head.segment)) (λ file. Same file ⊎ Later file) (slice_get fs k) split doubled)) as (λ _. ⊥) [
  | inl same ↦ none_at Same fs k apart.0 same
  | inr later ↦ once_of fs apart.1 k later
]
  where
    Same : LogReading → Type 0
    Same file = IsSame file.head.segment f.head.segment

    Later : LogReading → Type 0
    Later file = HasFile (take k fs) (IsSame file.head.segment)

    split : (file : LogReading) → HasFile (f ∷ take k fs) (IsSame file.head.segment) → Same file ⊎ Later file
    split file has = elim (head_or_tail f has.1 (take k fs) (has.0, has.2, has.3)) as (λ _. Same file ⊎ Later file) [
      | inl e ↦ inl (subst (λ (x : LogReading). IsSame file.head.segment x.head.segment) (sym e) has.4)
      | inr at ↦ inr (at.0, has.1, at.1, at.2, has.4)
    ]

-- what holds of no place holds of no file
pub none_of : {X : Type 0} (Q : X → Type 0) (xs : List X) (x : X) → ((i : ℕ) → IsSomeAnd (slice_get xs i) Q → ⊥) → Contains xs x → Q x → ⊥
none_of {X} Q xs x none at is =
    let i = place_of xs x at in
    none i.0 (some_at (λ z. z ≡ x) Q (slice_get xs i.0) (λ z e. subst Q (sym e) is) i.1)
