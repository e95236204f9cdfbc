-- What holds for fronts by their numbers holds for the files that they show.
use Rattle.std.proofs.Common.{◌≡◌, ℕ, zero, suc, ◌<◌, Bool, not, IsTrue, Option, Some, None, IsSomeAnd, MatchOption, List, [], ◌∷◌, filter, length, get_or, take, refl, sym, subst, inl, inr, arith}
use Rattle.std.specs.Prelude.{◌↔◌, slice_get}
use Rattle.std.specs.List.{Any, AllZip, AllWithin, HoldsAt, list_any, slice_index_or}
use Rattle.std.proofs.lemmas.Option.{slice_get_read, slice_get_cases}
use Rattle.mt_record.specs.declared.front.LogFront.{LogFront}
use Rattle.mt_record.specs.declared.feed.head.Segment.{Segment}
use Rattle.mt_record.specs.Logs.{LogReading}
use Rattle.mt_scan.specs.Scans.{ShowsFront, ShowFronts}
use Rattle.mt_scan.specs.Segments.{HasFile, IsEarlier, IsJustBefore, IsSame, IsDoubled, HasGap, IsGap, IsTornAmid, is_earlier, is_first_file}
use Rattle.mt_scan.specs.Firsts.{IsFirstOrNone}
use Rattle.mt_scan.specs.Steps.Segments.{HasFront, IsFrontDoubled, IsFrontTornAmid, HasFrontGap}
use Rattle.mt_scan.proofs.Numbers.{from_shown, segment_shown, torn_shown}

-- ---- elements of lists

-- the element at i for which P holds
at_place : {X : Type 0} (P : X → Type 0) (xs : List X) (i : ℕ) → IsSomeAnd (slice_get xs i) P → (x : X) × (i < length xs) × (slice_index_or xs i x ≡ x) × P x
at_place P [] i is = absurd is
at_place P (x ∷ xs) zero is = (x, omega arith, refl, is)
at_place P (x ∷ xs) (suc i) is = let at = at_place P xs i is in (at.0, omega (arith, at.1), at.2, at.3)

of_place : {X : Type 0} (P : X → Type 0) (xs : List X) (i : ℕ) (x : X) → i < length xs → slice_index_or xs i x ≡ x → P x → IsSomeAnd (slice_get xs i) P
of_place P xs i x lt at holds = subst (λ o. IsSomeAnd o P) (sym (slice_get_read xs (length xs) i x refl lt (sym at))) holds

-- what `position` finds: the first element for which P holds
abbrev pub IsSearch : {X : Type 0} → (X → Type 0) → List X → Option ℕ → Type 0
IsSearch P xs r = MatchOption r (AllWithin (λ x. P x → ⊥) xs 0 (length xs)) (λ i. (i < length xs) × HoldsAt P xs i × AllWithin (λ x. P x → ⊥) xs 0 i)

first_found : {X : Type 0} (P : X → Type 0) (xs : List X) (r : Option ℕ) → IsSearch P xs r → IsFirstOrNone (λ i. IsSomeAnd (slice_get xs i) P) r
first_found P xs None none = λ i is. let at = at_place P xs i is in none i at.0 (omega arith) at.1 (subst P (sym at.2) at.3)
first_found P xs (Some i) found = (
  elim ((slice_get_cases xs i).1) as (λ _. IsSomeAnd (slice_get xs i) P) [
    | inl at ↦ of_place P xs i at.0 found.0 at.3 (subst P at.3 (found.1 at.0))
    | inr past ↦ absurd (omega (arith, past.0, found.0))
  ],
  λ j lt is. let at = at_place P xs j is in found.2 j at.0 (omega arith) lt (subst P (sym at.2) at.3),
)

-- ---- lists of which each element has its like

module _ {A B : Type 0} (R : A → B → Type 0) where
  pub at_alike : (P : A → Type 0) (Q : B → Type 0) (xs : List A) (ys : List B) (i : ℕ) → AllZip R xs ys → ((x : A) (y : B) → R x y → P x ↔ Q y) → IsSomeAnd (slice_get xs i) P ↔ IsSomeAnd (slice_get ys i) Q
  at_alike P Q [] [] i zip alike = (λ p. p, λ q. q)
  at_alike P Q [] (y ∷ ys) i zip alike = absurd zip
  at_alike P Q (x ∷ xs) [] i zip alike = absurd zip
  at_alike P Q (x ∷ xs) (y ∷ ys) zero zip alike = alike x y zip.0
  at_alike P Q (x ∷ xs) (y ∷ ys) (suc i) zip alike = at_alike P Q xs ys i zip.1 alike

  pub any_alike : (P : A → Type 0) (Q : B → Type 0) (xs : List A) (ys : List B) → AllZip R xs ys → ((x : A) (y : B) → R x y → P x ↔ Q y) → Any P xs ↔ Any Q ys
  any_alike P Q xs ys zip alike = (
    λ any. let at = at_place Q ys any.0 ((at_alike P Q xs ys any.0 zip alike).0 (of_place P xs any.0 any.1 any.2 any.3 any.4)) in (any.0, at.0, at.1, at.2, at.3),
    λ any. let at = at_place P xs any.0 ((at_alike P Q xs ys any.0 zip alike).1 (of_place Q ys any.0 any.1 any.2 any.3 any.4)) in (any.0, at.0, at.1, at.2, at.3),
  )

  pub zip_take : (xs : List A) (ys : List B) (n : ℕ) → AllZip R xs ys → AllZip R (take n xs) (take n ys)
  zip_take xs ys zero zip = tt
  zip_take [] [] (suc n) zip = tt
  zip_take [] (y ∷ ys) (suc n) zip = absurd zip
  zip_take (x ∷ xs) [] (suc n) zip = absurd zip
  zip_take (x ∷ xs) (y ∷ ys) (suc n) zip = (zip.0, zip_take xs ys n zip.1)

-- the first for which P holds, if another statement holds for the same numbers
first_alike : (P Q : ℕ → Type 0) (r : Option ℕ) → ((i : ℕ) → P i ↔ Q i) → IsFirstOrNone P r → IsFirstOrNone Q r
first_alike P Q None alike none = λ i is. none i ((alike i).1 is)
first_alike P Q (Some i) alike found = ((alike i).0 found.0, λ j lt is. found.1 j lt ((alike j).1 is))

-- ---- fronts and files

-- a statement on segments holds for one of the fronts if and only if it does for one of the files
has_alike : (P : Option Segment → Type 0) (fronts : List LogFront) (logs : List LogReading) → ShowFronts fronts logs → HasFront fronts P ↔ HasFile logs P
has_alike P fronts logs show = any_alike ShowsFront (λ front. P front.head.segment) (λ log. P log.head.segment) fronts logs show (λ front log shows. (subst P (segment_shown front log shows), subst P (sym (segment_shown front log shows))))

torn_alike : (fronts : List LogFront) (logs : List LogReading) → ShowFronts fronts logs → (front : LogFront) (log : LogReading) → ShowsFront front log → IsFrontTornAmid fronts front ↔ IsTrue log.torn × HasFile logs (IsEarlier log.head.segment)
torn_alike fronts logs show front log shows =
    let later = has_alike (IsEarlier log.head.segment) fronts logs show in
    let torn = torn_shown front log shows in
    rw (segment_shown front log shows) (λ is. (torn.0 is.0, later.0 is.1), λ is. (torn.1 is.0, later.1 is.1))

gap_alike : (begin : ℕ) (fronts : List LogFront) (logs : List LogReading) → ShowFronts fronts logs → (front : LogFront) (log : LogReading) → ShowsFront front log → HasFrontGap begin fronts front ↔ HasGap begin logs log
gap_alike begin fronts logs show front log shows =
    let earlier = has_alike (λ other. IsEarlier other log.head.segment) fronts logs show in
    let before = has_alike (λ other. IsJustBefore other log.head.segment) fronts logs show in
    rw (from_shown front log shows, segment_shown front log shows) (
      λ gap. elim gap [ inl lacks ↦ inl (earlier.0 lacks.0, λ has. lacks.1 (before.1 has)) | inr late ↦ inr (λ has. late.0 (earlier.1 has), late.1) ],
      λ gap. elim gap [ inl lacks ↦ inl (earlier.1 lacks.0, λ has. lacks.1 (before.0 has)) | inr late ↦ inr (λ has. late.0 (earlier.0 has), late.1) ],
    )

doubled_alike : (fronts : List LogFront) (logs : List LogReading) → ShowFronts fronts logs → (i : ℕ) → IsFrontDoubled fronts i ↔ IsDoubled logs i
doubled_alike fronts logs show i =
    at_alike ShowsFront (λ front. HasFront (take i fronts) (IsSame front.head.segment)) (λ log. HasFile (take i logs) (IsSame log.head.segment)) fronts logs i show
    (λ front log shows. rw (segment_shown front log shows) (has_alike (IsSame log.head.segment) (take i fronts) (take i logs) (zip_take ShowsFront fronts logs i show)))

-- ---- the first

pub first_torn : (fronts : List LogFront) (logs : List LogReading) (r : Option ℕ) → IsSearch (IsFrontTornAmid fronts) fronts r → ShowFronts fronts logs → IsFirstOrNone (IsTornAmid logs) r
first_torn fronts logs r is show =
    first_alike _ (IsTornAmid logs) r (λ i. at_alike ShowsFront (IsFrontTornAmid fronts) (λ log. IsTrue log.torn × HasFile logs (IsEarlier log.head.segment)) fronts logs i show (torn_alike fronts logs show))
    (first_found (IsFrontTornAmid fronts) fronts r is)

pub first_gap : (begin : ℕ) (fronts : List LogFront) (logs : List LogReading) (r : Option ℕ) → IsSearch (HasFrontGap begin fronts) fronts r → ShowFronts fronts logs → IsFirstOrNone (IsGap begin logs) r
first_gap begin fronts logs r is show =
    first_alike _ (IsGap begin logs) r (λ i. at_alike ShowsFront (HasFrontGap begin fronts) (HasGap begin logs) fronts logs i show (gap_alike begin fronts logs show))
    (first_found (HasFrontGap begin fronts) fronts r is)

pub first_doubled : (fronts : List LogFront) (logs : List LogReading) (r : Option ℕ) → IsFirstOrNone (IsFrontDoubled fronts) r → ShowFronts fronts logs → IsFirstOrNone (IsDoubled logs) r
first_doubled fronts logs r is show = first_alike (IsFrontDoubled fronts) (IsDoubled logs) r (doubled_alike fronts logs show) is

at_any : {X : Type 0} (xs : List X) (i : ℕ) (d e : X) → i < length xs → get_or xs i d ≡ get_or xs i e
at_any [] i d e lt = absurd (omega (arith, lt))
at_any (x ∷ xs) zero d e lt = refl
at_any (x ∷ xs) (suc i) d e lt = at_any xs i d e (omega (arith, lt))

-- a segment is doubled if and only if the same one is found before it
pub doubled_at : (fronts : List LogFront) (i : ℕ) (d : LogFront) (found : Bool) → i < length fronts → IsTrue found ↔ HasFront (take i fronts) (IsSame (get_or fronts i d).head.segment) → IsFrontDoubled fronts i ↔ IsTrue found
doubled_at fronts i d found lt is = rw (slice_get_read fronts (length fronts) i (get_or fronts i d) refl lt (at_any fronts i d (get_or fronts i d) lt)) (is.1, is.0)

pub doubled_within : (fronts : List LogFront) (i : ℕ) → IsFrontDoubled fronts i → i < length fronts
doubled_within fronts i is = (at_place (λ front. HasFront (take i fronts) (IsSame front.head.segment)) fronts i is).1

-- ---- the number of logs

any_same : (test : Option Segment → Bool) (fronts : List LogFront) (logs : List LogReading) → ShowFronts fronts logs → list_any (λ front. test front.head.segment) fronts ≡ list_any (λ log. test log.head.segment) logs
any_same test [] [] show = refl
any_same test [] (l ∷ ls) show = absurd show
any_same test (s ∷ ss) [] show = absurd show
any_same test (s ∷ ss) (l ∷ ls) show = rw (segment_shown s l show.0, any_same test ss ls show.1) refl

-- as many fronts pass as files
count_passing : (p : LogFront → Bool) (q : LogReading → Bool) (fronts : List LogFront) (logs : List LogReading) → ShowFronts fronts logs → ((front : LogFront) (log : LogReading) → ShowsFront front log → p front ≡ q log) → length (filter p fronts) ≡ length (filter q logs)
count_passing p q [] [] show alike = refl
count_passing p q [] (l ∷ ls) show alike = absurd show
count_passing p q (s ∷ ss) [] show alike = absurd show
count_passing p q (s ∷ ss) (l ∷ ls) show alike = grind (arith, alike s l show.0, count_passing p q ss ls show.1 alike)

-- no earlier segment is found
abbrev pub is_first_front : List LogFront → LogFront → Bool
is_first_front fronts front = not (list_any (λ other. is_earlier other.head.segment front.head.segment) fronts)

pub writer_count : (fronts : List LogFront) (logs : List LogReading) → ShowFronts fronts logs → length (filter (is_first_front fronts) fronts) ≡ length (filter (is_first_file logs) logs)
writer_count fronts logs show =
    count_passing (is_first_front fronts) (is_first_file logs) fronts logs show (λ front log shows. rw (segment_shown front log shows, any_same (λ other. is_earlier other log.head.segment) fronts logs show) refl)
