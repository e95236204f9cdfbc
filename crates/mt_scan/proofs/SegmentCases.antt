-- What is wrong with segments can be decided of each file.
use Rattle.std.proofs.Common.{◌≡◌, ◌⊎◌, inl, inr, ℕ, zero, suc, ◌<◌, ◌≤◌, Bool, IsTrue, Option, Some, None, IsSomeAnd, List, [], ◌∷◌, length, take, Contains, refl, sym, subst, arith}
use Rattle.std.specs.Prelude.{slice_get}
use Rattle.std.proofs.lemmas.Option.{slice_get_read}
use Rattle.std.proofs.lemmas.Bool.{cases_Bool, cases_lt, cases_eq, both_ways}
use Rattle.mt_words.proofs.Elements.{head_or_tail}
use Rattle.mt_record.specs.declared.feed.head.Segment.{Segment}
use Rattle.mt_record.specs.Logs.{LogReading}
use Rattle.mt_scan.specs.Segments.{IsEarlier, IsJustBefore, is_just_before, IsSame, HasFile, HasGap, IsDoubled, IsTornAmid, IsGap}

-- P holds or fails
abbrev pub IsDecided : Type 0 → Type 0
IsDecided P = P ⊎ (P → ⊥)

both : {P Q : Type 0} → IsDecided P → IsDecided Q → IsDecided (P × Q)
both (inl p) (inl q) = inl (p, q)
both (inl p) (inr fails) = inr (λ is. fails is.1)
both (inr fails) q = inr (λ is. fails is.0)

below : (m n : ℕ) → IsDecided (m < n)
below m n = elim (cases_lt m n) as (λ _. IsDecided (m < n)) [ inl lt ↦ inl lt | inr le ↦ inr (λ lt. absurd (omega arith)) ]

passes : (test : Bool) → IsDecided (IsTrue test)
passes test = elim (cases_Bool test) as (λ _. IsDecided (IsTrue test)) [ inl is ↦ inl is | inr not ↦ inr (both_ways test not) ]

earlier : (a b : Option Segment) → IsDecided (IsEarlier a b)
earlier (Some a) (Some b) = both (cases_eq a.worker b.worker) (below a.number b.number)
earlier (Some a) None = inr (λ none. none)
earlier None b = inr (λ none. none)

same : (a b : Option Segment) → IsDecided (IsSame a b)
same (Some a) (Some b) = both (cases_eq a.worker b.worker) (cases_eq a.number b.number)
same (Some a) None = inr (λ none. none)
same None b = inr (λ none. none)

some_file : (P : Option Segment → Type 0) → ((segment : Option Segment) → IsDecided (P segment)) → (files : List LogReading) → IsDecided (HasFile files P)
some_file P decides [] = inr (λ any. absurd (omega (arith, any.2)))
some_file P decides (file ∷ files) = elim (decides file.head.segment) as (λ _. IsDecided (HasFile (file ∷ files) P)) [
  | inl holds ↦ inl (zero, file, omega arith, refl, holds)
  | inr fails ↦ elim (some_file P decides files) as (λ _. IsDecided (HasFile (file ∷ files) P)) [
    | inl any ↦ inl (suc any.0, any.1, omega (arith, any.2), any.3, any.4)
    | inr none ↦ inr (λ any. elim (head_or_tail file any.1 files (any.0, any.2, any.3)) as (λ _. ⊥) [
      | inl e ↦ fails (subst (λ (f : LogReading). P f.head.segment) (sym e) any.4)
      | inr later ↦ none (later.0, any.1, later.1, later.2, any.4)
    ])
  ]
]

has_gap : (begin : ℕ) (files : List LogReading) (file : LogReading) → IsDecided (HasGap begin files file)
has_gap begin files file =
    let before = some_file (λ other. IsJustBefore other file.head.segment) (λ other. passes (is_just_before other file.head.segment)) files in
    elim (some_file (λ other. IsEarlier other file.head.segment) (λ other. earlier other file.head.segment) files) as (λ _. IsDecided (HasGap begin files file)) [
      | inl has ↦ elim before as (λ _. IsDecided (HasGap begin files file)) [
        | inl there ↦ inr (λ gap. elim gap as (λ _. ⊥) [ inl lacks ↦ lacks.1 there | inr late ↦ late.0 has ])
        | inr none ↦ inl (inl (has, none))
      ]
      | inr first ↦ elim (below begin file.head.from) as (λ _. IsDecided (HasGap begin files file)) [
        | inl late ↦ inl (inr (first, late))
        | inr from ↦ inr (λ gap. elim gap as (λ _. ⊥) [ inl lacks ↦ first lacks.0 | inr late ↦ from late.1 ])
      ]
    ]

at : (P : LogReading → Type 0) → ((file : LogReading) → IsDecided (P file)) → (file : Option LogReading) → IsDecided (IsSomeAnd file P)
at P decides None = inr (λ none. none)
at P decides (Some file) = decides file

pub doubled_or_not : (files : List LogReading) (i : ℕ) → IsDecided (IsDoubled files i)
doubled_or_not files i = at (λ file. HasFile (take i files) (IsSame file.head.segment)) (λ file. some_file (IsSame file.head.segment) (same file.head.segment) (take i files)) (slice_get files i)

pub torn_or_not : (files : List LogReading) (i : ℕ) → IsDecided (IsTornAmid files i)
torn_or_not files i =
    at (λ file. IsTrue file.torn × HasFile files (IsEarlier file.head.segment)) (λ file. both (passes file.torn) (some_file (IsEarlier file.head.segment) (earlier file.head.segment) files)) (slice_get files i)

pub gap_or_not : (begin : ℕ) (files : List LogReading) (i : ℕ) → IsDecided (IsGap begin files i)
gap_or_not begin files i = at (HasGap begin files) (has_gap begin files) (slice_get files i)

-- ---- a log that is no segment

no_earlier : (other segment : Option Segment) → segment ≡ None → IsEarlier other segment → ⊥
no_earlier None segment none is = is
no_earlier (Some a) None none is = is
no_earlier (Some a) (Some b) none is = cc

-- a log that is no segment and has no gap has all from `begin` on
pub from_begin : (begin : ℕ) (files : List LogReading) → ((i : ℕ) → IsGap begin files i → ⊥) → (log : LogReading) → Contains files log → log.head.segment ≡ None → log.head.from ≤ begin
from_begin begin files none log at alone = elim (cases_lt begin log.head.from) as (λ _. log.head.from ≤ begin) [
  | inl late ↦
      let stands : slice_get files at.0 ≡ Some log = slice_get_read files (length files) at.0 log refl at.1 (sym at.2) in
      absurd (none at.0 (subst (λ (o : Option LogReading). IsSomeAnd o (HasGap begin files)) (sym stands) (inr (λ has. no_earlier has.1.head.segment log.head.segment alone has.4, late))))
  | inr most ↦ most
]
