-- A checkpoint is chosen among parts, or there is none to choose.
use Rattle.std.proofs.Common.{◌≡◌, ◌⊎◌, inl, inr, ℕ, ◌<◌, true, Option, Some, None, List, [], ◌∷◌, length, map, Contains, refl, sym, ap, ◌∙◌, subst, arith}
use Rattle.std.specs.List.Sorted.{IsPermutation}
use Rattle.std.proofs.lemmas.Bool.{cases_lt, cases_order, eqb-true, false≢true}
use Rattle.std.proofs.lemmas.List.Sorted.{Contains-permutation, IsPermutation-sym}
use Rattle.mt_words.proofs.Elements.{no_element, head_or_tail, head_in}
use Rattle.mt_record.specs.Parts.{PartReading}
use Rattle.mt_scan.specs.PartScans.{KnownPart, whole, broken, nameless}
use Rattle.mt_scan.specs.Choice.{CheckpointReading, belongs_to, parts_of, IsValid, MayBeChosen, IsNoBetter, IsChosenOf}
use Rattle.mt_scan.proofs.OneChoice.{one_valid}
use Rattle.mt_replay.proofs.Members.{of_filter}
use Rattle.mt_laws.proofs.SomeCheckpoint.{has_valid}

-- ---- the better of two

no_better_itself : (a b : CheckpointReading) → a ≡ b → IsNoBetter b a
no_better_itself a b same = subst (λ (x : CheckpointReading). IsNoBetter x a) same (inr (refl, omega arith))

no_better_trans : (a b c : CheckpointReading) → IsNoBetter a b → IsNoBetter b c → IsNoBetter a c
no_better_trans a b c (inl x) (inl y) = inl (omega (arith, x, y))
no_better_trans a b c (inl x) (inr y) = inl (omega (arith, x, y.0))
no_better_trans a b c (inr x) (inl y) = inl (omega (arith, x.0, y))
no_better_trans a b c (inr x) (inr y) = inr (x.0 ∙ y.0, omega (arith, x.1, y.1))

one_no_better : (a b : CheckpointReading) → IsNoBetter a b ⊎ IsNoBetter b a
one_no_better a b = elim (cases_order a.end b.end) as (λ _. IsNoBetter a b ⊎ IsNoBetter b a) [
  | inl same ↦ elim (cases_lt a.number b.number) as (λ _. IsNoBetter a b ⊎ IsNoBetter b a) [
    | inl lt ↦ inl (inr (same, omega (arith, lt)))
    | inr le ↦ inr (inr (sym same, le))
  ]
  | inr apart ↦ elim apart as (λ _. IsNoBetter a b ⊎ IsNoBetter b a) [ inl lt ↦ inl (inl lt) | inr gt ↦ inr (inl gt) ]
]

-- ---- the best checkpoint

-- the best of the checkpoints that may be chosen and for which `P` holds, or there are none
abbrev HasBest : List KnownPart → ℕ → (CheckpointReading → Type 0) → Type 0
HasBest known cutoff P =
    ((checkpoint : CheckpointReading) × MayBeChosen known cutoff checkpoint × ((other : CheckpointReading) → P other → MayBeChosen known cutoff other → IsNoBetter other checkpoint))
    ⊎ ((other : CheckpointReading) → P other → MayBeChosen known cutoff other → ⊥)

-- the best with a number: there is at most one with it
best_of_number : (known : List KnownPart) (cutoff number : ℕ) → HasBest known cutoff (λ other. other.number ≡ number)
best_of_number known cutoff number = elim (has_valid known number) as (λ _. HasBest known cutoff (λ other. other.number ≡ number)) [
  | inr none ↦ inr (λ other same may. none other same may.valid)
  | inl found ↦
      let one : (other : CheckpointReading) → other.number ≡ number → IsValid known other → found.0 ≡ other = λ other same valid. one_valid known found.0 other found.2 valid (found.1 ∙ sym same) in
      elim (cases_lt found.0.end cutoff) as (λ _. HasBest known cutoff (λ other. other.number ≡ number)) [
        | inl below ↦ inl (found.0, record { valid = found.2; ends_below = below }, λ other same may. no_better_itself found.0 other (one other same may.valid))
        | inr past ↦ inr (λ other same may. let ends : found.0.end ≡ other.end = ap (λ (x : CheckpointReading). x.end) (one other same may.valid) in omega (arith, ends, past, may.ends_below))
      ]
]

-- the best for which one of two statements holds
best_of_both : (known : List KnownPart) (cutoff : ℕ) (P Q R : CheckpointReading → Type 0) → ((other : CheckpointReading) → R other → P other ⊎ Q other)
    → HasBest known cutoff P → HasBest known cutoff Q → HasBest known cutoff R
best_of_both known cutoff P Q R cases (inl a) (inl b) = elim (one_no_better a.0 b.0) as (λ _. HasBest known cutoff R) [
  | inl low ↦ inl (
    b.0,
    b.1,
    λ other is may. elim (cases other is) as (λ _. IsNoBetter other b.0) [
      | inl p ↦ no_better_trans other a.0 b.0 (a.2 other p may) low
      | inr q ↦ b.2 other q may
    ],
  )
  | inr low ↦ inl (
    a.0,
    a.1,
    λ other is may. elim (cases other is) as (λ _. IsNoBetter other a.0) [
      | inl p ↦ a.2 other p may
      | inr q ↦ no_better_trans other b.0 a.0 (b.2 other q may) low
    ],
  )
]
best_of_both known cutoff P Q R cases (inl a) (inr none) = inl (a.0, a.1, λ other is may. elim (cases other is) as (λ _. IsNoBetter other a.0) [ inl p ↦ a.2 other p may | inr q ↦ absurd (none other q may) ])
best_of_both known cutoff P Q R cases (inr none) (inl b) = inl (b.0, b.1, λ other is may. elim (cases other is) as (λ _. IsNoBetter other b.0) [ inl p ↦ absurd (none other p may) | inr q ↦ b.2 other q may ])
best_of_both known cutoff P Q R cases (inr none) (inr too) = inr (λ other is may. elim (cases other is) as (λ _. ⊥) [ inl p ↦ none other p may | inr q ↦ too other q may ])

weaker_best : (known : List KnownPart) (cutoff : ℕ) (P Q : CheckpointReading → Type 0) → ((other : CheckpointReading) → Q other → P other) → HasBest known cutoff P → HasBest known cutoff Q
weaker_best known cutoff P Q into (inl found) = inl (found.0, found.1, λ other q may. found.2 other (into other q) may)
weaker_best known cutoff P Q into (inr none) = inr (λ other q may. none other (into other q) may)

-- one of these parts belongs to the checkpoint
abbrev HasPart : List KnownPart → CheckpointReading → Type 0
HasPart parts checkpoint = (part : KnownPart) × Contains parts part × (belongs_to checkpoint.number part ≡ true)

-- the best that a part belongs to
best_of_part : (known : List KnownPart) (cutoff : ℕ) (part : KnownPart) → HasBest known cutoff (λ other. belongs_to other.number part ≡ true)
best_of_part known cutoff (whole text) = weaker_best known cutoff (λ other. other.number ≡ text.number) (λ other. belongs_to other.number (whole text) ≡ true)
    (λ other is. sym (eqb-true text.number other.number is)) (best_of_number known cutoff text.number)
best_of_part known cutoff (broken number entries) = weaker_best known cutoff (λ other. other.number ≡ number) (λ other. belongs_to other.number (broken number entries) ≡ true)
    (λ other is. sym (eqb-true number other.number is)) (best_of_number known cutoff number)
best_of_part known cutoff nameless = inr (λ other is may. false≢true is)

-- the best that one of these parts belongs to
best_of_parts : (known : List KnownPart) (cutoff : ℕ) (parts : List KnownPart) → HasBest known cutoff (HasPart parts)
best_of_parts known cutoff [] = inr (λ other has may. no_element has.0 has.1)
best_of_parts known cutoff (part ∷ parts) =
    best_of_both known cutoff (λ other. belongs_to other.number part ≡ true) (HasPart parts) (HasPart (part ∷ parts))
    (λ other has. elim (head_or_tail part has.0 parts has.1) as (λ _. (belongs_to other.number part ≡ true) ⊎ HasPart parts other) [
      | inl e ↦ inl (ap (belongs_to other.number) e ∙ has.2)
      | inr later ↦ inr (has.0, later, has.2)
    ]) (best_of_part known cutoff part) (best_of_parts known cutoff parts)

-- a valid checkpoint has a part
part_of_valid : (known : List KnownPart) (checkpoint : CheckpointReading) → IsValid known checkpoint → HasPart known checkpoint
part_of_valid known checkpoint valid = by valid.texts valid.make_up.some valid.are_whole
  where
    by : (texts : List PartReading) → 0 < length texts → IsPermutation (parts_of checkpoint.number known) (map whole texts) → HasPart known checkpoint
    by [] some moved = absurd (omega arith)
    by (text ∷ texts) some moved =
        let among = Contains-permutation (map whole (text ∷ texts)) (parts_of checkpoint.number known) (whole text) (IsPermutation-sym (parts_of checkpoint.number known) (map whole (text ∷ texts)) moved)
        (head_in (whole text) (map whole texts)) in
        let from = of_filter (belongs_to checkpoint.number) known (whole text) among in
        (whole text, from.0, from.1)

-- a checkpoint is chosen, or there is none to choose
pub some_choice : (known : List KnownPart) (cutoff : ℕ) → (chosen : Option CheckpointReading) × IsChosenOf known cutoff chosen
some_choice known cutoff = elim (best_of_parts known cutoff known) as (λ _. (chosen : Option CheckpointReading) × IsChosenOf known cutoff chosen) [
  | inl found ↦ (Some found.0, (found.1, λ other may. found.2 other (part_of_valid known other may.valid) may))
  | inr none ↦ (None, λ other may. none other (part_of_valid known other may.valid) may)
]
