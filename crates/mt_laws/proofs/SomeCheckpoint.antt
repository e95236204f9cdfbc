-- Whether some parts make up a valid checkpoint is decided: in the order of their numbers, or in none.
use Rattle.std.proofs.Common.{◌≡◌, ◌⊎◌, inl, inr, ℕ, zero, suc, ◌<◌, ◌≤◌, List, [], ◌∷◌, length, get_or, map, Contains, refl, sym, ap, ◌∙◌, subst, arith}
use Rattle.std.specs.List.{flat_map}
use Rattle.std.specs.List.Sorted.{IsPermutation, IsNonDecreasingBy}
use Rattle.std.specs.Ordering.{nat_cmp, is_lt}
use Rattle.std.specs.Cmp.Lexicographic.{slice_cmp}
use Rattle.std.proofs.lemmas.Bool.{cases_lt}
use Rattle.std.proofs.lemmas.List.Sorted.{Contains-permutation, IsPermutation-refl, IsPermutation-sym, IsPermutation-trans, IsPermutation-cons, IsPermutation-middle, IsPermutation-map}
use Rattle.mt_words.specs.Words.{IsBelow, AreRising}
use Rattle.mt_words.proofs.Elements.{head_in, tail_in}
use Rattle.mt_record.specs.Parts.{PartReading}
use Rattle.mt_scan.specs.PartScans.{KnownPart, whole, broken, nameless}
use Rattle.mt_scan.specs.PartsShown.{KeptPart, shown_by, shown_by_all}
use Rattle.mt_scan.specs.Choice.{CheckpointReading, parts_of, IsPartAt, AreInPlace, entry_keys, AreItsParts, IsValid}
use Rattle.mt_scan.specs.Steps.Checkpoints.{MakeUpNone, reading_of}
use Rattle.mt_scan.proofs.CheckpointLemmas.{in_place_of, none_made, none_of_none}
use Rattle.mt_replay.proofs.Members.{of_map}
use Rattle.mt_laws.proofs.Decided.{Decided, both, alike, all, at_most}
use Rattle.mt_laws.proofs.Finite.{same_number, passes}

-- ---- parts in the order of their numbers

-- the numbers of the parts never fall, and the first is at least `low`
abbrev PartsRise : ℕ → List KeptPart → Type 0
PartsRise low [] = Unit {0}
PartsRise low (part ∷ parts) = (low ≤ part.part) × PartsRise part.part parts

-- the same parts in the order of their numbers
abbrev HasOrdered : ℕ → List KeptPart → Type 0
HasOrdered low parts = (ordered : List KeptPart) × PartsRise low ordered × IsPermutation parts ordered

-- one more part in its place
insert_part : (low : ℕ) (part : KeptPart) (parts : List KeptPart) → low ≤ part.part → PartsRise low parts → HasOrdered low (part ∷ parts)
insert_part low part [] le rise = (part ∷ [], (le, tt), IsPermutation-refl (part ∷ []))
insert_part low part (first ∷ parts) le rise = elim (cases_lt first.part part.part) as (λ _. HasOrdered low (part ∷ first ∷ parts)) [
  | inl lt ↦
      let above : first.part ≤ part.part = omega (arith, lt) in
      let rest = insert_part first.part part parts above rise.1 in
      let front : IsPermutation (part ∷ first ∷ parts) (first ∷ part ∷ parts) = IsPermutation-sym (first ∷ part ∷ parts) (part ∷ first ∷ parts) (IsPermutation-middle (first ∷ []) part parts) in
      (first ∷ rest.0, (rise.0, rest.1), IsPermutation-trans (part ∷ first ∷ parts) (first ∷ part ∷ parts) (first ∷ rest.0) front (IsPermutation-cons first (part ∷ parts) rest.0 rest.2))
  | inr low_part ↦ (part ∷ first ∷ parts, (le, (low_part, rise.1)), IsPermutation-refl (part ∷ first ∷ parts))
]

order_parts : (parts : List KeptPart) → HasOrdered 0 parts
order_parts [] = ([], tt, IsPermutation-refl [])
order_parts (part ∷ parts) =
    let rest = order_parts parts in
    let made = insert_part 0 part rest.0 (omega arith) rest.1 in
    (made.0, made.1, IsPermutation-trans (part ∷ parts) (part ∷ rest.0) made.0 (IsPermutation-cons part parts rest.0 rest.2) made.2)

-- no part has a number below `low`
none_lower : (low : ℕ) (parts : List KeptPart) (i : ℕ) (d : KeptPart) → PartsRise low parts → i < length parts → low ≤ (get_or parts i d).part
none_lower low [] i d rise lt = absurd (omega arith)
none_lower low (part ∷ parts) zero d rise lt = rise.0
none_lower low (part ∷ parts) (suc i) d rise lt = let rest = none_lower part.part parts i d rise.1 (omega (arith, lt)) in omega (arith, rest, rise.0)

never_fall : (low : ℕ) (parts : List KeptPart) → PartsRise low parts → IsNonDecreasingBy (λ (part : KeptPart). part.part) parts
never_fall low [] rise i j d le lt = absurd (omega (arith, lt))
never_fall low (part ∷ parts) rise zero zero d le lt = omega arith
never_fall low (part ∷ parts) rise zero (suc j) d le lt = none_lower part.part parts j d rise.1 (omega (arith, lt))
never_fall low (part ∷ parts) rise (suc i) zero d le lt = absurd (omega (arith, le))
never_fall low (part ∷ parts) rise (suc i) (suc j) d le lt = never_fall part.part parts rise.1 i j d (omega (arith, le)) (omega (arith, lt))

-- ---- whether parts in this order make up a checkpoint

part_decided : (checkpoint : CheckpointReading) (count place : ℕ) (part : PartReading) → Decided (IsPartAt checkpoint count place part)
part_decided checkpoint count place part = alike
    (λ four. record { stands = four.0.0; parts = four.0.1; begin_agrees = four.1.0; end_agrees = four.1.1 }) (λ is. ((is.stands, is.parts), (is.begin_agrees, is.end_agrees)))
    (both (both (same_number part.part place) (same_number part.parts count)) (both (same_number part.begin checkpoint.begin) (same_number part.end checkpoint.end)))

in_place_decided : (checkpoint : CheckpointReading) (count place : ℕ) (parts : List PartReading) → Decided (AreInPlace checkpoint count place parts)
in_place_decided checkpoint count place [] = inl tt
in_place_decided checkpoint count place (part ∷ parts) = both (part_decided checkpoint count place part) (in_place_decided checkpoint count (suc place) parts)

rising_decided : (keys : List (List ℕ)) → Decided (AreRising keys)
rising_decided [] = inl tt
rising_decided (key ∷ keys) = both (all (IsBelow key) (λ other. passes (is_lt (slice_cmp nat_cmp key other))) keys) (rising_decided keys)

-- a checkpoint with the entries of the parts
made_up_decided : (parts : List PartReading) (checkpoint : CheckpointReading) → checkpoint.entries ≡ flat_map (λ (part : PartReading). part.entries) parts
    → Decided (AreItsParts parts checkpoint)
made_up_decided parts checkpoint entries = alike
    (λ four. record { some = four.0.0; in_place = four.0.1; begins = four.1.0; all = entries; rise = four.1.1 }) (λ is. ((is.some, is.in_place), (is.begins, is.rise)))
    (both (both (at_most 1 (length parts)) (in_place_decided checkpoint (length parts) 0 parts)) (both (at_most checkpoint.begin checkpoint.end) (rising_decided (entry_keys checkpoint.entries))))

-- ---- the valid checkpoint with a number

-- there is a valid checkpoint with this number, or there is none
abbrev pub HasValid : List KnownPart → ℕ → Type 0
HasValid known number = ((checkpoint : CheckpointReading) × (checkpoint.number ≡ number) × IsValid known checkpoint)
    ⊎ ((other : CheckpointReading) → other.number ≡ number → IsValid known other → ⊥)

abbrev kept_of : PartReading → KeptPart
kept_of part = record { number = part.number; begin = part.begin; part = part.part; parts = part.parts; entries = part.entries; end = part.end }

-- the parts are these complete parts
abbrev AreTexts : List KnownPart → Type 0
AreTexts parts = (texts : List KeptPart) × (parts ≡ map whole (shown_by_all texts))

-- one of the parts is not complete
abbrev HasOther : List KnownPart → Type 0
HasOther parts = (part : KnownPart) × Contains parts part × ((text : PartReading) → whole text ≡ part → ⊥)

-- all parts are complete, or one of them is not
all_whole : (parts : List KnownPart) → AreTexts parts ⊎ HasOther parts
all_whole [] = inl ([], refl)
all_whole (whole text ∷ parts) = elim (all_whole parts) as (λ _. AreTexts (whole text ∷ parts) ⊎ HasOther (whole text ∷ parts)) [
  | inl are ↦ inl (kept_of text ∷ are.0, ap (λ (ps : List KnownPart). whole text ∷ ps) are.1)
  | inr other ↦ inr (other.0, tail_in (whole text) other.0 parts other.1, other.2)
]
all_whole (broken number entries ∷ parts) = inr (broken number entries, head_in (broken number entries) parts, λ text e. absurd cc)
all_whole (nameless ∷ parts) = inr (nameless, head_in nameless parts, λ text e. absurd cc)

-- parts one of which is not complete are in no order the parts of a checkpoint
other_is_none : (parts : List KnownPart) (texts : List PartReading) → HasOther parts → IsPermutation parts (map whole texts) → ⊥
other_is_none parts texts other moved =
    let among = of_map whole texts other.0 (Contains-permutation parts (map whole texts) other.0 moved other.1) in
    other.2 among.0 among.2

-- the parts of the checkpoint with this number are these complete parts
abbrev OfTexts : List KnownPart → ℕ → List KeptPart → Type 0
OfTexts known number texts = parts_of number known ≡ map whole (shown_by_all texts)

-- parts that make up none leave no valid checkpoint with their number
none_valid : (known : List KnownPart) (number : ℕ) (texts : List KeptPart) → OfTexts known number texts → MakeUpNone (shown_by_all texts)
    → (other : CheckpointReading) → other.number ≡ number → IsValid known other → ⊥
none_valid known number texts are none other same valid = none other (record {
  ordered = valid.texts;
  same = subst (λ (ps : List KnownPart). IsPermutation ps (map whole valid.texts)) (ap (λ (n : ℕ). parts_of n known) same ∙ are) valid.are_whole;
  make_up = valid.make_up;
})

-- the number of a checkpoint is not among what its parts have to agree in
numbered : (number other : ℕ) (first : KeptPart) (parts : List KeptPart) → AreItsParts (shown_by_all parts) (reading_of number first.begin first.end parts)
    → AreItsParts (shown_by_all parts) (reading_of other first.begin first.end parts)
numbered number other first parts make = record {
  some = make.some;
  in_place = in_place_of (reading_of number first.begin first.end parts) (reading_of other first.begin first.end parts) (length (shown_by_all parts)) 0 (shown_by_all parts) refl refl make.in_place;
  begins = make.begins;
  all = refl;
  rise = make.rise;
}

-- parts whose order by number is this one
valid_of : (known : List KnownPart) (number : ℕ) (texts ordered : List KeptPart) → OfTexts known number texts → IsNonDecreasingBy (λ (part : KeptPart). part.part) ordered
    → IsPermutation texts ordered → HasValid known number
valid_of known number texts [] are rise moved = inr (none_valid known number texts are (none_of_none texts [] moved refl))
valid_of known number texts (first ∷ rest) are rise moved =
    let ordered : List KeptPart = first ∷ rest in
    let checkpoint : CheckpointReading = reading_of number first.begin first.end ordered in
    elim (made_up_decided (shown_by_all ordered) checkpoint refl) as (λ _. HasValid known number) [
      | inl make ↦ inl (
        checkpoint,
        refl,
        record {
          texts = shown_by_all ordered;
          are_whole = subst (λ (ps : List KnownPart). IsPermutation ps (map whole (shown_by_all ordered))) (sym are)
              (IsPermutation-map whole (shown_by_all texts) (shown_by_all ordered) (IsPermutation-map shown_by texts ordered moved));
          make_up = make;
        },
      )
      | inr not ↦ inr (none_valid known number texts are (none_made texts ordered first moved rise refl (λ other make. not (numbered other number first ordered make))))
    ]

pub has_valid : (known : List KnownPart) (number : ℕ) → HasValid known number
has_valid known number = elim (all_whole (parts_of number known)) as (λ _. HasValid known number) [
  | inl are ↦ let ordered = order_parts are.0 in valid_of known number are.0 ordered.0 are.1 (never_fall 0 ordered.0 ordered.1) ordered.2
  | inr other ↦ inr (λ checkpoint same valid. other_is_none (parts_of number known) valid.texts other (subst (λ (n : ℕ). IsPermutation (parts_of n known) (map whole valid.texts)) same valid.are_whole))
]
