-- Parts of which each takes as many pairs as it can are the fewest.
use Rattle.std.proofs.Common.{◌≡◌, ◌⊎◌, ◌<◌, ◌≤◌, ◌+◌, ℕ, List, [], ◌∷◌, ◌++◌, length, drop, get_or, refl, sym, ap, subst, ◌∙◌, inl, inr, append_assoc, arith, length-append}
use Rattle.std.specs.List.{AllByRecursion}
use Rattle.std.proofs.lemmas.List.{append-nil}
use Rattle.std.proofs.lemmas.List.Concat.{flat_map-append}
use Rattle.mt_words.specs.Walks.{Pair, joined}
use Rattle.mt_checkpoint.specs.Checkpoints.{entries_text}
use Rattle.mt_checkpoint.specs.Steps.Planning.{size_of, MayBePart, IsFull, IsFullBefore, AreFull}
use Rattle.mt_checkpoint.specs.Steps.Writing.{text_both}

-- lists, and one more
pub joined_snoc : (lists : List (List Pair)) (list : List Pair) → joined (lists ++ list ∷ []) ≡ joined lists ++ list
joined_snoc lists list = flat_map-append (λ pairs. pairs) lists (list ∷ []) ∙ ap (λ (z : List Pair). joined lists ++ z) (append-nil list)

-- ---- parts that are full

before_longer : (limit : ℕ) (part rest more : List Pair) → IsFullBefore limit part rest → IsFullBefore limit part (rest ++ more)
before_longer limit part [] more full = absurd full
before_longer limit part (next ∷ rest) more full = full

-- more pairs follow
pub full_longer : (limit : ℕ) (parts : List (List Pair)) (rest more : List Pair) → AreFull limit parts rest → AreFull limit parts (rest ++ more)
full_longer limit [] rest more full = tt
full_longer limit (part ∷ parts) rest more full =
    (subst (IsFullBefore limit part) (append_assoc (joined parts) rest more) (before_longer limit part (joined parts ++ rest) more full.0), full_longer limit parts rest more full.1)

-- one more part is full
pub full_snoc : (limit : ℕ) (parts : List (List Pair)) (last : List Pair) (next : Pair) → AreFull limit parts last → IsFull limit last next → AreFull limit (parts ++ last ∷ []) (next ∷ [])
full_snoc limit [] last next full is = (is, tt)
full_snoc limit (part ∷ parts) last next full is =
    (subst (λ (z : List Pair). IsFullBefore limit part (z ++ next ∷ [])) (sym (joined_snoc parts last)) (before_longer limit part (joined parts ++ last) (next ∷ []) full.0), full_snoc limit parts last next full.1 is)

-- no part is full if no pair follows
pub full_none : (limit : ℕ) (parts : List (List Pair)) → AreFull limit parts [] → parts ≡ []
full_none limit [] full = refl
full_none limit (part ∷ parts) full = absurd (subst (λ (z : List (List Pair)). IsFullBefore limit part (joined z ++ [])) (full_none limit parts full.1) full.0)

-- ---- any other parts

module _ (limit version : ℕ) where
  -- a part that has a full one and the next pair is none
  too_full : (before part after : List Pair) (next : Pair) (whole : List Pair) → IsFull limit part next → MayBePart version limit whole → whole ≡ (before ++ part) ++ (next ∷ after) → ⊥
  too_full before part after next whole full fits is = elim fits.1 as (λ _. ⊥) [
    | inl single ↦ absurd (omega (arith, long, full.some, single))
    | inr room ↦ elim full.over as (λ _. ⊥) [
      | inl pairs ↦ absurd (omega (arith, long, pairs, fits.0))
      | inr bytes ↦ absurd (omega (arith, bytes version, room, more))
    ]
  ]
    where
      with_next : List Pair
      with_next = part ++ next ∷ []

      long : length whole ≡ length before + length part + 1 + length after
      long = omega (arith, ap (λ (z : List Pair). length z) is, length-append (before ++ part) (next ∷ after), length-append before part)

      again : whole ≡ before ++ (with_next ++ after)
      again = is ∙ append_assoc before part (next ∷ after) ∙ ap (λ (z : List Pair). before ++ z) (sym (append_assoc part (next ∷ []) after))

      text : List Pair → ℕ
      text pairs = length (entries_text version pairs)

      both : (v w : List Pair) → text (v ++ w) ≡ text v + text w
      both v w = ap (λ (z : List ℕ). length z) (text_both version v w) ∙ length-append (entries_text version v) (entries_text version w)

      more : size_of version with_next ≤ size_of version whole
      more = omega (arith, ap text again, both before (with_next ++ after), both with_next after)

  -- of two lists with the same pairs, the first one ends in the second, or goes on
  split : (front back start rest : List Pair) → front ++ back ≡ start ++ rest
      → ((left : List Pair) × (back ≡ left ++ rest)) ⊎ ((next : Pair) × (after : List Pair) × (front ≡ start ++ next ∷ after) × (rest ≡ next ∷ (after ++ back)))
  split [] back start rest same = inl (start, same)
  split (p ∷ front) back [] rest same = inr (p, front, refl, sym same)
  split (p ∷ front) back (q ∷ start) rest same =
      let first : p ≡ q = ap (λ (z : List Pair). get_or z 0 p) same in
      let tails : front ++ back ≡ start ++ rest = ap (λ (z : List Pair). drop 1 z) same in
      elim (split front back start rest tails) as (λ _. ((left : List Pair) × (back ≡ left ++ rest)) ⊎ ((next : Pair) × (after : List Pair) × (p ∷ front ≡ (q ∷ start) ++ next ∷ after) × (rest ≡ next ∷ (after ++ back)))) [
        | inl within ↦ inl within
        | inr beyond ↦ inr (beyond.0, beyond.1, (λ i. first i ∷ beyond.2 i), beyond.3)
      ]

  -- other parts of these pairs, also if some pairs come before them, are at least as many
  pub fewest : (full : List (List Pair)) (rest before : List Pair) (others : List (List Pair)) → 0 < length rest → AreFull limit full rest → AllByRecursion (MayBePart version limit) others → joined others ≡ before ++ (joined full ++ rest) → length full + 1 ≤ length others
  fewest full rest before [] some are fit same = absurd (omega (arith, some, ap (λ (z : List Pair). length z) same, length-append before (joined full ++ rest), length-append (joined full) rest))
  fewest [] rest before (other ∷ others) some are fit same = omega arith
  fewest (part ∷ full) rest before (other ∷ others) some are fit same =
      let left = joined full ++ rest in
      let aligned : other ++ joined others ≡ (before ++ part) ++ left = same ∙ ap (λ (z : List Pair). before ++ z) (append_assoc part (joined full) rest) ∙ sym (append_assoc before part left) in
      elim (split other (joined others) (before ++ part) left aligned) as (λ _. length (part ∷ full) + 1 ≤ length (other ∷ others)) [
        | inl within ↦ omega (arith, fewest full rest within.0 others some are.1 fit.1 within.1)
        | inr beyond ↦ absurd (too_full before part beyond.1 beyond.0 other (subst (IsFullBefore limit part) beyond.3 are.0) fit.0 beyond.2)
      ]

  -- so full parts and a last one are the fewest
  pub least_parts : (full : List (List Pair)) (last : List Pair) (others : List (List Pair)) → AreFull limit full last → 0 < length others → AllByRecursion (MayBePart version limit) others → joined others ≡ joined full ++ last → length full + 1 ≤ length others
  least_parts full [] others are some fit same = omega (arith, some, ap (λ (z : List (List Pair)). length z) (full_none limit full are))
  least_parts full (pair ∷ last) others are some fit same = fewest full (pair ∷ last) [] others (omega arith) are fit same
