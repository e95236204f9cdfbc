-- Segments of one log, in their order.
use Rattle.std.proofs.Common.{◌≡◌, ◌⊎◌, inl, inr, ℕ, ◌+◌, ◌<◌, ◌≤◌, Option, Some, None, sym, ◌∙◌, arith}
use Rattle.std.specs.Prelude.{◌==◌}
use Rattle.std.proofs.lemmas.Bool.{and_parts, and_from, eqb-true, eq-eqb, cases_eq, cases_order, false≢true}
use Rattle.mt_record.specs.declared.feed.head.Segment.{Segment}
use Rattle.mt_scan.specs.Segments.{IsEarlier, IsJustBefore, IsSame}

pub earlier_too : (a b c : Option Segment) → IsEarlier a b → IsEarlier b c → IsEarlier a c
earlier_too (Some a) (Some b) (Some c) first next =
    let less : a.number < b.number = first.1 in
    let more : b.number < c.number = next.1 in
    (first.0 ∙ next.0, omega (arith, less, more))
earlier_too (Some a) (Some b) None first next = absurd next
earlier_too (Some a) None c first next = absurd first
earlier_too None b c first next = absurd first

pub not_earlier : (a : Option Segment) → IsEarlier a a → ⊥
not_earlier (Some a) is = let less : a.number < a.number = is.1 in omega (arith, less)
not_earlier None is = is

-- ---- one directly before the other

pub just_parts : (a b : Segment) → IsJustBefore (Some a) (Some b) → (a.worker ≡ b.worker) × (a.number + 1 ≡ b.number)
just_parts a b just =
    let both = and_parts (a.worker == b.worker) (a.number + 1 == b.number) just in
    (eqb-true a.worker b.worker both.0, eqb-true (a.number + 1) b.number both.1)

pub just_from : (a b : Segment) → (a.worker ≡ b.worker) × (a.number + 1 ≡ b.number) → IsJustBefore (Some a) (Some b)
just_from a b both =
    and_from (a.worker == b.worker) (a.number + 1 == b.number) (eq-eqb a.worker b.worker both.0) (eq-eqb (a.number + 1) b.number both.1)

-- a segment directly before another is an earlier one
pub just_is_earlier : (a b : Option Segment) → IsJustBefore a b → IsEarlier a b
just_is_earlier (Some a) (Some b) is = let same = just_parts a b is in let next : a.number + 1 ≡ b.number = same.1 in (same.0, omega (arith, next))
just_is_earlier (Some a) None is = absurd (false≢true is)
just_is_earlier None b is = absurd (false≢true is)

-- an earlier segment is the one directly before, or is earlier than that
pub just_or_earlier : (a b c : Option Segment) → IsEarlier a c → IsJustBefore b c → IsJustBefore a c ⊎ IsEarlier a b
just_or_earlier (Some a) (Some b) (Some c) earlier just =
    let less : a.number < c.number = earlier.1 in
    let same = just_parts b c just in
    let next : b.number + 1 ≡ c.number = same.1 in
    elim (cases_eq a.number b.number) as (λ _. IsJustBefore (Some a) (Some c) ⊎ IsEarlier (Some a) (Some b)) [
      | inl e ↦ inl (just_from a c (earlier.0, omega (arith, e, next)))
      | inr differ ↦ inr (earlier.0 ∙ sym same.0, below a.number b.number differ (omega (arith, less, next)))
    ]
  where
    below : (m n : ℕ) → (m ≡ n → ⊥) → m ≤ n → m < n
    below m n differ most = elim (cases_order m n) as (λ _. m < n) [
      | inl e ↦ absurd (differ e)
      | inr apart ↦ elim apart as (λ _. m < n) [ inl less ↦ less | inr more ↦ absurd (omega (arith, more, most)) ]
    ]
just_or_earlier (Some a) (Some b) None earlier just = absurd earlier
just_or_earlier (Some a) None c earlier just = absurd (false≢true just)
just_or_earlier None b c earlier just = absurd earlier

-- two segments directly before one are the same
pub just_same : (a b c : Option Segment) → IsJustBefore a c → IsJustBefore b c → IsSame a b
just_same (Some a) (Some b) (Some c) first next =
    let one = just_parts a c first in
    let two = just_parts b c next in
    let low : a.number + 1 ≡ c.number = one.1 in
    let same : b.number + 1 ≡ c.number = two.1 in
    (one.0 ∙ sym two.0, omega (arith, low, same))
just_same (Some a) (Some b) None first next = absurd (false≢true first)
just_same (Some a) None c first next = absurd (false≢true next)
just_same None b c first next = absurd (false≢true first)

-- an earlier segment is the same as the one directly before, or is earlier than that
pub same_or_earlier : (a b c : Option Segment) → IsEarlier a c → IsJustBefore b c → IsSame a b ⊎ IsEarlier a b
same_or_earlier a b c earlier just = elim (just_or_earlier a b c earlier just) as (λ _. IsSame a b ⊎ IsEarlier a b) [
  | inl too ↦ inl (just_same a b c too just)
  | inr before ↦ inr before
]

-- what is directly before a segment is earlier than the same one
pub just_before_same : (a b c : Option Segment) → IsJustBefore a b → IsSame b c → IsEarlier a c
just_before_same (Some a) (Some b) (Some c) just same =
    let parts = just_parts a b just in
    let next : a.number + 1 ≡ b.number = parts.1 in
    let number : b.number ≡ c.number = same.1 in
    (parts.0 ∙ same.0, omega (arith, next, number))
just_before_same (Some a) (Some b) None just same = absurd same
just_before_same (Some a) None c just same = absurd same
just_before_same None b c just same = absurd (false≢true just)
