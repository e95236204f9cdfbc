-- Plans: one more pair, and the parts of a whole walk.
use Rattle.std.proofs.Common.{◌≡◌, ◌≢◌, ◌⊎◌, suc, get_or, true, false, ◌<◌, ◌≤◌, ◌^◌, ◌-◌, ℕ, ◌+◌, List, [], ◌∷◌, ◌++◌, length, map, take, sym, refl, ap, subst, ◌∙◌, inl, inr, append_assoc, arith, length-append}
use Rattle.std.specs.List.{AllByRecursion}
use Rattle.std.specs.Ordering.{nat_cmp, is_lt}
use Rattle.std.specs.Cmp.Lexicographic.{slice_cmp}
use Rattle.std.proofs.Math.Seq.{take-append_seam}
use Rattle.std.proofs.lemmas.Bool.{cases_lt, false≢true, false_from_ne_true}
use Rattle.std.proofs.lemmas.List.{append-nil, nil_from_length}
use Rattle.mt_words.specs.Walks.{Pair, KeysRise, joined}
use Rattle.mt_words.specs.Words.{IsBelow}
use Rattle.mt_words.specs.Built.{entry_of}
use Rattle.mt_words.proofs.KeyOrder.{not_both, not_itself}
use Rattle.mt_record.specs.Spelling.{change_bytes}
use Rattle.mt_record.specs.Parts.{part_head_bytes, footer_bytes}
use Rattle.mt_tree.specs.Range.{from}
use Rattle.mt_tree.proofs.Joins.{all_back, all_append}
use Rattle.mt_checkpoint.specs.Checkpoints.{Checkpoint, IsPlanFault, NeedsParts, entries_text, entries_with, head_of_part, pairs_of, part_text}
use Rattle.mt_checkpoint.specs.declared.plan_fault.PlanFault.{PlanFault}
use Rattle.mt_checkpoint.specs.declared.plan_fault.PlanFault.TheVariants.{Timestamp, Version, Parts, Memory}
use Rattle.mt_checkpoint.specs.declared.checkpoint.TheConstants.{MOST_PARTS}
use Rattle.mt_checkpoint.specs.declared.planning.TheConstants.{AROUND}
use Rattle.mt_checkpoint.specs.declared.planning.Stretch.{Stretch}
use Rattle.mt_checkpoint.specs.declared.planning.Planning.{Planning}
use Rattle.mt_checkpoint.specs.Steps.Planning.{within, StartsAt, IsStretch, AreStretches, size_of, IsWithin, LiesWithin, IsFull, AreFull, IsPlan, IsPlanned, HasAtLeast, IsDivisionFault, MayBePart, MakeUp}
use Rattle.mt_checkpoint.proofs.Fewest.{fewest, full_longer, full_none, full_snoc, joined_snoc, least_parts}
use Rattle.mt_checkpoint.proofs.Texts.{size_more}

-- ---- one more pair

-- what a list begins with stays when it grows
still_starts : (start : List ℕ) (pairs more : List Pair) → 0 < length pairs → StartsAt start pairs → StartsAt start (pairs ++ more)
still_starts start [] more some starts = absurd (omega (arith, some))
still_starts start (p ∷ pairs) more some starts = starts

stretches_snoc : (stretches : List Stretch) (lists : List (List Pair)) (stretch : Stretch) (list : List Pair) → AreStretches stretches lists → IsStretch stretch list
    → AreStretches (stretches ++ stretch ∷ []) (lists ++ list ∷ [])
stretches_snoc [] [] stretch list are is = (is, tt)
stretches_snoc [] (other ∷ lists) stretch list are is = absurd are
stretches_snoc (other ∷ stretches) [] stretch list are is = absurd are
stretches_snoc (other ∷ stretches) (others ∷ lists) stretch list are is = (are.0, stretches_snoc stretches lists stretch list are.1 is)

-- stretches are as many as the lists that they have
lengths_of : (stretches : List Stretch) (lists : List (List Pair)) → AreStretches stretches lists → length stretches ≡ length lists
lengths_of [] [] are = refl
lengths_of [] (list ∷ lists) are = absurd are
lengths_of (stretch ∷ stretches) [] are = absurd are
lengths_of (stretch ∷ stretches) (list ∷ lists) are = omega (arith, lengths_of stretches lists are.1)

module _ (limit : ℕ) (plan : Planning) (seen : List Pair) (pair : Pair) (fields : ℕ) (is : IsPlan limit plan seen) (same : (version : ℕ) → fields ≡ length (change_bytes (entry_of version pair.0 pair.1))) where
  -- the last part takes the pair
  pub took : plan.size + (8 + fields) ≤ plan.limit → 0 < plan.last.count → plan.last.count < 2 ^ 32 - 1
      → IsPlan limit (record plan { last = record plan.last { count = plan.last.count + 1 }; size = plan.size + (8 + fields) }) (seen ++ pair ∷ [])
  took room some few = record {
    full = is.full;
    last = is.last ++ pair ∷ [];
    whole = ap (λ (z : List Pair). z ++ pair ∷ []) is.whole ∙ append_assoc (joined is.full) is.last (pair ∷ []);
    full_are = is.full_are;
    full_to = full_longer limit is.full is.last (pair ∷ []) is.full_to;
    last_is = record {
      start = still_starts plan.last.start is.last (pair ∷ []) (omega (arith, some, is.last_is.count)) is.last_is.start;
      count = omega (arith, is.last_is.count, length-append is.last (pair ∷ []));
      fits = omega (arith, few);
    };
    few = is.few;
    limit_is = is.limit_is;
    full_within = is.full_within;
    last_within = λ version. inr (omega (arith, room, is.limit_is, is.size version, size_more version is.last pair fields (same version)));
    size = λ version. omega (arith, is.size version, size_more version is.last pair fields (same version));
  }

  -- another part begins with the pair, after these
  began : (new : Planning) (full : List (List Pair)) → seen ≡ joined full → AreStretches new.full.items full → AreFull limit full (pair ∷ []) → length new.full.items < MOST_PARTS → AllByRecursion (LiesWithin limit) full
      → new.limit ≡ plan.limit → pair.0 ≡ new.last.start → new.last.count ≡ 1 → new.size ≡ AROUND + (8 + fields) → IsPlan limit new (seen ++ pair ∷ [])
  began new full whole are full_to few each of_limit start one size = record {
    full = full;
    last = pair ∷ [];
    whole = ap (λ (z : List Pair). z ++ pair ∷ []) whole;
    full_are = are;
    full_to = full_to;
    last_is = record { start = start; count = one; fits = omega (arith, one) };
    few = few;
    limit_is = of_limit ∙ is.limit_is;
    full_within = each;
    last_within = λ version. inl (omega arith);
    size = λ version. omega (arith, size, size_more version [] pair fields (same version));
  }

  -- the last part is kept, and another one begins: too many, or not
  pub began_next : (new : Planning) → (0 < plan.last.count → (plan.limit < plan.size + (8 + fields)) ⊎ (2 ^ 32 - 1 ≤ plan.last.count)) → 0 < plan.last.count → new.full.items ≡ plan.full.items ++ plan.last ∷ []
      → new.limit ≡ plan.limit → pair.0 ≡ new.last.start → new.last.count ≡ 1 → new.size ≡ AROUND + (8 + fields) → IsPlanned limit new (seen ++ pair ∷ [])
  began_next new over some items of_limit start one size =
      let full = is.full ++ is.last ∷ [] in
      let whole = is.whole ∙ sym (joined_snoc is.full is.last) in
      let are = subst (λ (z : List Stretch). AreStretches z full) (sym items) (stretches_snoc plan.full.items is.full plan.last is.last is.full_are is.last_is) in
      let count : length new.full.items ≡ length plan.full.items + 1 = ap (λ (z : List Stretch). length z) items ∙ length-append plan.full.items (plan.last ∷ []) in
      let longer : (version : ℕ) → plan.size + (8 + fields) ≡ size_of version (is.last ++ pair ∷ []) = λ version. omega (arith, is.size version, size_more version is.last pair fields (same version)) in
      let last_full : IsFull limit is.last pair = record {
        some = omega (arith, some, is.last_is.count);
        over = elim (over some) as (λ _. (2 ^ 32 ≤ length is.last + 1) ⊎ ((version : ℕ) → limit < size_of version (is.last ++ pair ∷ []))) [
          | inl bytes ↦ inr (λ version. omega (arith, bytes, is.limit_is, longer version))
          | inr pairs ↦ inl (omega (arith, pairs, is.last_is.count))
        ];
      } in
      let full_to = full_snoc limit is.full is.last pair is.full_to last_full in
      elim (cases_lt (length new.full.items) MOST_PARTS) as (λ _. IsPlanned limit new (seen ++ pair ∷ [])) [
        | inl fewer ↦ inl (began new full whole are full_to fewer (all_append (LiesWithin limit) is.full (is.last ∷ []) is.full_within (is.last_within, tt)) of_limit start one size)
        | inr many ↦ inr (record {
          many = many;
          needs = λ more version parts some fits same.
              let all = fewest limit version full (pair ∷ more) [] parts (omega arith) (full_longer limit full (pair ∷ []) more full_to) fits (same ∙ ap (λ (z : List Pair). z ++ more) (ap (λ (z : List Pair). z ++ pair ∷ []) whole) ∙ append_assoc (joined full) (pair ∷ []) more) in
              omega (arith, all, many, count, lengths_of new.full.items full are);
        })
      ]

  -- the first part begins
  pub began_first : (new : Planning) → new.full.items ≡ plan.full.items → plan.last.count ≡ 0
      → new.limit ≡ plan.limit → pair.0 ≡ new.last.start → new.last.count ≡ 1 → new.size ≡ AROUND + (8 + fields) → IsPlanned limit new (seen ++ pair ∷ [])
  began_first new items none of_limit start one size =
      let empty : is.last ≡ [] = nil_from_length is.last (omega (arith, none, is.last_is.count)) in
      let whole = is.whole ∙ ap (λ (z : List Pair). joined is.full ++ z) empty ∙ append-nil (joined is.full) in
      let are = subst (λ (z : List Stretch). AreStretches z is.full) (sym items) is.full_are in
      let fewer : length new.full.items < MOST_PARTS = omega (arith, is.few, ap (λ (z : List Stretch). length z) items) in
      let none_full : is.full ≡ [] = full_none limit is.full (subst (AreFull limit is.full) empty is.full_to) in
      let full_to = subst (λ (z : List (List Pair)). AreFull limit z (pair ∷ [])) (sym none_full) tt in
      inl (began new is.full whole are full_to fewer is.full_within of_limit start one size)

-- ---- plans with too many parts

-- without too many parts it is a plan
pub only_plan : (limit : ℕ) (seen : List Pair) (plan : Planning) → IsPlanned limit plan seen → (MOST_PARTS ≤ length plan.full.items → false ≡ true) → IsPlan limit plan seen
only_plan limit seen plan (inl is) not = is
only_plan limit seen plan (inr over) not = absurd (false≢true (not over.many))

-- with too many, there is no way with few enough
pub only_over : (limit : ℕ) (seen : List Pair) (plan : Planning) → IsPlanned limit plan seen → MOST_PARTS ≤ length plan.full.items → HasAtLeast limit seen (MOST_PARTS + 1)
only_over limit seen plan (inl is) many = absurd (omega (arith, is.few, many))
only_over limit seen plan (inr over) many = subst (λ (z : List Pair). HasAtLeast limit z (MOST_PARTS + 1)) (append-nil seen) (over.needs [])

-- and none with more pairs
pub still_over : (limit : ℕ) (plan : Planning) (seen pairs : List Pair) → MOST_PARTS ≤ length plan.full.items → IsPlanned limit plan seen → IsPlanned limit plan (seen ++ pairs)
still_over limit plan seen pairs many (inl is) = absurd (omega (arith, is.few, many))
still_over limit plan seen pairs many (inr over) = inr (record {
  many = many;
  needs = λ more. subst (λ (z : List Pair). HasAtLeast limit z (MOST_PARTS + 1)) (sym (append_assoc seen pairs more)) (over.needs (pairs ++ more));
})

-- ---- the pairs of a stretch

-- no pair above a key is left out
all_from : (start : List ℕ) (walk : List Pair) → AllByRecursion (λ pair. IsBelow start pair.0) walk → from start walk ≡ walk
all_from start [] above = refl
all_from start (pair ∷ walk) above = rw (false_from_ne_true (is_lt (slice_cmp nat_cmp pair.0 start)) (not_both start pair.0 above.0)) (ap (λ z. pair ∷ z) (all_from start walk above.1))

-- at or after the key of a pair are the pair and what follows it
from_pair : (before : List Pair) (pair : Pair) (walk : List Pair) → KeysRise (before ++ pair ∷ walk) → from pair.0 (before ++ pair ∷ walk) ≡ pair ∷ walk
from_pair [] pair walk rise = rw (false_from_ne_true (is_lt (slice_cmp nat_cmp pair.0 pair.0)) (not_itself pair.0)) (ap (λ z. pair ∷ z) (all_from pair.0 walk rise.0))
from_pair (other ∷ before) pair walk rise =
    let less : is_lt (slice_cmp nat_cmp other.0 pair.0) ≡ true = (all_back (λ z. IsBelow other.0 z.0) before (pair ∷ walk) rise.0).0 in
    rw less (from_pair before pair walk rise.1)

-- a stretch of a rising walk has its pairs
one_within : (before pairs after : List Pair) (stretch : Stretch) → KeysRise (before ++ (pairs ++ after)) → IsStretch stretch pairs → within (before ++ (pairs ++ after)) stretch ≡ pairs
one_within before [] after stretch rise is = ap (λ (n : ℕ). take n (from stretch.start (before ++ after))) is.count
one_within before (pair ∷ pairs) after stretch rise is =
    (λ i. take (is.count i) (from (sym is.start i) (before ++ ((pair ∷ pairs) ++ after))))
    ∙ ap (take (length (pair ∷ pairs))) (from_pair before pair (pairs ++ after) rise)
    ∙ take-append_seam (pair ∷ pairs) after

all_within : (walk before : List Pair) (stretches : List Stretch) (lists : List (List Pair)) → KeysRise walk → walk ≡ before ++ joined lists → AreStretches stretches lists → map (within walk) stretches ≡ lists
all_within walk before [] [] rise split are = refl
all_within walk before [] (list ∷ lists) rise split are = absurd are
all_within walk before (stretch ∷ stretches) [] rise split are = absurd are
all_within walk before (stretch ∷ stretches) (list ∷ lists) rise split are =
    let first = ap (λ (z : List Pair). within z stretch) split ∙ one_within before list (joined lists) stretch (subst KeysRise split rise) are.0 in
    let rest = all_within walk (before ++ list) stretches lists rise (split ∙ sym (append_assoc before list (joined lists))) are.1 in
    λ i. first i ∷ rest i

-- ---- the parts of a whole walk

-- few pairs are in each list that a stretch counts
few_in_each : (stretches : List Stretch) (lists : List (List Pair)) → AreStretches stretches lists → AllByRecursion (λ part. length part < 2 ^ 32) lists
few_in_each [] [] are = tt
few_in_each [] (list ∷ lists) are = absurd are
few_in_each (stretch ∷ stretches) [] are = absurd are
few_in_each (stretch ∷ stretches) (list ∷ lists) are = (omega (arith, are.0.count, are.0.fits), few_in_each stretches lists are.1)

-- a plan without pairs
pub begun : (limit : ℕ) (plan : Planning) → plan.full.items ≡ [] → plan.last.count ≡ 0 → plan.size ≡ AROUND → plan.limit ≡ limit → IsPlan limit plan []
begun limit plan empty none size of_limit = record {
  full = [];
  last = [];
  whole = refl;
  full_are = subst (λ (z : List Stretch). AreStretches z []) (sym empty) tt;
  full_to = tt;
  last_is = record { start = tt; count = none; fits = omega (arith, none) };
  few = omega (arith, ap (λ (z : List Stretch). length z) empty);
  limit_is = of_limit;
  full_within = tt;
  last_within = λ version. inl (omega arith);
  size = λ version. size;
}

-- the parts of a plan of the whole walk make it up
pub made_up : (limit : ℕ) (walk : List Pair) (plan : Planning) (stretches : List Stretch) → KeysRise walk → IsPlan limit plan walk → stretches ≡ plan.full.items ++ plan.last ∷ [] → MakeUp limit walk stretches
made_up limit walk plan stretches rise is same =
    let lists = is.full ++ is.last ∷ [] in
    let whole = is.whole ∙ sym (joined_snoc is.full is.last) in
    let are = subst (λ (z : List Stretch). AreStretches z lists) (sym same) (stretches_snoc plan.full.items is.full plan.last is.last is.full_are is.last_is) in
    let parts = all_within walk [] stretches lists rise whole are in
    let count = ap (λ (z : List Stretch). length z) same ∙ length-append plan.full.items (plan.last ∷ []) in
    record {
      whole = ap joined parts ∙ sym whole;
      some = omega (arith, count);
      few = omega (arith, count, is.few);
      counts = subst (AllByRecursion (λ part. length part < 2 ^ 32)) (sym parts) (few_in_each stretches lists are);
      within = subst (AllByRecursion (LiesWithin limit)) (sym parts) (all_append (LiesWithin limit) is.full (is.last ∷ []) is.full_within (is.last_within, tt));
      fewest = λ version others some fits same.
          let least = least_parts limit version is.full is.last others is.full_to some fits (same ∙ is.whole) in
          omega (arith, least, count, lengths_of plan.full.items is.full is.full_are);
    }

-- ---- other checkpoints of the pairs

may_be : (version limit : ℕ) (parts : List (List Pair)) → AllByRecursion (λ part. length part < 2 ^ 32) parts
    → ((i : ℕ) → IsWithin version limit (get_or parts i [])) → AllByRecursion (MayBePart version limit) parts
may_be version limit [] counts each = tt
may_be version limit (part ∷ parts) counts each = ((counts.0, each 0), may_be version limit parts counts.1 (λ i. each (suc i)))

part_length : (checkpoint : Checkpoint) (part : ℕ) → length (part_text checkpoint part) ≡ size_of checkpoint.version (pairs_of checkpoint part)
part_length checkpoint part =
    let head = part_head_bytes (head_of_part checkpoint part) in
    let text = entries_text checkpoint.version (pairs_of checkpoint part) in
    let footer = footer_bytes checkpoint.cutoff (length (entries_with checkpoint.version (pairs_of checkpoint part))) in
    omega (arith, length-append head (text ++ footer), length-append text footer)

-- what holds however the pairs are divided holds for each checkpoint
pub needs_parts : (limit : ℕ) (pairs : List Pair) (least : ℕ) → HasAtLeast limit pairs least → NeedsParts limit pairs least
needs_parts limit pairs least has other is = has other.version other.parts is.some (may_be other.version limit other.parts is.counts each) is.whole
  where
    each : (i : ℕ) → IsWithin other.version limit (pairs_of other i)
    each i = elim (is.within i) as (λ _. IsWithin other.version limit (pairs_of other i)) [
      | inl single ↦ inl single
      | inr room ↦ inr (omega (arith, room, part_length other i))
    ]

-- so no checkpoint has the pairs if they cannot be divided
pub no_plan : (limit cutoff version : ℕ) (pairs : List Pair) (fault : PlanFault) → cutoff ≢ 2 ^ 64 - 1 → version ≢ 2 ^ 64 - 1 → IsDivisionFault limit pairs fault → IsPlanFault limit cutoff version pairs fault
no_plan limit cutoff version pairs Timestamp time newest is = absurd is
no_plan limit cutoff version pairs Version time newest is = absurd is
no_plan limit cutoff version pairs Parts time newest is = (time, newest, needs_parts limit pairs (MOST_PARTS + 1) is)
no_plan limit cutoff version pairs Memory time newest is = (time, newest)
