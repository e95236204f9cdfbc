-- A walk to the pair at some position.
use Rattle.std.proofs.Common.{◌≡◌, ℕ, zero, suc, ◌+◌, ◌-◌, ◌*◌, ◌/◌, ◌%◌, ◌<◌, ◌≤◌, true, true≢false, Option, Some, None, List, [], ◌∷◌, ◌++◌, length, refl, sym, ap, ◌∙◌, subst, arith, length-append}
use Rattle.std.specs.Prelude.{min, MatchOption}
use Rattle.std.specs.Option.{is_some}
use Rattle.std.proofs.Math.Nat.{div-add-mod, mul-le-mul_right, min-le_right, le-min, one-le-mul}
use Rattle.arrayvec.specs.ArrayVec.{ArrayVec}
use Rattle.mt_words.specs.Walks.{Pair, KeysRise}
use Rattle.mt_tree.specs.Trees.{IsCount}
use Rattle.mt_c.specs.declared.seeking.Seeking.{Seeking}
use Rattle.mt_c.specs.Cuts.{key_at, pairs_before, BeginsRange}
use Rattle.mt_c.specs.Seeking.{Sought, IsSeeking, HaveSought}
use Rattle.mt_c.proofs.Cuts.{at_length, at_before, none_at, past_all, begins_empty, begins_after}

-- ---- one pair more

-- once the key is there, further pairs change nothing
pub stays : (seeking : Seeking) (pairs : List Pair) → is_some seeking.key ≡ true → HaveSought seeking seeking pairs
stays seeking pairs is n earlier was = by seeking.key is was
  where
    by : (key : Option (ArrayVec ℕ)) → is_some key ≡ true → Sought n seeking.left key earlier → Sought n seeking.left key (earlier ++ pairs)
    by None is was = absurd (true≢false (sym is))
    by (Some key) is was = at_before earlier pairs n key.items was

-- a pair before it is counted
pub counts : (old new : Seeking) (pair : Pair) → old.key ≡ None → new.key ≡ None → 0 < old.left → new.left ≡ old.left - 1 → HaveSought old new (pair ∷ [])
counts old new pair none still more less n earlier was =
    let is : old.left + length earlier ≡ n = subst (λ (key : Option (ArrayVec ℕ)). Sought n old.left key earlier) none was in
    subst (λ (key : Option (ArrayVec ℕ)). Sought n new.left key (earlier ++ pair ∷ [])) (sym still) (omega (arith, is, less, more, length-append earlier (pair ∷ [])))

-- its own key is kept
pub finds : (old new : Seeking) (pair : Pair) (key : ArrayVec ℕ) → old.key ≡ None → old.left ≡ 0 → new.key ≡ Some key → key.items ≡ pair.0 → HaveSought old new (pair ∷ [])
finds old new pair key none here found same n earlier was =
    let is : old.left + length earlier ≡ n = subst (λ (key : Option (ArrayVec ℕ)). Sought n old.left key earlier) none was in
    let at : length earlier ≡ n = omega (arith, is, here) in
    subst (λ (k : Option (ArrayVec ℕ)). Sought n new.left k (earlier ++ pair ∷ [])) (sym found)
    (subst (λ (m : ℕ). key_at (earlier ++ pair ∷ []) m ≡ Some key.items) at (at_length earlier pair ∙ ap Some (sym same)))

-- ---- after the walk
pub looked : (n : ℕ) (seeking : Seeking) (pairs : List Pair) → IsSeeking n seeking pairs → MatchOption seeking.key (key_at pairs n ≡ None) (λ key. key_at pairs n ≡ Some key.items)
looked n seeking pairs is = by seeking.key is
  where
    by : (key : Option (ArrayVec ℕ)) → Sought n seeking.left key pairs → MatchOption key (key_at pairs n ≡ None) (λ found. key_at pairs n ≡ Some found.items)
    by None is = past_all pairs n (omega (arith, is))
    by (Some key) is = is

-- ---- how many pairs come before a range
whole : (count n : ℕ) → n * (count / n) + count % n ≡ count
whole count n = div-add-mod count n

pub product_within : (count i n : ℕ) → i < n → i * (count / n) ≤ count
product_within count i n below =
    let less : i * (count / n) ≤ n * (count / n) = mul-le-mul_right (count / n) (omega (arith, below)) in
    omega (arith, less, whole count n)

pub before_within : (count i n : ℕ) → i < n → pairs_before count i n ≤ count
before_within count i n below =
    let less : i * (count / n) ≤ n * (count / n) = mul-le-mul_right (count / n) (omega (arith, below)) in
    omega (arith, less, whole count n, min-le_right i (count % n))

pub before_some : (count i n : ℕ) → 0 < i → 0 < count → i < n → 0 < pairs_before count i n
before_some count i n some has below = by (count / n) refl
  where
    by : (q : ℕ) → count / n ≡ q → 0 < i * (count / n) + min i (count % n)
    by zero e =
        let nothing : n * (count / n) ≡ 0 = ap (λ (q : ℕ). n * q) e ∙ omega arith in
        let rest : 0 < count % n = omega (arith, whole count n, nothing, has) in
        let least : 1 ≤ min i (count % n) = le-min (omega (arith, some)) (omega (arith, rest)) in
        omega (arith, least)
    by (suc q) e =
        let one : 1 ≤ count / n = omega (arith, e) in
        let product : 1 ≤ i * (count / n) = one-le-mul (omega (arith, some)) one in
        omega (arith, product)

-- ---- where a range begins

module _ (pairs : List Pair) (count i n at : ℕ) (cut : List ℕ) (rise : KeysRise pairs) (counted : IsCount pairs count) (some : 0 < i) (one : i < n) (is_at : at ≡ pairs_before count i n - 1) where
  begins_none : key_at pairs at ≡ None → count ≡ 0
  begins_none none = by count refl
    where
      by : (c : ℕ) → count ≡ c → count ≡ 0
      by zero e = e
      by (suc c) e =
          let more = before_some count i n some (omega (arith, e)) one in
          absurd (omega (arith, counted, e, is_at, before_within count i n one, more, none_at pairs at none))

  -- at any key, if no pair comes before it
  pub begins_without : key_at pairs at ≡ None → cut ≡ 0 ∷ [] → BeginsRange pairs i n cut
  begins_without none is_cut = subst (BeginsRange pairs i n) (sym is_cut) (begins_empty pairs count i n counted some (begins_none none))

  has_pairs : (key : List ℕ) → key_at pairs at ≡ Some key → 0 < count
  has_pairs key has = omega (arith, counted, within pairs at key has)
    where
      within : (ps : List Pair) (m : ℕ) (k : List ℕ) → key_at ps m ≡ Some k → 0 < length ps
      within [] m k is = cc
      within (pair ∷ ps) m k is = omega arith

  -- at the least key above that of the last pair before it
  pub begins_past : (key : List ℕ) → key_at pairs at ≡ Some key → cut ≡ key ++ 0 ∷ [] → BeginsRange pairs i n cut
  begins_past key has is_cut =
      let more = before_some count i n some (has_pairs key has) one in
      subst (BeginsRange pairs i n) (sym is_cut) (begins_after pairs count i n key rise counted some more (subst (λ (m : ℕ). key_at pairs m ≡ Some key) is_at has))
