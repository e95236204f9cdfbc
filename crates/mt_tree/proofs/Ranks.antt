-- Keys are in the order of their places. Keys that share a place are in the order of their rests.
use Rattle.std.proofs.Common.{◌≡◌, ℕ, ◌+◌, ◌*◌, ◌<◌, ◌≤◌, min, true, false, List, length, take, drop, Ordering, sym, refl, ap, ◌∙◌, inl, inr, ◌⊎◌, arith}
use Rattle.std.specs.declared.cmp.Ordering.TheVariants.{Less, Equal, Greater}
use Rattle.std.specs.Ordering.{nat_cmp, ordering_then, MatchOrdering, is_lt}
use Rattle.std.specs.Cmp.Lexicographic.{slice_cmp}
use Rattle.std.proofs.lemmas.Cmp.{ranked}
use Rattle.std.proofs.lemmas.List.{drop_all}
use Rattle.std.proofs.lemmas.Bool.{cases_lt}
use Rattle.mt_words.specs.Slices.{AreBytes, slice_in}
use Rattle.mt_words.specs.Words.{IsBelow}
use Rattle.mt_words.proofs.SliceBytes.{by_ranks}
use Rattle.mt_tree.specs.Steps.Pairs.{key_rank}

-- two keys have one rank, are longer than 8 bytes, and their rests decide
pub record IsBelowAt (x y : List ℕ) : Type 0 where
  pub same_rank : key_rank x ≡ key_rank y
  pub long : 8 < length x
  pub rests : IsBelow (drop 8 x) (drop 8 y)

abbrev Decided : (f g m n : ℕ) (rest : Ordering) → Type 0
Decided f g m n rest = (f * 10 + m < g * 10 + n) ⊎ ((f ≡ g) × (m ≡ n) × (is_lt rest ≡ true))

decide : (f g m n : ℕ) (rest : Ordering) → m ≤ 9 → n ≤ 9 → is_lt (ordering_then (nat_cmp f g) (ordering_then (nat_cmp m n) rest)) ≡ true → Decided f g m n rest
decide f g m n rest a b less = by (nat_cmp f g) (nat_cmp m n) (ranked f g _ refl) (ranked m n _ refl) less
  where
    by : (r q : Ordering) → MatchOrdering r (f < g) (f ≡ g) (g < f) → MatchOrdering q (m < n) (m ≡ n) (n < m) → is_lt (ordering_then r (ordering_then q rest)) ≡ true → (f * 10 + m < g * 10 + n) ⊎ ((f ≡ g) × (m ≡ n) × (is_lt rest ≡ true))
    by Less q h k e = let low : f < g = h in inl (omega arith)
    by Equal Less h k e = let same : f ≡ g = h in let low : m < n = k in inl (omega arith)
    by Equal Equal h k e = inr (h, k, e)
    by Equal Greater h k e = cc
    by Greater q h k e = cc

-- a key below another has a lower rank, or both are long and of one slice, and the rests decide
pub ranks_of_less : (x y : List ℕ) → AreBytes (take 8 x) → AreBytes (take 8 y) → IsBelow x y → (key_rank x < key_rank y) ⊎ IsBelowAt x y
ranks_of_less x y p q less =
    by (decide (slice_in x) (slice_in y) (min (length x) 9) (min (length y) 9) (slice_cmp nat_cmp (drop 8 x) (drop 8 y)) (omega arith) (omega arith) (ap is_lt (sym (by_ranks x y p q)) ∙ less))
  where
    short : length x ≤ 8 → length y ≤ 8 → IsBelow (drop 8 x) (drop 8 y) → 8 < length x
    short a b e = let same : slice_cmp nat_cmp (drop 8 x) (drop 8 y) ≡ Equal = (λ i. slice_cmp nat_cmp (drop_all 8 x a i) (drop_all 8 y b i)) in let never : is_lt (slice_cmp nat_cmp (drop 8 x) (drop 8 y)) ≡ false = ap is_lt same in cc

    long : (min (length x) 9 ≡ min (length y) 9) → IsBelow (drop 8 x) (drop 8 y) → (8 < length x) ⊎ (length x ≤ 8) → 8 < length x
    long m e (inl a) = a
    long m e (inr a) = short a (omega arith) e

    by : Decided (slice_in x) (slice_in y) (min (length x) 9) (min (length y) 9) (slice_cmp nat_cmp (drop 8 x) (drop 8 y)) → (key_rank x < key_rank y) ⊎ IsBelowAt x y
    by (inl h) = inl h
    by (inr h) =
        let f : slice_in x ≡ slice_in y = h.0 in
        let m : min (length x) 9 ≡ min (length y) 9 = h.1 in
        inr (record { same_rank = omega arith; long = long m h.2 (cases_lt 8 (length x)); rests = h.2 })

-- a key with a lower rank than another is below it
pub less_of_ranks : (x y : List ℕ) → AreBytes (take 8 x) → AreBytes (take 8 y) → key_rank x < key_rank y → IsBelow x y
less_of_ranks x y p q low = ap is_lt (by_ranks x y p q) ∙ by (nat_cmp (slice_in x) (slice_in y)) (nat_cmp (min (length x) 9) (min (length y) 9)) (ranked (slice_in x) (slice_in y) _ refl) (ranked (min (length x) 9) (min (length y) 9) _ refl)
  where
    by : (r q : Ordering) → MatchOrdering r (slice_in x < slice_in y) (slice_in x ≡ slice_in y) (slice_in y < slice_in x) → MatchOrdering q (min (length x) 9 < min (length y) 9) (min (length x) 9 ≡ min (length y) 9) (min (length y) 9 < min (length x) 9) → is_lt (ordering_then r (ordering_then q (slice_cmp nat_cmp (drop 8 x) (drop 8 y)))) ≡ true
    by Less q h k = refl
    by Equal Less h k = refl
    by Equal Equal h k = let same : slice_in x ≡ slice_in y = h in let even : min (length x) 9 ≡ min (length y) 9 = k in absurd (omega arith)
    by Equal Greater h k = let same : slice_in x ≡ slice_in y = h in let over : min (length y) 9 < min (length x) 9 = k in absurd (omega arith)
    by Greater q h k = let over : slice_in y < slice_in x = h in absurd (omega arith)
