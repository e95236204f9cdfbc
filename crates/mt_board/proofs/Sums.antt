-- Sums and least numbers over a list in which one element changes.
use Rattle.std.proofs.Common.{◌≡◌, ℕ, zero, suc, ◌+◌, ◌<◌, ◌≤◌, ◌≢◌, List, [], ◌∷◌, ◌++◌, map, length, get_or, set, sym, ap, ◌∙◌, arith, min, eqb, cond}
use Rattle.std.specs.List.{sum_by}
use Rattle.std.proofs.lemmas.List.Sums.{sum_by-cons, sum_by_push, sum_by-append}
use Rattle.std.proofs.lemmas.Bool.Decides.{nat_tests}
use mathlib.Core.Option.{some, some-injective, some-ne-none}
use lib.ListN.{get_elem?}
use Rattle.atomic_table.proofs.Lists.{set_else, set_here}
use Rattle.mt_board.specs.Board.{times, once_below, least_of, nothing_noted}

module _ {X : Type 0} where
  pub at_short : (l : List X) (i : ℕ) (v : X) → get_elem? l i ≡ some v → i < length l
  at_short [] i v e = absurd (some-ne-none v (sym e))
  at_short (x ∷ xs) zero v e = omega arith
  at_short (x ∷ xs) (suc i) v e = omega (arith, at_short xs i v e)

module _ {X : Type 0} (f : X → ℕ) where
  pub sum_set : (l : List X) (i : ℕ) (v w : X) → get_elem? l i ≡ some v → sum_by f (set l i w) + f v ≡ sum_by f l + f w
  sum_set [] i v w e = absurd (some-ne-none v (sym e))
  sum_set (x ∷ xs) zero v w e = let is : f x ≡ f v = ap f (some-injective x v e) in omega (arith, sum_by-cons f x xs, sum_by-cons f w xs)
  sum_set (x ∷ xs) (suc i) v w e = omega (arith, sum_set xs i v w e, sum_by-cons f x xs, sum_by-cons f x (set xs i w))

  pub sum_at : (l : List X) (i : ℕ) (v : X) → get_elem? l i ≡ some v → f v ≤ sum_by f l
  sum_at [] i v e = absurd (some-ne-none v (sym e))
  sum_at (x ∷ xs) zero v e = let is : f x ≡ f v = ap f (some-injective x v e) in omega (arith, sum_by-cons f x xs)
  sum_at (x ∷ xs) (suc i) v e = omega (arith, sum_at xs i v e, sum_by-cons f x xs)

  -- the sum stays the same if one element takes the values of two and the other becomes zero
  pub sum_join : (l : List X) (i j : ℕ) (v w both spent : X) → get_elem? l i ≡ some v → get_elem? (set l i both) j ≡ some w → f both ≡ f v + f w → f spent ≡ 0
      → sum_by f (set (set l i both) j spent) ≡ sum_by f l
  sum_join l i j v w both spent at there sum none = omega (arith, sum_set l i v both at, sum_set (set l i both) j w spent there)

  -- the least of all values of f and the greatest u64
  abbrev pub least_by : List X → ℕ
  least_by l = least_of (map f l)

  pub least_small : (l : List X) → least_by l ≤ nothing_noted
  least_small [] = omega arith
  least_small (x ∷ xs) = omega (arith, least_small xs)

  pub least_at : (l : List X) (i : ℕ) (v : X) → get_elem? l i ≡ some v → least_by l ≤ f v
  least_at [] i v e = absurd (some-ne-none v (sym e))
  least_at (x ∷ xs) zero v e = let is : f x ≡ f v = ap f (some-injective x v e) in omega arith
  least_at (x ∷ xs) (suc i) v e = omega (arith, least_at xs i v e)

  least_swap : (l : List X) (i : ℕ) (v w : X) → get_elem? l i ≡ some v → min (least_by (set l i w)) (f v) ≡ min (least_by l) (f w)
  least_swap [] i v w e = absurd (some-ne-none v (sym e))
  least_swap (x ∷ xs) zero v w e = let is : f x ≡ f v = ap f (some-injective x v e) in omega arith
  least_swap (x ∷ xs) (suc i) v w e = omega (arith, least_swap xs i v w e)

  -- the least value after one element becomes the lesser of itself and n
  pub least_set : (l : List X) (i : ℕ) (v w : X) (n : ℕ) → get_elem? l i ≡ some v → f w ≡ min (f v) n → least_by (set l i w) ≡ min (least_by l) n
  least_set l i v w n e is = omega (arith, least_swap l i v w e, least_at l i v e, least_at (set l i w) i w (set_here l i w (at_short l i v e)))

  pub least_same : (l : List X) (i : ℕ) (v w : X) → get_elem? l i ≡ some v → f w ≡ f v → least_by (set l i w) ≡ least_by l
  least_same l i v w e is = omega (arith, least_swap l i v w e, least_at l i v e, least_at (set l i w) i w (set_here l i w (at_short l i v e)))

  pub least_snoc : (l : List X) (v : X) → f v ≡ nothing_noted → least_by (l ++ v ∷ []) ≡ least_by l
  least_snoc [] v e = omega arith
  least_snoc (x ∷ xs) v e = omega (arith, least_snoc xs v e)

  pub least_join : (l : List X) (i j : ℕ) (v w both spent : X) → get_elem? l i ≡ some v → j ≢ i → get_elem? (set l i both) j ≡ some w → f both ≡ min (f v) (f w) → f spent ≡ nothing_noted
      → least_by (set (set l i both) j spent) ≡ least_by l
  least_join l i j v w both spent at apart there is none =
      let m : List X = set l i both in
      let here : get_elem? m i ≡ some both = set_here l i both (at_short l i v at) in
      let there' : get_elem? l j ≡ some w = sym (set_else l i j both apart) ∙ there in
      let still : get_elem? (set m j spent) i ≡ some both = set_else m j i spent (λ e. apart (sym e)) ∙ here in
      omega (arith, least_swap l i v both at, least_swap m j w spent there, least_at l i v at, least_at l j w there', least_at m i both here, least_at (set m j spent) i both still, least_small m)

pub times_push : (x : ℕ) (xs : List ℕ) (n : ℕ) → times x (xs ++ n ∷ []) ≡ times x xs + cond (eqb n x) 1 0
times_push x xs n = sum_by_push (λ y. cond (eqb y x) 1 0) xs n

pub itself : (x : ℕ) → 1 ≤ cond (eqb x x) 1 0
itself x = grind (arith, nat_tests)

-- an element occurs in its list
pub times_at : (xs : List ℕ) (i d : ℕ) → i < length xs → 0 < times (get_or xs i d) xs
times_at [] i d h = absurd (omega arith)
times_at (y ∷ ys) zero d h = omega (arith, sum_by-cons (λ z. cond (eqb z y) 1 0) y ys, itself y)
times_at (y ∷ ys) (suc i) d h = omega (arith, times_at ys i d (omega arith), sum_by-cons (λ z. cond (eqb z (get_or ys i d)) 1 0) y ys)

pub times_append : (x : ℕ) (xs ys : List ℕ) → times x (xs ++ ys) ≡ times x xs + times x ys
times_append x xs ys = sum_by-append (λ y. cond (eqb y x) 1 0) xs ys

pub once_more : (x n total : ℕ) → n < total → once_below x (min n total) + cond (eqb n x) 1 0 ≡ once_below x (min (n + 1) total)
once_more x n total lt = grind (arith, nat_tests)

pub below_once : (x n total : ℕ) → 0 < once_below x (min n total) → x < n
below_once x n total some_draw = grind (arith, nat_tests)

pub once_full : (x n total : ℕ) → total ≤ n → once_below x (min n total) ≡ once_below x total
once_full x n total le = grind (arith, nat_tests)
