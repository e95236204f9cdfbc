-- Ranges between keys that cut rising pairs, one after the other, are all pairs.
use Rattle.std.proofs.Common.{◌≡◌, ℕ, zero, suc, ◌-◌, ◌/◌, ◌%◌, ◌<◌, ◌≤◌, Bool, true, false, List, [], ◌∷◌, ◌++◌, take, drop, refl, sym, ap, ◌∙◌, arith, drop-drop}
use Rattle.std.specs.Prelude.{min}
use Rattle.std.specs.Ordering.{nat_cmp, is_lt}
use Rattle.std.specs.Cmp.Lexicographic.{slice_cmp}
use Rattle.std.proofs.Math.Nat.{suc-mul, min-le_left, min-le_right, le-min}
use Rattle.mt_words.specs.Walks.{Pair, KeysRise, IsMap}
use Rattle.mt_tree.specs.Range.{from}
use Rattle.mt_tree.specs.Trees.{IsCount}
use Rattle.mt_c.specs.Cuts.{is_until, until, between, pairs_before, BeginsRange, BeginRanges, each_range}
use Rattle.mt_c.proofs.Cuts.{until_none, none_until, one_until}

next_same : {x y : Pair} {v w : List Pair} → x ∷ v ≡ y ∷ w → v ≡ w
next_same e = cc

not_next : {x : Pair} {v : List Pair} → [] ≡ x ∷ v → ⊥
not_next e = cc

-- of rising pairs whose first q are below the end, those after the first p
until_after : (end : List ℕ) (p q : ℕ) (pairs : List Pair) → KeysRise pairs → p ≤ q → until end pairs ≡ take q pairs → until end (drop p pairs) ≡ take (q - p) (drop p pairs)
until_after end zero q pairs rise within is = is ∙ ap (λ (m : ℕ). take m pairs) (omega arith)
until_after end (suc p) q [] rise within is = sym (none (q - suc p))
  where
    none : (m : ℕ) → take m (let ps : List Pair = [] in ps) ≡ []
    none zero = refl
    none (suc m) = refl
until_after end (suc p) zero (pair ∷ pairs) rise within is = absurd (omega (arith, within))
until_after end (suc p) (suc q) (pair ∷ pairs) rise within is =
    by (until_after end p q pairs rise.1 (omega (arith, within))) (is_until end pair.0) refl ∙ ap (λ (m : ℕ). take m (drop p pairs)) (omega arith)
  where
    by : (until end pairs ≡ take q pairs → until end (drop p pairs) ≡ take (q - p) (drop p pairs)) → (b : Bool) → is_until end pair.0 ≡ b → until end (drop p pairs) ≡ take (q - p) (drop p pairs)
    by tail true e = tail (next_same (sym (one_until end pair pairs e) ∙ is))
    by tail false e = absurd (not_next (sym (none_until end pair pairs rise e) ∙ is))

take_and_drop : (n : ℕ) (pairs : List Pair) → take n pairs ++ drop n pairs ≡ pairs
take_and_drop zero pairs = refl
take_and_drop (suc n) [] = refl
take_and_drop (suc n) (pair ∷ pairs) = ap (λ (ps : List Pair). pair ∷ ps) (take_and_drop n pairs)

before_rises : (count i n : ℕ) → pairs_before count i n ≤ pairs_before count (suc i) n
before_rises count i n =
    let product = suc-mul i (count / n) in
    let least : min i (count % n) ≤ min (suc i) (count % n) = le-min (omega (arith, min-le_left i (count % n))) (min-le_right i (count % n)) in
    omega (arith, product, least)

-- each key is at or after no bytes
never_less : (key : List ℕ) → is_lt (slice_cmp nat_cmp key []) ≡ false
never_less [] = refl
never_less (k ∷ key) = refl

from_empty : (pairs : List Pair) → from [] pairs ≡ pairs
from_empty [] = refl
from_empty (pair ∷ pairs) = rw (never_less pair.0) (ap (λ (ps : List Pair). pair ∷ ps) (from_empty pairs))

-- a range begins after the pairs before it
begins_at : (pairs : List Pair) (i n : ℕ) (key : List ℕ) (begins : BeginsRange pairs i n key) → from key pairs ≡ drop (pairs_before begins.count i n) pairs
begins_at pairs zero n key begins =
    let none : pairs_before begins.count 0 n ≡ 0 = omega (arith, min-le_left 0 (begins.count % n)) in
    ap (λ (k : List ℕ). from k pairs) (begins.first refl) ∙ from_empty pairs ∙ ap (λ (m : ℕ). drop m pairs) (sym none)
begins_at pairs (suc i) n key begins = (begins.other (omega arith)).others

same_count : (pairs : List Pair) (a b : ℕ) → IsCount pairs a → IsCount pairs b → a ≡ b
same_count pairs a b is was = is ∙ sym was

rest_of : (count i n : ℕ) (keys : List (List ℕ)) (pairs : List Pair) → KeysRise pairs → IsCount pairs count → i < n → BeginRanges pairs i n keys → each_range keys pairs ≡ drop (pairs_before count i n) pairs
rest_of count i n [] pairs rise counted below begin = absurd (omega (arith, below, begin))
rest_of count i n (key ∷ []) pairs rise counted below begin =
    let here = begin.1 in
    let at = begins_at pairs i n key here in
    until_none (from key pairs) ∙ at ∙ ap (λ (c : ℕ). drop (pairs_before c i n) pairs) (same_count pairs here.count count here.counted counted)
rest_of count i n (key ∷ next ∷ keys) pairs rise counted below begin =
    let here = begin.1 in
    let then = begin.2.1 in
    let p = pairs_before count i n in
    let q = pairs_before count (suc i) n in
    let at : from key pairs ≡ drop p pairs = begins_at pairs i n key here ∙ ap (λ (c : ℕ). drop (pairs_before c i n) pairs) (same_count pairs here.count count here.counted counted) in
    let cut = (then.other (omega arith)).below in
    let below_next : until next pairs ≡ take q pairs = cut ∙ ap (λ (c : ℕ). take (pairs_before c (suc i) n) pairs) (same_count pairs then.count count then.counted counted) in
    let within = before_rises count i n in
    let one : between key next pairs ≡ take (q - p) (drop p pairs) = ap (λ (ps : List Pair). until next ps) at ∙ until_after next p q pairs rise within below_next in
    let others : each_range (next ∷ keys) pairs ≡ drop q pairs = rest_of count (suc i) n (next ∷ keys) pairs rise counted begin.2.0 begin.2 in
    let after : drop q pairs ≡ drop (q - p) (drop p pairs) = sym (drop-drop (q - p) p pairs ∙ ap (λ (m : ℕ). drop m pairs) (omega (arith, within))) in
    (λ j. one j ++ (others ∙ after) j) ∙ take_and_drop (q - p) (drop p pairs)

pub ranges_join : (pairs : List Pair) (n : ℕ) (keys : List (List ℕ)) → IsMap pairs → 0 < n → BeginRanges pairs 0 n keys → each_range keys pairs ≡ pairs
ranges_join pairs n [] is some begin = absurd (omega (arith, some, begin))
ranges_join pairs n (key ∷ keys) is some begin =
    let count = begin.1.count in
    let none : pairs_before count 0 n ≡ 0 = omega (arith, min-le_left 0 (count % n)) in
    rest_of count 0 n (key ∷ keys) pairs is.0 begin.1.counted some begin ∙ ap (λ (m : ℕ). drop m pairs) none
