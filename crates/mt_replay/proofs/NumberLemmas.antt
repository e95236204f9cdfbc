-- Numbers with the head of a rest and a place: what they tell, and the updates at their places.
use Rattle.std.proofs.Common.{◌≡◌, ℕ, zero, suc, ◌+◌, ◌-◌, ◌*◌, ◌/◌, ◌%◌, ◌^◌, ◌<◌, ◌≤◌, List, [], ◌∷◌, ◌++◌, length, map, get_or, take, drop, refl, sym, ap, ◌∙◌, subst, arith}
use Rattle.std.specs.Prelude.{All, IsPermutation, Option, Some, None, slice_get}
use Rattle.std.specs.List.{range_with_len}
use Rattle.std.specs.List.Sorted.{IsSortedBy}
use Rattle.std.specs.Int.Bits.{bit_or}
use Rattle.std.proofs.lemmas.List.{map-append, take-map, drop-map, drop-drop, get_or-map, length-map, map-id, take_all, drop_all, take-append-drop}
use Rattle.std.proofs.lemmas.List.FromFn.{length-range_with_len, get_or-range_with_len, map-range_with_len_more}
use Rattle.std.proofs.lemmas.List.Sorted.{All-permutation, IsPermutation-map, IsPermutation-put_mid}
use Rattle.std.proofs.lemmas.Nat.{or_shifted}
use Rattle.std.proofs.Math.Nat.{div-mul-le_self, mod-eq_of_lt}
use Rattle.itertools.proofs.KMergeLemmas.{All-of-map}
use borrow.Rule.Slice.PartMut.{mid_of, put_mid}
use Rattle.std.proofs.lemmas.Grind.{common_steps}
use Rattle.mt_words.specs.declared.update.Update.{Update}
use Rattle.mt_replay.specs.Cuts.{is_below, InKeyOrder}
use Rattle.mt_replay.specs.Steps.Numbers.{AreAlike, places, in_turn, rest_at, rest_in, rest_of, rests, AreInOrder}
use Rattle.std.specs.Cmp.Lexicographic.{slice_cmp}
use Rattle.std.specs.Ordering.{nat_cmp, is_lt}
use Rattle.std.proofs.lemmas.Cmp.{nat_list_cmp_total, tied_itself}
use Rattle.std.proofs.lemmas.List.Elements.{All-get_or}
use Rattle.mt_words.proofs.SliceBytes.{slice_cmp-append}

-- lists that begin alike are in the order of what follows
past_shared : (n : ℕ) (x y : List ℕ) → take n x ≡ take n y → slice_cmp nat_cmp x y ≡ slice_cmp nat_cmp (drop n x) (drop n y)
past_shared n x y same =
    (λ i. slice_cmp nat_cmp (sym (take-append-drop n x) i) (sym (take-append-drop n y) i))
    ∙ ap (λ (p : List ℕ). slice_cmp nat_cmp (p ++ drop n x) (take n y ++ drop n y)) same
    ∙ slice_cmp-append (take n y) (drop n x) (drop n y)

-- rests that begin alike are in the order of what follows
pub from_deeper : (n : ℕ) (xs : List (List ℕ)) (shared : List ℕ) → All (λ rest. take n rest ≡ shared) xs → AreInOrder (map (drop n) xs) → AreInOrder xs
from_deeper n xs shared all sorted = λ k d low high.
    let P : List ℕ → Type 0 = λ rest. take n rest ≡ shared in
    let a = get_or xs (k + 1) d in
    let b = get_or xs k d in
    let same = All-get_or P xs (k + 1) d high all ∙ sym (All-get_or P xs k d (omega (arith, high)) all) in
    let there : (i : ℕ) → i < length xs → get_or (map (drop n) xs) i d ≡ drop n (get_or xs i d) = λ i within. get_or-map (drop n) xs i d d within in
    ap is_lt (past_shared n a b same ∙ (λ i. slice_cmp nat_cmp (sym (there (k + 1) high) i) (sym (there k (omega (arith, high))) i)))
    ∙ sorted k d low (omega (arith, high, length-map xs (drop n)))

-- rests that are alike are in order
pub alike_in_order : (xs : List (List ℕ)) (shared : List ℕ) → All (λ rest. rest ≡ shared) xs → AreInOrder xs
alike_in_order xs shared all = λ k d low high.
    let P : List ℕ → Type 0 = λ rest. rest ≡ shared in
    (λ i. is_below (All-get_or P xs (k + 1) d high all i) (All-get_or P xs k d (omega (arith, high)) all i)) ∙ ap is_lt (tied_itself nat_list_cmp_total shared)

-- a slice without its lowest bits, and a place in their stead
pub head_and_place : (slice place bits m : ℕ) → slice < m → place < 2 ^ bits → bit_or (slice / 2 ^ bits * 2 ^ bits % m) place ≡ slice / 2 ^ bits * 2 ^ bits + place
head_and_place slice place bits m fits low =
    let below : slice / 2 ^ bits * 2 ^ bits < m = omega (arith, fits, div-mul-le_self slice (2 ^ bits)) in
    ap (λ (n : ℕ). bit_or n place) (mod-eq_of_lt below) ∙ or_shifted (slice / 2 ^ bits) bits place low

-- a part is put into a list whose places are permuted in it
pub places_moved : (bits at n : ℕ) (xs run : List ℕ) → IsPermutation (places bits (mid_of at n xs)) (places bits run) → IsPermutation (places bits xs) (places bits (put_mid at n xs run))
places_moved bits at n xs run same =
    let place : ℕ → ℕ = λ number. number % 2 ^ bits in
    let mid : places bits (mid_of at n xs) ≡ mid_of at n (places bits xs) = sym (take-map place n (drop at xs)) ∙ ap (take n) (sym (drop-map place at xs)) in
    let put : places bits (put_mid at n xs run) ≡ put_mid at n (places bits xs) (places bits run) =
    map-append place (take at xs) (run ++ drop n (drop at xs))
    ∙ (λ i. sym (take-map place at xs) i ++ (map-append place run (drop n (drop at xs)) i))
    ∙ (λ i. take at (places bits xs) ++ (places bits run ++ (sym (drop-map place n (drop at xs)) ∙ ap (drop n) (sym (drop-map place at xs))) i)) in
    subst (IsPermutation (places bits xs)) (sym put) (IsPermutation-put_mid at n (places bits xs) (places bits run) (subst (λ (ms : List ℕ). IsPermutation ms (places bits run)) mid same))

-- ---- rests

module _ (bits : ℕ) (updates : List Update) (depth : ℕ) where
  of_places : (numbers : List ℕ) → map (rest_in updates depth) (places bits numbers) ≡ rests bits updates depth numbers
  of_places [] = refl
  of_places (n ∷ ns) = λ i. rest_of bits updates depth n ∷ of_places ns i

  -- the rests of numbers whose places are permuted are permuted
  pub rests_moved : (xs ys : List ℕ) → IsPermutation (places bits xs) (places bits ys) → IsPermutation (rests bits updates depth xs) (rests bits updates depth ys)
  rests_moved xs ys moved =
      subst (IsPermutation (rests bits updates depth xs)) (of_places ys)
      (subst (λ (rs : List (List ℕ)). IsPermutation rs (map (rest_in updates depth) (places bits ys))) (of_places xs) (IsPermutation-map (rest_in updates depth) (places bits xs) (places bits ys) moved))

  -- what follows more bytes
  rest_further : (further number : ℕ) → depth ≤ further → rest_of bits updates further number ≡ drop (further - depth) (rest_of bits updates depth number)
  rest_further further number deeper = by (slice_get updates (number % 2 ^ bits))
    where
      by : (found : Option Update) → rest_at further found ≡ drop (further - depth) (rest_at depth found)
      by None = sym (drop_all (further - depth) [] (omega arith))
      by (Some u) = let is : depth + (further - depth) ≡ further = omega (arith, deeper) in sym (drop-drop (further - depth) depth u.key ∙ ap (λ (m : ℕ). drop m u.key) is)

  pub rests_further : (further : ℕ) (numbers : List ℕ) → depth ≤ further → rests bits updates further numbers ≡ map (drop (further - depth)) (rests bits updates depth numbers)
  rests_further further [] deeper = refl
  rests_further further (n ∷ ns) deeper = λ i. rest_further further n deeper i ∷ rests_further further ns deeper i

  -- numbers in the order of their rests
  pub rests_sorted : (xs : List ℕ) → IsSortedBy (λ a b. is_below (rest_of bits updates depth a) (rest_of bits updates depth b)) xs → AreInOrder (rests bits updates depth xs)
  rests_sorted xs sorted = λ k d low high.
      let rest : ℕ → List ℕ = rest_of bits updates depth in
      let within : k + 1 < length xs = omega (arith, high, length-map xs rest) in
      (λ i. is_below (get_or-map rest xs (k + 1) 0 d within i) (get_or-map rest xs k 0 d (omega (arith, within)) i)) ∙ sorted k 0 low within

-- ---- all places, and the updates at them

pub range_more : (n : ℕ) → range_with_len 0 (n + 1) ≡ range_with_len 0 n ++ n ∷ []
range_more n =
    let is : 0 + n ≡ n = omega arith in
    sym (map-id (range_with_len 0 (n + 1))) ∙ map-range_with_len_more (λ (m : ℕ). m) 0 n n is ∙ ap (λ (ms : List ℕ). ms ++ n ∷ []) (map-id (range_with_len 0 n))

in_turn_first : (updates : List Update) (d : Update) (n : ℕ) → n ≤ length updates → in_turn updates d (range_with_len 0 n) ≡ take n updates
in_turn_first updates d zero within = refl
in_turn_first updates d (suc n) within =
    let next : n + 1 ≡ suc n = omega arith in
    let so_far = in_turn_first updates d n (omega (arith, within)) in
    let more = range_more n in
    grind (arith, common_steps)

-- the updates at all places, in another order
pub in_turn_moved : (bits : ℕ) (updates : List Update) (d : Update) (numbers : List ℕ) → IsPermutation (range_with_len 0 (length updates)) (places bits numbers) → IsPermutation updates (in_turn updates d (places bits numbers))
in_turn_moved bits updates d numbers moved =
    subst (λ (us : List Update). IsPermutation us (in_turn updates d (places bits numbers))) (in_turn_first updates d (length updates) (omega arith) ∙ take_all (length updates) updates (omega arith))
    (IsPermutation-map (λ (place : ℕ). get_or updates place d) (range_with_len 0 (length updates)) (places bits numbers) moved)

-- all places are of updates
pub places_within : (bits n : ℕ) (numbers : List ℕ) → IsPermutation (range_with_len 0 n) (places bits numbers) → All (λ number. number % 2 ^ bits < n) numbers
places_within bits n numbers moved =
    let P : ℕ → Type 0 = λ place. place < n in
    let all : All P (range_with_len 0 n) = λ k d low. let at = get_or-range_with_len 0 n k d in let long = length-range_with_len 0 n in grind arith in
    All-of-map P (λ (number : ℕ). number % 2 ^ bits) numbers (All-permutation P (range_with_len 0 n) (places bits numbers) moved all)

whole_rest : (updates : List Update) (place : ℕ) (d : Update) → place < length updates → rest_in updates 0 place ≡ (get_or updates place d).key
whole_rest [] place d within = absurd (omega (arith, within))
whole_rest (u ∷ us) zero d within = refl
whole_rest (u ∷ us) (suc place) d within = whole_rest us place d (omega (arith, within))

-- updates whose keys are in order
pub in_turn_in_order : (bits : ℕ) (updates : List Update) (d : Update) (numbers : List ℕ) → All (λ number. number % 2 ^ bits < length updates) numbers → AreInOrder (rests bits updates 0 numbers)
    → InKeyOrder (in_turn updates d (places bits numbers))
in_turn_in_order bits updates d numbers within sorted = λ k e low high.
    let place : ℕ → ℕ = λ number. number % 2 ^ bits in
    let turn : ℕ → Update = λ place. get_or updates place d in
    let size : length (in_turn updates d (places bits numbers)) ≡ length numbers = length-map (places bits numbers) turn ∙ length-map numbers place in
    let key : (i : ℕ) → i < length numbers → (get_or (in_turn updates d (places bits numbers)) i e).key ≡ get_or (rests bits updates 0 numbers) i [] =
    λ i below. ap (λ (u : Update). u.key) (get_or-map turn (places bits numbers) i 0 e (omega (arith, below, length-map numbers place)) ∙ ap turn (get_or-map place numbers i 0 0 below))
    ∙ sym (get_or-map (rest_of bits updates 0) numbers i 0 [] below ∙ whole_rest updates (get_or numbers i 0 % 2 ^ bits) d (within i 0 below)) in
    (λ i. is_below (key (k + 1) (omega (arith, high, size)) i) (key k (omega (arith, high, size)) i))
    ∙ sorted k [] low (omega (arith, high, size, length-map numbers (rest_of bits updates 0)))

-- ---- keys that begin alike

pub alike_none : (updates : List Update) → AreAlike 0 updates
alike_none updates = ([], λ k d low. refl)

-- the rests of all updates begin alike if their keys do
pub alike_rests : (bits : ℕ) (updates : List Update) (depth : ℕ) (d : Update) (numbers : List ℕ) → AreAlike depth updates → places bits numbers ≡ range_with_len 0 (length updates)
    → (shared : List ℕ) × All (λ rest. take depth rest ≡ shared) (rests bits updates 0 numbers)
alike_rests bits updates depth d numbers alike all = (
  alike.0,
  λ k e low.
      let place : ℕ → ℕ = λ number. number % 2 ^ bits in
      let size : length numbers ≡ length updates = sym (length-map numbers place) ∙ ap (λ (ps : List ℕ). length ps) all ∙ length-range_with_len 0 (length updates) in
      let within : k < length numbers = omega (arith, low, length-map numbers (rest_of bits updates 0)) in
      let first : 0 + k ≡ k = omega arith in
      let at : get_or numbers k 0 % 2 ^ bits ≡ k = sym (get_or-map place numbers k 0 0 within) ∙ ap (λ (ps : List ℕ). get_or ps k 0) all ∙ get_or-range_with_len 0 (length updates) k 0 (omega (arith, within, size)) ∙ first in
      ap (take depth) (get_or-map (rest_of bits updates 0) numbers k 0 e within ∙ ap (rest_in updates 0) at ∙ whole_rest updates k d (omega (arith, within, size))) ∙ alike.1 k d (omega (arith, within, size)),
)
