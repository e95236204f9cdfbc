-- Keys are ordered by their slices; if these are equal, by their second slices; if these are equal too and no key has more than sixteen bytes, by
-- their lengths.
use Rattle.std.proofs.Common.{◌≡◌, ◌≢◌, ℕ, zero, suc, get_or, Fits, w8, ◌+◌, ◌*◌, ◌^◌, ◌<◌, ◌≤◌, List, [], ◌∷◌, length, drop, Ordering, refl, sym, ap, ◌∙◌, arith}
use Rattle.std.specs.declared.cmp.Ordering.TheVariants.{Less, Equal, Greater}
use Rattle.std.specs.Cmp.{nat_cmp_is}
use Rattle.std.specs.Ordering.{nat_cmp, ordering_then, MatchOrdering}
use Rattle.std.specs.Cmp.Lexicographic.{slice_cmp}
use Rattle.std.proofs.lemmas.Cmp.{ranked}
use Rattle.std.proofs.Math.Nat.{pow-suc, one-le-pow, mul-le-mul_right}
use Rattle.byteorder.specs.Endian.{big_from, big_number}
use Rattle.mt_words.specs.Slices.{AreBytes, slice_in}

-- ---- the number in the first bytes

number_of_none : (n k : ℕ) → big_from k n [] ≡ 0
number_of_none zero k = refl
number_of_none (suc n) k = omega (arith, number_of_none n (suc k))

number_behind : (n k b : ℕ) (key : List ℕ) → big_from (suc k) n (b ∷ key) ≡ big_from k n key
number_behind zero k b key = refl
number_behind (suc n) k b key = ap (λ (rest : ℕ). get_or key k 0 * 256 ^ n + rest) (number_behind n (suc k) b key)

number_of_rest : (n m : ℕ) (key : List ℕ) → big_number n (drop m key) ≡ big_from m n key
number_of_rest n zero key = refl
number_of_rest n (suc m) [] = number_of_none n 0 ∙ sym (number_of_none n (suc m))
number_of_rest n (suc m) (b ∷ key) = number_of_rest n m key ∙ sym (number_behind n m b key)

times_below : (a b p : ℕ) → a < b → a * p + p ≤ b * p
times_below a b p h = let m = mul-le-mul_right {m = suc a} {n = b} p h in omega (arith, m)

number_fits : (n : ℕ) (key : List ℕ) → AreBytes key → big_number n key < 256 ^ n
number_fits zero key bytes = omega arith
number_fits (suc n) [] bytes = let one = one-le-pow (suc n) 256 (omega arith) in omega (arith, one, number_of_none (suc n) 0)
number_fits (suc n) (b ∷ key) bytes =
    let rest = number_fits n key bytes.1 in
    omega (arith, rest, number_behind n 0 b key, pow-suc 256 n, times_below b 256 (256 ^ n) bytes.0)

-- of two keys, the one with the smaller first byte has the smaller number
first_decides : (n a b : ℕ) (x y : List ℕ) → AreBytes x → a < b → big_number (suc n) (a ∷ x) < big_number (suc n) (b ∷ y)
first_decides n a b x y p h = omega (arith, number_behind n 0 a x, number_behind n 0 b y, number_fits n x p, times_below a b (256 ^ n) h)

-- ---- the order

shifted : (a f g m n : ℕ) → m ≡ a + f → n ≡ a + g → nat_cmp f g ≡ nat_cmp m n
shifted a f g m n u v = by (nat_cmp f g) (ranked f g _ refl)
  where
    by : (r : Ordering) → MatchOrdering r (f < g) (f ≡ g) (g < f) → r ≡ nat_cmp m n
    by Less h = let low : f < g = h in nat_cmp_is m n Less (omega (arith, u, v, low))
    by Equal h = let even : f ≡ g = h in nat_cmp_is m n Equal (omega (arith, u, v, even))
    by Greater h = let high : g < f = h in nat_cmp_is m n Greater (omega (arith, u, v, high))

-- if the numbers of the first n bytes differ, they decide the order
by_numbers : (n : ℕ) (x y : List ℕ) → AreBytes x → AreBytes y → big_number n x ≢ big_number n y → slice_cmp nat_cmp x y ≡ nat_cmp (big_number n x) (big_number n y)
by_numbers zero x y p q apart = absurd (apart refl)
by_numbers (suc n) [] [] p q apart = absurd (apart refl)
by_numbers (suc n) [] (b ∷ y) p q apart = nat_cmp_is (big_number (suc n) []) (big_number (suc n) (b ∷ y)) Less (omega (arith, number_of_none (suc n) 0, apart))
by_numbers (suc n) (a ∷ x) [] p q apart = nat_cmp_is (big_number (suc n) (a ∷ x)) (big_number (suc n) []) Greater (omega (arith, number_of_none (suc n) 0, apart))
by_numbers (suc n) (a ∷ x) (b ∷ y) p q apart = by (nat_cmp a b) (ranked a b _ refl) (by_numbers n x y p.1 q.1)
  where
    by : (r : Ordering) → MatchOrdering r (a < b) (a ≡ b) (b < a) → (big_number n x ≢ big_number n y → slice_cmp nat_cmp x y ≡ nat_cmp (big_number n x) (big_number n y)) → ordering_then r (slice_cmp nat_cmp x y) ≡ nat_cmp (big_number (suc n) (a ∷ x)) (big_number (suc n) (b ∷ y))
    by Less h rest = nat_cmp_is (big_number (suc n) (a ∷ x)) (big_number (suc n) (b ∷ y)) Less (first_decides n a b x y p.1 h)
    by Equal h rest =
        let both : a * 256 ^ n ≡ b * 256 ^ n = ap (λ (z : ℕ). z * 256 ^ n) h in
        rest (λ e. apart (omega (arith, both, e, number_behind n 0 a x, number_behind n 0 b y)))
        ∙ shifted (a * 256 ^ n) (big_number n x) (big_number n y) (big_number (suc n) (a ∷ x)) (big_number (suc n) (b ∷ y)) (omega (arith, number_behind n 0 a x)) (omega (arith, both, number_behind n 0 b y))
    by Greater h rest = nat_cmp_is (big_number (suc n) (a ∷ x)) (big_number (suc n) (b ∷ y)) Greater (first_decides n b a y x q.1 h)

-- if they are equal and no key has more than n bytes, the lengths decide the order
by_lengths : (n : ℕ) (x y : List ℕ) → AreBytes x → AreBytes y → big_number n x ≡ big_number n y → length x ≤ n → length y ≤ n → slice_cmp nat_cmp x y ≡ nat_cmp (length x) (length y)
by_lengths n [] [] p q same u v = nat_cmp_is 0 0 Equal refl
by_lengths n [] (b ∷ y) p q same u v = nat_cmp_is 0 (length (b ∷ y)) Less (omega arith)
by_lengths n (a ∷ x) [] p q same u v = nat_cmp_is (length (a ∷ x)) 0 Greater (omega arith)
by_lengths zero (a ∷ x) (b ∷ y) p q same u v = absurd (omega (arith, u))
by_lengths (suc n) (a ∷ x) (b ∷ y) p q same u v = by (nat_cmp a b) (ranked a b _ refl) (λ e. by_lengths n x y p.1 q.1 e (omega (arith, u)) (omega (arith, v)))
  where
    by : (r : Ordering) → MatchOrdering r (a < b) (a ≡ b) (b < a) → (big_number n x ≡ big_number n y → slice_cmp nat_cmp x y ≡ nat_cmp (length x) (length y)) → ordering_then r (slice_cmp nat_cmp x y) ≡ nat_cmp (length (a ∷ x)) (length (b ∷ y))
    by Less h rest = absurd (omega (arith, same, first_decides n a b x y p.1 h))
    by Equal h rest =
        let both : a * 256 ^ n ≡ b * 256 ^ n = ap (λ (z : ℕ). z * 256 ^ n) h in
        rest (omega (arith, both, same, number_behind n 0 a x, number_behind n 0 b y))
        ∙ shifted 1 (length x) (length y) (length (a ∷ x)) (length (b ∷ y)) (omega arith) (omega arith)
    by Greater h rest = absurd (omega (arith, same, first_decides n b a y x q.1 h))

-- ---- slices

pub slice_of_none : slice_in [] ≡ 0
unfolding slice_in
slice_of_none = omega arith

-- the number of the first sixteen bytes is made of two slices
sixteen : (key : List ℕ) → big_number 16 key ≡ slice_in key * 2 ^ 64 + slice_in (drop 8 key)
unfolding slice_in
sixteen key = omega (arith, number_of_rest 8 8 key)

-- slices that differ decide the order
pub by_slices : (x y : List ℕ) → AreBytes x → AreBytes y → slice_in x ≢ slice_in y → slice_cmp nat_cmp x y ≡ nat_cmp (slice_in x) (slice_in y)
unfolding slice_in
by_slices x y p q apart = by_numbers 8 x y p q apart

-- after two equal slices, the lengths decide the order if no key has more than sixteen bytes
pub by_length : (x y : List ℕ) → AreBytes x → AreBytes y → slice_in x ≡ slice_in y → slice_in (drop 8 x) ≡ slice_in (drop 8 y) → length x ≤ 16 → length y ≤ 16 → slice_cmp nat_cmp x y ≡ nat_cmp (length x) (length y)
by_length x y p q same second u v = by_lengths 16 x y p q (omega (arith, same, second, sixteen x, sixteen y)) u v

-- numbers that fit in eight bits are bytes
pub bytes_from_fits : (bytes : List ℕ) → ((i : ℕ) → Fits w8 (get_or bytes i 0)) → AreBytes bytes
bytes_from_fits [] fits = tt
bytes_from_fits (b ∷ bs) fits = ((fits 0).fits, bytes_from_fits bs (λ i. fits (suc i)))
