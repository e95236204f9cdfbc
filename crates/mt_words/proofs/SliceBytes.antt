-- Keys are ordered by their slices, then by their lengths (all above 8 count as 9), then by the bytes after the first eight.
use Rattle.std.proofs.Common.{◌≡◌, ℕ, zero, suc, ◌+◌, ◌*◌, ◌/◌, ◌%◌, ◌^◌, ◌<◌, ◌≤◌, min, List, [], ◌∷◌, ◌++◌, length, take, drop, Ordering, sym, refl, ap, ◌∙◌, subst, arith, get_or, w64}
use Rattle.std.specs.declared.cmp.Ordering.TheVariants.{Less, Equal, Greater}
use Rattle.std.specs.Cmp.{nat_cmp_is}
use Rattle.std.specs.Ordering.{nat_cmp, ordering_then, MatchOrdering}
use Rattle.std.specs.Cmp.Lexicographic.{slice_cmp}
use Rattle.std.proofs.lemmas.Cmp.{ranked}
use Rattle.std.proofs.lemmas.Nat.{div-mul-add, mod-mul-add, div-add-mod'}
use Rattle.std.proofs.Math.Nat.{pow-suc, one-le-pow, mul-le-mul_right, mod-lt, div-lt_iff_lt-mul}
use Rattle.std.specs.List.{AllByRecursion}
use Rattle.std.proofs.lemmas.List.{take-append-drop}
use Rattle.std.specs.Ordering.{is_lt}
use Rattle.std.specs.Int.{from_be_bytes}
use Rattle.std.proofs.lemmas.Nat.{be_bytes_8}
use Rattle.std.proofs.lemmas.List.{append-nil}
use Rattle.byteorder.specs.Endian.{big_from, big_number}
use Rattle.mt_words.specs.Slices.{AreBytes, slice_in, slice_bytes}
use Rattle.mt_words.specs.Words.{IsBelow}

-- the first n bytes as a big-endian number, with zeros for missing bytes
abbrev pub front_number : ℕ → List ℕ → ℕ
front_number zero key = 0
front_number (suc n) [] = 0
front_number (suc n) (b ∷ bs) = b * 256 ^ n + front_number n bs

-- v as n bytes, the most significant first
abbrev pub number_bytes : ℕ → ℕ → List ℕ
number_bytes zero v = []
number_bytes (suc n) v = v / 256 ^ n ∷ number_bytes n (v % 256 ^ n)

power_pos : (n : ℕ) → 0 < 256 ^ n
power_pos n = one-le-pow n 256 (omega arith)

times_below : (a b p : ℕ) → a < b → a * p + p ≤ b * p
times_below a b p h = let m = mul-le-mul_right {m = suc a} {n = b} p h in omega (arith, m)

pub front_number-lt : (n : ℕ) (x : List ℕ) → AreBytes (take n x) → front_number n x < 256 ^ n
front_number-lt zero x bytes = omega arith
front_number-lt (suc n) [] bytes = power_pos (suc n)
front_number-lt (suc n) (b ∷ bs) bytes =
    let rest = front_number-lt n bs bytes.1 in
    let b_lt : b < 256 = bytes.0 in
    omega (arith, pow-suc 256 n, times_below b 256 (256 ^ n) b_lt)

-- ---- the order
nat_cmp-less : (x y : ℕ) → x < y → nat_cmp x y ≡ Less
nat_cmp-less x y h = sym (nat_cmp_is x y Less h)

nat_cmp-equal : (x y : ℕ) → x ≡ y → nat_cmp x y ≡ Equal
nat_cmp-equal x y h = sym (nat_cmp_is x y Equal h)

nat_cmp-greater : (x y : ℕ) → y < x → nat_cmp x y ≡ Greater
nat_cmp-greater x y h = sym (nat_cmp_is x y Greater h)

nat_cmp-shift : (a x y : ℕ) → nat_cmp (a + x) (a + y) ≡ nat_cmp x y
nat_cmp-shift a x y = by (nat_cmp x y) (ranked x y _ refl)
  where
    by : (r : Ordering) → MatchOrdering r (x < y) (x ≡ y) (y < x) → nat_cmp (a + x) (a + y) ≡ nat_cmp x y
    by Less h = let l : x < y = h in nat_cmp-less (a + x) (a + y) (omega arith) ∙ sym (nat_cmp-less x y l)
    by Equal h = let l : x ≡ y = h in nat_cmp-equal (a + x) (a + y) (omega arith) ∙ sym (nat_cmp-equal x y l)
    by Greater h = let l : y < x = h in nat_cmp-greater (a + x) (a + y) (omega arith) ∙ sym (nat_cmp-greater x y l)

-- two numbers compare by their first digits, then by the rest
digit_cmp : (a b p f g : ℕ) → f < p → g < p → nat_cmp (a * p + f) (b * p + g) ≡ ordering_then (nat_cmp a b) (nat_cmp f g)
digit_cmp a b p f g u v = by (nat_cmp a b) refl (ranked a b _ refl)
  where
    by : (r : Ordering) → nat_cmp a b ≡ r → MatchOrdering r (a < b) (a ≡ b) (b < a) → nat_cmp (a * p + f) (b * p + g) ≡ ordering_then r (nat_cmp f g)
    by Less e h = nat_cmp-less (a * p + f) (b * p + g) (omega (arith, times_below a b p h))
    by Equal e h = (let same : a ≡ b = h in ap (λ (z : ℕ). nat_cmp (a * p + f) (z * p + g)) (sym same)) ∙ nat_cmp-shift (a * p) f g
    by Greater e h = nat_cmp-greater (a * p + f) (b * p + g) (omega (arith, times_below b a p h))

then_assoc : (q r s : Ordering) → ordering_then (ordering_then q r) s ≡ ordering_then q (ordering_then r s)
then_assoc Less r s = refl
then_assoc Equal r s = refl
then_assoc Greater r s = refl

-- the order of two lists whose first n bytes make the same number: by their lengths (all above n count as n + 1), then by the bytes after the first n
abbrev pub cmp_past : ℕ → List ℕ → List ℕ → Ordering
cmp_past n x y = ordering_then (nat_cmp (min (length x) (suc n)) (min (length y) (suc n))) (slice_cmp nat_cmp (drop n x) (drop n y))

cmp_past-cons : (n a b : ℕ) (x y : List ℕ) → cmp_past (suc n) (a ∷ x) (b ∷ y) ≡ cmp_past n x y
cmp_past-cons n a b x y =
    ap (λ r. ordering_then r (slice_cmp nat_cmp (drop n x) (drop n y)))
    ((λ i. nat_cmp (shorter a x i) (shorter b y i)) ∙ nat_cmp-shift 1 (min (length x) (suc n)) (min (length y) (suc n)))
  where
    shorter : (c : ℕ) (z : List ℕ) → min (length (c ∷ z)) (suc (suc n)) ≡ 1 + min (length z) (suc n)
    shorter c z = omega arith

-- the order of two lists: by the numbers of their first n bytes, then by `cmp_past`
pub slice_cmp-split : (n : ℕ) (x y : List ℕ) → AreBytes (take n x) → AreBytes (take n y)
    → slice_cmp nat_cmp x y ≡ ordering_then (nat_cmp (front_number n x) (front_number n y)) (cmp_past n x y)
slice_cmp-split zero [] [] p q = refl
slice_cmp-split zero [] (b ∷ y) p q = sym (ap (λ r. ordering_then r Less) (nat_cmp-less (min 0 1) (min (length (b ∷ y)) 1) (omega arith)))
slice_cmp-split zero (a ∷ x) [] p q = sym (ap (λ r. ordering_then r Greater) (nat_cmp-greater (min (length (a ∷ x)) 1) (min 0 1) (omega arith)))
slice_cmp-split zero (a ∷ x) (b ∷ y) p q = sym (ap (λ r. ordering_then r (slice_cmp nat_cmp (a ∷ x) (b ∷ y))) (nat_cmp-equal (min (length (a ∷ x)) 1) (min (length (b ∷ y)) 1) (omega arith)))
slice_cmp-split (suc n) [] [] p q = sym (ap (λ r. ordering_then r Equal) (nat_cmp-equal (min 0 (suc (suc n))) (min 0 (suc (suc n))) refl))
slice_cmp-split (suc n) [] (b ∷ y) p q = by (nat_cmp 0 (front_number (suc n) (b ∷ y))) (ranked 0 (front_number (suc n) (b ∷ y)) _ refl)
  where
    by : (r : Ordering) → MatchOrdering r (0 < front_number (suc n) (b ∷ y)) (0 ≡ front_number (suc n) (b ∷ y)) (front_number (suc n) (b ∷ y) < 0) → Less ≡ ordering_then r (cmp_past (suc n) [] (b ∷ y))
    by Less h = refl
    by Equal h = sym (ap (λ r. ordering_then r (slice_cmp nat_cmp [] (drop n y))) (nat_cmp-less (min 0 (suc (suc n))) (min (length (b ∷ y)) (suc (suc n))) (omega arith)))
    by Greater h = let none : front_number (suc n) (b ∷ y) < 0 = h in absurd (omega arith)
slice_cmp-split (suc n) (a ∷ x) [] p q = by (nat_cmp (front_number (suc n) (a ∷ x)) 0) (ranked (front_number (suc n) (a ∷ x)) 0 _ refl)
  where
    by : (r : Ordering) → MatchOrdering r (front_number (suc n) (a ∷ x) < 0) (front_number (suc n) (a ∷ x) ≡ 0) (0 < front_number (suc n) (a ∷ x)) → Greater ≡ ordering_then r (cmp_past (suc n) (a ∷ x) [])
    by Less h = let none : front_number (suc n) (a ∷ x) < 0 = h in absurd (omega arith)
    by Equal h = sym (ap (λ r. ordering_then r (slice_cmp nat_cmp (drop n x) [])) (nat_cmp-greater (min (length (a ∷ x)) (suc (suc n))) (min 0 (suc (suc n))) (omega arith)))
    by Greater h = refl
slice_cmp-split (suc n) (a ∷ x) (b ∷ y) p q =
    ap (ordering_then (nat_cmp a b)) (slice_cmp-split n x y p.1 q.1 ∙ ap (ordering_then (nat_cmp (front_number n x) (front_number n y))) (sym (cmp_past-cons n a b x y)))
    ∙ sym (then_assoc (nat_cmp a b) (nat_cmp (front_number n x) (front_number n y)) (cmp_past (suc n) (a ∷ x) (b ∷ y)))
    ∙ ap (λ r. ordering_then r (cmp_past (suc n) (a ∷ x) (b ∷ y))) (sym (digit_cmp a b (256 ^ n) _ _ (front_number-lt n x p.1) (front_number-lt n y q.1)))

-- lists with the same prefix compare as the rests after it do
pub slice_cmp-append : (p x y : List ℕ) → slice_cmp nat_cmp (p ++ x) (p ++ y) ≡ slice_cmp nat_cmp x y
slice_cmp-append [] x y = refl
slice_cmp-append (a ∷ p) x y = ap (λ r. ordering_then r (slice_cmp nat_cmp (p ++ x) (p ++ y))) (nat_cmp-equal a a refl) ∙ slice_cmp-append p x y

-- ---- the bytes of a number
pub number_bytes-length : (n v : ℕ) → length (number_bytes n v) ≡ n
number_bytes-length zero v = refl
number_bytes-length (suc n) v = ap suc (number_bytes-length n (v % 256 ^ n))

pub number_bytes-bytes : (n v : ℕ) → v < 256 ^ n → AreBytes (number_bytes n v)
number_bytes-bytes zero v h = tt
number_bytes-bytes (suc n) v h =
    let p = power_pos n in
    let first : v / 256 ^ n < 256 = (div-lt_iff_lt-mul p).1 (let q = pow-suc 256 n in omega arith) in
    (first, number_bytes-bytes n (v % 256 ^ n) (mod-lt v p))

-- the first n bytes, with zeros for missing bytes
abbrev pub padded : ℕ → List ℕ → List ℕ
padded zero x = []
padded (suc n) [] = 0 ∷ padded n []
padded (suc n) (b ∷ bs) = b ∷ padded n bs

front_number-nil : (n : ℕ) → front_number n [] ≡ 0
front_number-nil zero = refl
front_number-nil (suc n) = refl

number_bytes-cons : (n b f : ℕ) → f < 256 ^ n → number_bytes (suc n) (b * 256 ^ n + f) ≡ b ∷ number_bytes n f
number_bytes-cons n b f h = λ i. div-mul-add b (256 ^ n) f h i ∷ number_bytes n (mod-mul-add b (256 ^ n) f h i)

-- the n bytes of the number of a list's first n bytes are those bytes, with zeros for missing ones
pub number_bytes-front : (n : ℕ) (x : List ℕ) → AreBytes (take n x) → number_bytes n (front_number n x) ≡ padded n x
number_bytes-front zero x h = refl
number_bytes-front (suc n) [] h =
    (let z : 0 ≡ 0 * 256 ^ n + 0 = omega arith in ap (number_bytes (suc n)) z)
    ∙ number_bytes-cons n 0 0 (power_pos n)
    ∙ ap (λ z. 0 ∷ z) (ap (number_bytes n) (sym (front_number-nil n)) ∙ number_bytes-front n [] (no_bytes n))
  where
    no_bytes : (n : ℕ) → AreBytes (take n [])
    no_bytes zero = tt
    no_bytes (suc n) = tt
number_bytes-front (suc n) (b ∷ bs) h = number_bytes-cons n b (front_number n bs) (front_number-lt n bs h.1) ∙ ap (λ z. b ∷ z) (number_bytes-front n bs h.1)

pub padded-long : (n : ℕ) (x : List ℕ) → n ≤ length x → padded n x ≡ take n x
padded-long zero x h = refl
padded-long (suc n) [] h = absurd (omega arith)
padded-long (suc n) (b ∷ bs) h = ap (λ z. b ∷ z) (padded-long n bs (omega arith))

pub padded-short : (n : ℕ) (x : List ℕ) → length x ≤ n → take (length x) (padded n x) ≡ x
padded-short zero [] h = refl
padded-short zero (b ∷ bs) h = absurd (omega arith)
padded-short (suc n) [] h = refl
padded-short (suc n) (b ∷ bs) h = ap (λ z. b ∷ z) (padded-short n bs (omega arith))

abbrev pub AllZero : List ℕ → Type 0
AllZero = AllByRecursion (λ b. b ≡ 0)

padded-zeros : (n : ℕ) → AllZero (padded n [])
padded-zeros zero = tt
padded-zeros (suc n) = (refl, padded-zeros n)

pub padded-past : (n : ℕ) (x : List ℕ) → AllZero (drop (length x) (padded n x))
padded-past zero [] = tt
padded-past zero (b ∷ bs) = tt
padded-past (suc n) [] = (refl, padded-zeros n)
padded-past (suc n) (b ∷ bs) = padded-past n bs

pub front_number-append : (n v : ℕ) (t : List ℕ) → v < 256 ^ n → front_number n (number_bytes n v ++ t) ≡ v
front_number-append zero v t h = omega arith
front_number-append (suc n) v t h =
    let rest = front_number-append n (v % 256 ^ n) t (mod-lt v (power_pos n)) in
    let whole = div-add-mod' v (256 ^ n) in
    omega (arith, rest, whole)

-- a number whose bytes are zero after the first l is the number of those l bytes, with zeros for the rest
number_zero : (n v : ℕ) → v < 256 ^ n → AllZero (number_bytes n v) → v ≡ 0
number_zero zero v h z = omega arith
number_zero (suc n) v h z =
    let rest = number_zero n (v % 256 ^ n) (mod-lt v (power_pos n)) z.1 in
    let whole = div-add-mod' v (256 ^ n) in
    let first : v / 256 ^ n ≡ 0 = z.0 in
    let none : v / 256 ^ n * 256 ^ n ≡ 0 = rw first (omega arith) in
    omega (arith, rest, whole, none)

pub front_number-take : (n l v : ℕ) → v < 256 ^ n → AllZero (drop l (number_bytes n v)) → front_number n (take l (number_bytes n v)) ≡ v
front_number-take zero l v h z = omega arith
front_number-take (suc n) zero v h z = sym (number_zero (suc n) v h z)
front_number-take (suc n) (suc l) v h z =
    let rest = front_number-take n l (v % 256 ^ n) (mod-lt v (power_pos n)) z in
    let whole = div-add-mod' v (256 ^ n) in
    omega (arith, rest, whole)

-- ---- slices, and the bytes of a slice
front_behind : (n k b : ℕ) (x : List ℕ) → big_from (suc k) n (b ∷ x) ≡ big_from k n x
front_behind zero k b x = refl
front_behind (suc n) k b x = ap (λ (rest : ℕ). get_or x k 0 * 256 ^ n + rest) (front_behind n (suc k) b x)

front_none : (n k : ℕ) → big_from k n [] ≡ 0
front_none zero k = refl
front_none (suc n) k = omega (arith, front_none n (suc k))

front_is : (n : ℕ) (x : List ℕ) → big_number n x ≡ front_number n x
front_is zero x = refl
front_is (suc n) [] = front_none (suc n) 0
front_is (suc n) (b ∷ bs) = omega (arith, front_behind n 0 b bs, front_is n bs)

slice_front : (x : List ℕ) → slice_in x ≡ front_number 8 x
unfolding slice_in
slice_front x = front_is 8 x

byte_below : (bs : List ℕ) (i : ℕ) → AreBytes bs → get_or bs i 0 < 256
byte_below [] i h = omega arith
byte_below (b ∷ bs) zero h = h.0
byte_below (b ∷ bs) (suc i) h = byte_below bs i h.1

eight : (a b c d e f g h : ℕ) → from_be_bytes w64 (a ∷ b ∷ c ∷ d ∷ e ∷ f ∷ g ∷ h ∷ []) ≡ front_number 8 (a ∷ b ∷ c ∷ d ∷ e ∷ f ∷ g ∷ h ∷ [])
eight a b c d e f g h = omega arith

spelled : (s : ℕ) → from_be_bytes w64 (number_bytes 8 s) ≡ front_number 8 (number_bytes 8 s)
spelled s = eight _ _ _ _ _ _ _ _

bytes_front : (s : ℕ) → s < 2 ^ 64 → slice_bytes s ≡ number_bytes 8 s
unfolding slice_bytes
bytes_front s h =
    let back : front_number 8 (number_bytes 8 s) ≡ s = ap (front_number 8) (sym (append-nil (number_bytes 8 s))) ∙ front_number-append 8 s [] h in
    be_bytes_8 (number_bytes 8 s) s (number_bytes-length 8 s) (λ i. byte_below (number_bytes 8 s) i (number_bytes-bytes 8 s h)) (sym (spelled s ∙ back))

pub slice_bytes-length : (s : ℕ) → length (slice_bytes s) ≡ 8
unfolding slice_bytes
slice_bytes-length s = refl

pub slice_bytes-bytes : (s : ℕ) → s < 2 ^ 64 → AreBytes (slice_bytes s)
slice_bytes-bytes s h = subst AreBytes (sym (bytes_front s h)) (number_bytes-bytes 8 s h)

pub slice_in-lt : (x : List ℕ) → AreBytes (take 8 x) → slice_in x < 2 ^ 64
slice_in-lt x h = omega (arith, slice_front x, front_number-lt 8 x h)

-- the bytes of a key's slice are the first eight bytes of the key, with zeros for missing bytes
slice_padded : (x : List ℕ) → AreBytes (take 8 x) → slice_bytes (slice_in x) ≡ padded 8 x
slice_padded x h = bytes_front (slice_in x) (slice_in-lt x h) ∙ ap (number_bytes 8) (slice_front x) ∙ number_bytes-front 8 x h

pub slice_bytes-short : (x : List ℕ) → length x ≤ 8 → AreBytes (take 8 x) → take (length x) (slice_bytes (slice_in x)) ≡ x
slice_bytes-short x h b = ap (take (length x)) (slice_padded x b) ∙ padded-short 8 x h

pub slice_bytes-past : (x : List ℕ) → length x ≤ 8 → AreBytes (take 8 x) → AllZero (drop (length x) (slice_bytes (slice_in x)))
slice_bytes-past x h b = let P : List ℕ → Type 0 = λ l. AllZero (drop (length x) l) in subst P (sym (slice_padded x b)) (padded-past 8 x)

pub slice_bytes-long : (x : List ℕ) → 8 ≤ length x → AreBytes (take 8 x) → slice_bytes (slice_in x) ++ drop 8 x ≡ x
slice_bytes-long x h b = ap (λ l. l ++ drop 8 x) (slice_padded x b ∙ padded-long 8 x h) ∙ take-append-drop 8 x

pub slice_in-append : (s : ℕ) (t : List ℕ) → s < 2 ^ 64 → slice_in (slice_bytes s ++ t) ≡ s
slice_in-append s t h = slice_front (slice_bytes s ++ t) ∙ ap (λ (l : List ℕ). front_number 8 (l ++ t)) (bytes_front s h) ∙ front_number-append 8 s t h

pub slice_in-take : (s l : ℕ) → s < 2 ^ 64 → AllZero (drop l (slice_bytes s)) → slice_in (take l (slice_bytes s)) ≡ s
slice_in-take s l h z =
    slice_front (take l (slice_bytes s)) ∙ ap (λ (k : List ℕ). front_number 8 (take l k)) (bytes_front s h)
    ∙ front_number-take 8 l s h (subst (λ (k : List ℕ). AllZero (drop l k)) (bytes_front s h) z)

-- keys are ordered by their slices, then by their lengths (all above 8 count as 9), then by the bytes after the first eight
pub by_ranks : (x y : List ℕ) → AreBytes (take 8 x) → AreBytes (take 8 y) → slice_cmp nat_cmp x y ≡ ordering_then (nat_cmp (slice_in x) (slice_in y)) (cmp_past 8 x y)
by_ranks x y p q = slice_cmp-split 8 x y p q ∙ (λ i. ordering_then (nat_cmp (sym (slice_front x) i) (sym (slice_front y) i)) (cmp_past 8 x y))

-- keys with the same prefix are in the order of the rests after it
pub below-prefixed : (b x y : List ℕ) → IsBelow x y → IsBelow (b ++ x) (b ++ y)
below-prefixed b x y less = ap is_lt (slice_cmp-append b x y) ∙ less

pub below-unprefixed : (b x y : List ℕ) → IsBelow (b ++ x) (b ++ y) → IsBelow x y
below-unprefixed b x y less = sym (ap is_lt (slice_cmp-append b x y)) ∙ less

pub bytes_take : (n : ℕ) (x : List ℕ) → AreBytes x → AreBytes (take n x)
bytes_take zero x h = tt
bytes_take (suc n) [] h = tt
bytes_take (suc n) (b ∷ bs) h = (h.0, bytes_take n bs h.1)
