-- A burst in bytes that are cut in two: it begins before the cut, or it is one of the second halves.
use Rattle.std.proofs.Common.{◌≡◌, ℕ, suc, ◌+◌, ◌-◌, ◌*◌, ◌/◌, ◌%◌, ◌^◌, ◌<◌, ◌≤◌, ◌⊎◌, List, [], ◌∷◌, ◌++◌, length, bit_xor, refl, sym, ap, subst, ◌∙◌, arith, inl, inr, pow_pos, pow-add, add-zero, mul_assoc, length-append}
use Rattle.std.proofs.Math.Nat.{eq-zero-or-pos, add-mul, div-add-mod', mul-lt-mul_of_pos_right, mod-lt}
use Rattle.std.proofs.lemmas.Nat.{xor_lt, xor_block, mod_low, shr_high, shr_le}
use Rattle.std.specs.Int.Bits.{xor_self}
use Rattle.std.proofs.lemmas.Bool.{cases_lt}
use Rattle.std.proofs.lemmas.List.Elements.{All-head, All-tail, All-cons, All-nil}
use Rattle.mt_crc.specs.Crc.{number_of, AreBytes, IsBurst}
use Rattle.mt_crc.proofs.Shifts.{same_from_xor}
use Rattle.mt_crc.proofs.Numbers.{number-lt}

is_byte : ℕ → Type 0
is_byte b = b < 2 ^ 8

pub bytes_left : (xs ys : List ℕ) → AreBytes (xs ++ ys) → AreBytes xs
bytes_left [] ys are = All-nil (λ b. b < 2 ^ 8)
bytes_left (x ∷ xs) ys are = All-cons (λ b. b < 2 ^ 8) x xs (All-head (λ b. b < 2 ^ 8) x (xs ++ ys) are) (bytes_left xs ys (All-tail (λ b. b < 2 ^ 8) x (xs ++ ys) are))

pub bytes_right : (xs ys : List ℕ) → AreBytes (xs ++ ys) → AreBytes ys
bytes_right [] ys are = are
bytes_right (x ∷ xs) ys are = bytes_right xs ys (All-tail (λ b. b < 2 ^ 8) x (xs ++ ys) are)

pub number-append : (xs ys : List ℕ) → number_of (xs ++ ys) ≡ number_of ys * 2 ^ (8 * length xs) + number_of xs
unfolding number_of
number-append [] ys = omega arith
number-append (x ∷ xs) ys =
    let size : 8 * suc (length xs) ≡ 8 * length xs + 8 = omega arith in
    let e : number_of (xs ++ ys) ≡ number_of ys * 2 ^ (8 * length xs) + number_of xs = number-append xs ys in
    let more : number_of ys * (2 ^ (8 * length xs) * 2 ^ 8) ≡ number_of ys * 2 ^ (8 * length xs) * 2 ^ 8 = sym (mul_assoc (number_of ys) (2 ^ (8 * length xs)) (2 ^ 8)) in
    rw (e, size, pow-add 2 (8 * length xs) 8, more) (omega arith)

pub same_number : (xs ys : List ℕ) → length xs ≡ length ys → AreBytes xs → AreBytes ys → number_of xs ≡ number_of ys → xs ≡ ys
unfolding number_of
same_number [] [] size are others same = refl
same_number [] (y ∷ ys) size are others same = absurd (omega arith)
same_number (x ∷ xs) [] size are others same = absurd (omega arith)
same_number (x ∷ xs) (y ∷ ys) size are others same =
    let lx : x < 2 ^ 8 = All-head (λ b. b < 2 ^ 8) x xs are in
    let ly : y < 2 ^ 8 = All-head (λ b. b < 2 ^ 8) y ys others in
    let low : x ≡ y = omega arith in
    let high : number_of xs ≡ number_of ys = omega arith in
    let rest : xs ≡ ys = same_number xs ys (omega arith) (All-tail (λ b. b < 2 ^ 8) x xs are) (All-tail (λ b. b < 2 ^ 8) y ys others) high in
    λ i. low i ∷ rest i

module _ (a b x y : List ℕ) (same : length a ≡ length b) (burst : IsBurst (a ++ x) (b ++ y)) where
  n : ℕ
  n = 8 * length a

  first_bytes : AreBytes a
  first_bytes = bytes_left a x burst.bytes

  other_bytes : AreBytes b
  other_bytes = bytes_left b y burst.others

  other_lt : number_of b < 2 ^ n
  unfolding n
  other_lt = let e : length b ≡ length a = sym same in subst (λ k. number_of b < 2 ^ (8 * k)) e (number-lt b other_bytes)

  -- the difference of the first halves, and that of the second halves
  low : ℕ
  low = bit_xor (number_of a) (number_of b)

  high : ℕ
  high = bit_xor (number_of x) (number_of y)

  whole : high * 2 ^ n + low ≡ burst.bits * 2 ^ burst.first
  unfolding n low high
  whole =
      sym (xor_block (8 * length a) (number_of x) (number_of y) (number_of a) (number_of b) (number-lt a first_bytes) other_lt)
      ∙ sym (λ i. bit_xor (number-append a x i) ((number-append b y ∙ ap (λ k. number_of y * 2 ^ (8 * k) + number_of b) (sym same)) i))
      ∙ burst.differ

  low_lt : low < 2 ^ n
  unfolding n low
  low_lt = xor_lt (8 * length a) (number_of a) (number_of b) (number-lt a first_bytes) other_lt

  -- what the two differences are, if the whole is h * 2 ^ n + l
  module _ (h l : ℕ) (fits : l < 2 ^ n) (is : burst.bits * 2 ^ burst.first ≡ h * 2 ^ n + l) where
    low_is : low ≡ l
    low_is = sym (mod_low high n low low_lt) ∙ ap (λ z. z % 2 ^ n) (whole ∙ is) ∙ mod_low h n l fits

    high_is : high ≡ h
    high_is = sym (shr_high high n low low_lt) ∙ ap (λ z. z / 2 ^ n) (whole ∙ is) ∙ shr_high h n l fits

  lengths : length x ≡ length y
  lengths =
      let e : length (a ++ x) ≡ length a + length x = length-append a x in
      let f : length (b ++ y) ≡ length b + length y = length-append b y in
      let s : length (a ++ x) ≡ length (b ++ y) = burst.sizes in
      omega arith

  equal_low : low ≡ 0 → a ≡ b
  unfolding low
  equal_low none = same_number a b same first_bytes other_bytes (same_from_xor (number_of a) (number_of b) none)

  second : (first bits : ℕ) → 0 < bits → bits < 2 ^ 32 → high ≡ bits * 2 ^ first → IsBurst x y
  unfolding high
  second first bits some short differ = record {
    sizes = lengths;
    bytes = bytes_right a x burst.bytes;
    others = bytes_right b y burst.others;
    first = first;
    bits = bits;
    some = some;
    short = short;
    differ = differ;
  }

  first_half : (first bits : ℕ) → 0 < bits → bits < 2 ^ 32 → low ≡ bits * 2 ^ first → IsBurst a b
  unfolding low
  first_half first bits some short differ = record {
    sizes = same;
    bytes = first_bytes;
    others = other_bytes;
    first = first;
    bits = bits;
    some = some;
    short = short;
    differ = differ;
  }

  -- the burst begins after the cut
  behind : n ≤ burst.first → (a ≡ b) × IsBurst x y
  behind le =
      let f : ℕ = burst.first - n in
      let split : burst.first ≡ f + n = omega arith in
      let is : burst.bits * 2 ^ burst.first ≡ burst.bits * 2 ^ f * 2 ^ n + 0 =
      ap (λ k. burst.bits * 2 ^ k) split ∙ ap (λ p. burst.bits * p) (pow-add 2 f n) ∙ sym (mul_assoc burst.bits (2 ^ f) (2 ^ n)) ∙ sym (add-zero (burst.bits * 2 ^ f * 2 ^ n)) in (
        equal_low (low_is (burst.bits * 2 ^ f) 0 (pow_pos n) is),
        second f burst.bits burst.some burst.short (high_is (burst.bits * 2 ^ f) 0 (pow_pos n) is),
      )

  -- the burst begins before the cut: `m` of its bits may lie before it
  module _ (m : ℕ) (split : n ≡ m + burst.first) where
    over : ℕ
    over = burst.bits / 2 ^ m

    under : ℕ
    under = burst.bits % 2 ^ m

    parts : burst.bits ≡ over * 2 ^ m + under
    unfolding over under
    parts = sym (div-add-mod' burst.bits (2 ^ m))

    is_whole : burst.bits * 2 ^ burst.first ≡ over * 2 ^ n + under * 2 ^ burst.first
    is_whole =
        ap (λ z. z * 2 ^ burst.first) parts
        ∙ add-mul (over * 2 ^ m) under (2 ^ burst.first)
        ∙ ap (λ z. z + under * 2 ^ burst.first) (mul_assoc over (2 ^ m) (2 ^ burst.first) ∙ ap (λ p. over * p) (sym (pow-add 2 m burst.first) ∙ ap (λ k. 2 ^ k) (sym split)))

    under_fits : under * 2 ^ burst.first < 2 ^ n
    unfolding under
    under_fits =
        let e : 2 ^ m * 2 ^ burst.first ≡ 2 ^ n = sym (pow-add 2 m burst.first) ∙ ap (λ k. 2 ^ k) (sym split) in
        subst (λ z. burst.bits % 2 ^ m * 2 ^ burst.first < z) e (mul-lt-mul_of_pos_right (mod-lt burst.bits (pow_pos m)) (pow_pos burst.first))

    over_small : over < 2 ^ 32
    unfolding over
    over_small = let le : burst.bits / 2 ^ m ≤ burst.bits = shr_le burst.bits m in let short : burst.bits < 2 ^ 32 = burst.short in omega arith

    under_small : under < 2 ^ 32
    under_small = let e : burst.bits ≡ over * 2 ^ m + under = parts in let short : burst.bits < 2 ^ 32 = burst.short in omega arith

    before : ((a ≡ b) × IsBurst x y) ⊎ IsBurst a b
    before =
        elim (eq-zero-or-pos under) [
          | inl none ↦
              let empty : under * 2 ^ burst.first ≡ 0 = ap (λ z. z * 2 ^ burst.first) none ∙ (let z : 0 * 2 ^ burst.first ≡ 0 = omega arith in z) in
              let some : 0 < over = over_some none in
              let once : over ≡ over * 2 ^ 0 = omega arith in
              inl (
                equal_low (low_is over (under * 2 ^ burst.first) under_fits is_whole ∙ empty),
                second 0 over some over_small (high_is over (under * 2 ^ burst.first) under_fits is_whole ∙ once),
              )
          | inr some ↦ inr (first_half burst.first under some under_small (low_is over (under * 2 ^ burst.first) under_fits is_whole))
        ]
      where
        over_some : under ≡ 0 → 0 < over
        over_some none =
            elim (eq-zero-or-pos over) [
              | inl empty ↦
                  let e : burst.bits ≡ over * 2 ^ m + under = parts in
                  let z : over * 2 ^ m ≡ 0 = ap (λ z. z * 2 ^ m) empty ∙ (let w : 0 * 2 ^ m ≡ 0 = omega arith in w) in
                  let some : 0 < burst.bits = burst.some in
                  absurd (omega arith)
              | inr some ↦ some
            ]

  -- either the burst is in the second halves alone, or part of it is in the first halves
  pub burst_splits : ((a ≡ b) × IsBurst x y) ⊎ IsBurst a b
  burst_splits =
      elim (cases_lt burst.first n) [
        | inl lt ↦ before (n - burst.first) (omega arith)
        | inr le ↦ inl (behind le)
      ]

  -- where part of the burst is in the first halves, the second halves differ in their first four bytes at most
  module _ (part : IsBurst a b) (p q u v : List ℕ) (ex : x ≡ p ++ u) (ey : y ≡ q ++ v) (four : length p ≡ 4) (other_four : length q ≡ 4) where
    first_lt : burst.first < n
    first_lt =
        elim (cases_lt burst.first n) [
          | inl lt ↦ lt
          | inr le ↦ absurd (apart_from (behind le).0)
        ]
      where
        apart_from : a ≡ b → ⊥
        apart_from e =
            let none : part.bits * 2 ^ part.first ≡ 0 = sym part.differ ∙ ap (λ l. bit_xor (number_of l) (number_of b)) e ∙ xor_self (number_of b) in
            let some : 0 * 2 ^ part.first < part.bits * 2 ^ part.first = mul-lt-mul_of_pos_right part.some (pow_pos part.first) in
            omega arith

    near : high < 2 ^ 32
    near =
        let m : ℕ = n - burst.first in
        let split : n ≡ m + burst.first = let lt : burst.first < n = first_lt in omega arith in
        let e : high ≡ over m split = high_is (over m split) (under m split * 2 ^ burst.first) (under_fits m split) (is_whole m split) in
        subst (λ z. z < 2 ^ 32) (sym e) (over_small m split)

    bytes_u : AreBytes u
    bytes_u = bytes_right p u (subst AreBytes ex (bytes_right a x burst.bytes))

    bytes_v : AreBytes v
    bytes_v = bytes_right q v (subst AreBytes ey (bytes_right b y burst.others))

    number_x : number_of x ≡ number_of u * 2 ^ 32 + number_of p
    number_x = ap number_of ex ∙ number-append p u ∙ ap (λ k. number_of u * 2 ^ (8 * k) + number_of p) four

    number_y : number_of y ≡ number_of v * 2 ^ 32 + number_of q
    number_y = ap number_of ey ∙ number-append q v ∙ ap (λ k. number_of v * 2 ^ (8 * k) + number_of q) other_four

    low_p : number_of p < 2 ^ 32
    low_p = subst (λ k. number_of p < 2 ^ (8 * k)) four (number-lt p (bytes_left p u (subst AreBytes ex (bytes_right a x burst.bytes))))

    low_q : number_of q < 2 ^ 32
    low_q = subst (λ k. number_of q < 2 ^ (8 * k)) other_four (number-lt q (bytes_left q v (subst AreBytes ey (bytes_right b y burst.others))))

    none_above : bit_xor (number_of u) (number_of v) ≡ 0
    unfolding high
    none_above =
        let e : bit_xor (number_of x) (number_of y) ≡ bit_xor (number_of u) (number_of v) * 2 ^ 32 + bit_xor (number_of p) (number_of q) =
        (λ i. bit_xor (number_x i) (number_y i)) ∙ xor_block 32 (number_of u) (number_of v) (number_of p) (number_of q) low_p low_q in
        let h : bit_xor (number_of x) (number_of y) < 2 ^ 32 = near in
        omega arith

    pub burst_far : u ≡ v
    burst_far =
        let sx : length x ≡ length p + length u = ap length ex ∙ length-append p u in
        let sy : length y ≡ length q + length v = ap length ey ∙ length-append q v in
        let s : length x ≡ length y = lengths in
        same_number u v (omega arith) bytes_u bytes_v (same_from_xor (number_of u) (number_of v) none_above)
