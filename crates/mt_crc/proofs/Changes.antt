-- Why a burst, and an odd number of changed bits, change the checksum.
use Rattle.std.proofs.Common.{◌≡◌, ◌≢◌, ℕ, zero, suc, ◌+◌, ◌-◌, ◌*◌, ◌/◌, ◌%◌, ◌^◌, ◌<◌, ◌≤◌, List, length, bit_xor, refl, sym, ap, subst, ◌∙◌, arith, inl, inr, pow_mono, pow-suc}
use Rattle.std.proofs.lemmas.Nat.{xor_lt, xor_shr}
use Rattle.std.proofs.lemmas.Nat.Bits.{bit_at_xor, bit_at_lowest}
use Rattle.std.proofs.lemmas.Bool.{cases_lt}
use Rattle.std.specs.Int.Count.{ones}
use lib.Arith.{bin_ind}
use lib.Count.{ones_step, ones-le}
use Rattle.mt_crc.specs.Crc.{polynomial, shifted, shifts, number_of, difference, crc32c_append, IsBurst, IsOdd}
use Rattle.mt_crc.proofs.Shifts.{shifts-add, shifts-times, shifts-some}
use Rattle.mt_crc.proofs.Numbers.{number-lt, no_remainder}

-- # Bursts: no shift of a number of 32 bits is 0

at_least : (a b : ℕ) → 0 < a → b ≤ a * b
at_least zero b some = absurd (omega arith)
at_least (suc a) b some = omega arith

le_of : (a b : ℕ) → a < b → a ≤ b
le_of a b h = omega arith

module _ (crc : ℕ) (xs ys : List ℕ) (burst : IsBurst xs ys) where
  within : burst.first ≤ 8 * length xs
  within =
      let n : ℕ = 8 * length xs in
      let sized : 8 * length ys ≡ n = ap (λ k. 8 * k) (sym burst.sizes) in
      let some : 0 < burst.bits = burst.some in
      let below : burst.bits * 2 ^ burst.first < 2 ^ n =
      subst (λ x. x < 2 ^ n) burst.differ (xor_lt n (number_of xs) (number_of ys) (number-lt xs burst.bytes) (subst (λ k. number_of ys < 2 ^ k) sized (number-lt ys burst.others))) in
      let least : 2 ^ burst.first ≤ burst.bits * 2 ^ burst.first = at_least burst.bits (2 ^ burst.first) some in
      elim (cases_lt n burst.first) [
        | inl above ↦ absurd (omega (arith, pow_mono (le_of n burst.first above)))
        | inr le ↦ le
      ]

  pub burst_is_seen : crc32c_append crc xs ≢ crc32c_append crc ys
  burst_is_seen same =
      let n : ℕ = 8 * length xs in
      let first : ℕ = burst.first in
      let le : first ≤ n = within in
      let split : n ≡ n - first + first = omega arith in
      let some : 0 < burst.bits = burst.some in
      let gone : shifts n (burst.bits * 2 ^ first) ≡ 0 = ap (shifts n) (sym burst.differ) ∙ no_remainder crc xs ys burst.sizes burst.bytes burst.others same in
      let none : burst.bits ≡ 0 =
      shifts-some (n - first) burst.bits burst.short
      (sym (ap (shifts (n - first)) (shifts-times first burst.bits)) ∙ sym (shifts-add first (n - first) (burst.bits * 2 ^ first)) ∙ ap (λ k. shifts k (burst.bits * 2 ^ first)) (sym split) ∙ gone) in
      absurd (omega arith)

-- # Odd changes: the polynomial has an even number of terms, so a shift keeps the parity

none : ones 0 ≡ 0
none = let h = ones-le 0 0 (omega arith) in omega arith

lowest : (a b : ℕ) → bit_xor a b % 2 ≡ (a % 2 + b % 2) % 2
lowest a b =
    sym (bit_at_lowest (bit_xor a b)) ∙ bit_at_xor a b 0 ∙ (λ i. (bit_at_lowest a i + bit_at_lowest b i) % 2)

parity-xor : (a b : ℕ) → (ones (bit_xor a b) + (ones a + ones b)) % 2 ≡ 0
parity-xor a =
    bin_ind (λ (n : ℕ). (b : ℕ) → (ones (bit_xor n b) + (ones n + ones b)) % 2 ≡ 0)
    (λ b. omega (arith, none))
    (λ n ih b. (let h : bit_xor n b / 2 ≡ bit_xor (n / 2) (b / 2) = xor_shr n b 1 in
    let x : ones (bit_xor n b) ≡ bit_xor n b % 2 + ones (bit_xor (n / 2) (b / 2)) = ones_step (bit_xor n b) ∙ ap (λ z. bit_xor n b % 2 + ones z) h in
    omega (arith, x, ones_step n, ones_step b, ih (b / 2), lowest n b))) a

counted : ℕ → ℕ → ℕ
counted zero n = 0
counted (suc k) n = n % 2 + counted k (n / 2)

counted_is : (k n : ℕ) → n < 2 ^ k → ones n ≡ counted k n
unfolding counted
counted_is zero n small = let e : n ≡ 0 = omega arith in ap ones e ∙ none
counted_is (suc k) n small = ones_step n ∙ ap (λ z. n % 2 + z) (counted_is k (n / 2) (omega (arith, pow-suc 2 k)))

terms : ones polynomial ≡ 17
unfolding counted
terms = counted_is 32 polynomial (omega arith)

parity-shifted : (c : ℕ) → (ones (shifted c) + ones c) % 2 ≡ 0
unfolding shifted
parity-shifted c =
    let p = parity-xor (c / 2) (c % 2 * polynomial) in
    let s = ones_step c in
    by (c % 2) refl p s
  where
    by : (d : ℕ) → c % 2 ≡ d → (ones (bit_xor (c / 2) (c % 2 * polynomial)) + (ones (c / 2) + ones (c % 2 * polynomial))) % 2 ≡ 0 → ones c ≡ c % 2 + ones (c / 2)
        → (ones (bit_xor (c / 2) (c % 2 * polynomial)) + ones c) % 2 ≡ 0
    by zero e p s = let o : ones (c % 2 * polynomial) ≡ 0 = ap (λ d. ones (d * polynomial)) e ∙ none in omega arith
    by (suc zero) e p s = let o : ones (c % 2 * polynomial) ≡ 17 = ap (λ d. ones (d * polynomial)) e ∙ terms in omega arith
    by (suc (suc d)) e p s = absurd (omega arith)

parity-shifts : (n c : ℕ) → (ones (shifts n c) + ones c) % 2 ≡ 0
unfolding shifts
parity-shifts zero c = omega arith
parity-shifts (suc n) c = let a = parity-shifts n (shifted c) in let b = parity-shifted c in omega arith

pub odd_is_seen : (crc : ℕ) (xs ys : List ℕ) → IsOdd xs ys → crc32c_append crc xs ≢ crc32c_append crc ys
odd_is_seen crc xs ys is same =
    let p = parity-shifts (8 * length xs) (difference xs ys) in
    let z : ones (shifts (8 * length xs) (difference xs ys)) ≡ 0 = ap ones (no_remainder crc xs ys is.sizes is.bytes is.others same) ∙ none in
    let odd : ones (difference xs ys) % 2 ≡ 1 = is.odd in
    absurd (omega arith)
