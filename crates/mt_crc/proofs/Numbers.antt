-- Bytes as one number: its remainder is theirs.
use Rattle.std.proofs.Common.{◌≡◌, ℕ, suc, ◌+◌, ◌*◌, ◌^◌, ◌<◌, List, [], ◌∷◌, ◌++◌, length, bit_xor, refl, sym, ap, ◌∙◌, arith, pow_pos, pow-add, add-zero}
use Rattle.std.proofs.lemmas.Nat.{xor_comm, xor_block}
use Rattle.std.specs.Int.Bits.{xor_assoc, xor_self, xor_zero_r}
use Rattle.std.proofs.lemmas.List.Elements.{All-head, All-tail}
use Rattle.mt_crc.specs.Crc.{all_ones, shifts, remainder, number_of, difference, crc32c_append, AreBytes}
use Rattle.mt_crc.proofs.Shifts.{shifts-xor, shifts-add, shifts-times, xor_cancel}

zero_block : (b : ℕ) → 0 * 2 ^ 8 + b ≡ b
zero_block b = omega arith

-- a byte below a number, by exclusive or
pub joined : (n b : ℕ) → b < 2 ^ 8 → bit_xor b (n * 2 ^ 8) ≡ n * 2 ^ 8 + b
joined n b small =
    sym (λ i. bit_xor (zero_block b i) (add-zero (n * 2 ^ 8) i))
    ∙ xor_block 8 0 n b 0 small (pow_pos 8)
    ∙ ap (λ x. n * 2 ^ 8 + x) (xor_zero_r b)

-- the digits above the lowest byte wait while it is read
one_byte : (c b n : ℕ) → b < 2 ^ 8 → shifts 8 (bit_xor c (n * 2 ^ 8 + b)) ≡ bit_xor (shifts 8 (bit_xor c b)) n
one_byte c b n small =
    ap (λ x. shifts 8 (bit_xor c x)) (sym (joined n b small))
    ∙ ap (shifts 8) (sym (xor_assoc c b (n * 2 ^ 8)))
    ∙ shifts-xor 8 (bit_xor c b) (n * 2 ^ 8)
    ∙ ap (bit_xor (shifts 8 (bit_xor c b))) (shifts-times 8 n)

pub remainder-number : (c : ℕ) (bytes : List ℕ) → AreBytes bytes → remainder c bytes ≡ shifts (8 * length bytes) (bit_xor c (number_of bytes))
unfolding remainder number_of shifts
remainder-number c [] small = sym (xor_zero_r c)
remainder-number c (b ∷ bs) small =
    remainder-number (shifts 8 (bit_xor c b)) bs (All-tail (λ b. b < 2 ^ 8) b bs small)
    ∙ ap (shifts (8 * length bs)) (sym (one_byte c b (number_of bs) (All-head (λ b. b < 2 ^ 8) b bs small)))
    ∙ sym (shifts-add 8 (8 * length bs) (bit_xor c (number_of (b ∷ bs))))
    ∙ ap (λ n. shifts n (bit_xor c (number_of (b ∷ bs)))) (let e : 8 * length bs + 8 ≡ 8 * suc (length bs) = omega arith in e)

pub number-lt : (bytes : List ℕ) → AreBytes bytes → number_of bytes < 2 ^ (8 * length bytes)
unfolding number_of
number-lt [] small = omega arith
number-lt (b ∷ bs) small =
    let size : 8 * suc (length bs) ≡ 8 * length bs + 8 = omega arith in
    let low : b < 2 ^ 8 = All-head (λ b. b < 2 ^ 8) b bs small in
    let high : number_of bs < 2 ^ (8 * length bs) = number-lt bs (All-tail (λ b. b < 2 ^ 8) b bs small) in
    rw (size, pow-add 2 (8 * length bs) 8) (omega arith)

-- equal checksums leave no remainder of the difference
pub no_remainder : (crc : ℕ) (xs ys : List ℕ) → length xs ≡ length ys → AreBytes xs → AreBytes ys → crc32c_append crc xs ≡ crc32c_append crc ys → shifts (8 * length xs) (difference xs ys) ≡ 0
unfolding crc32c_append
no_remainder crc xs ys sizes are others same =
    let n : ℕ = 8 * length xs in
    let c : ℕ = bit_xor crc all_ones in
    let bare : remainder c xs ≡ remainder c ys = xor_cancel all_ones (remainder c xs) (remainder c ys) (xor_comm all_ones (remainder c xs) ∙ same ∙ xor_comm (remainder c ys) all_ones) in
    let sized : 8 * length ys ≡ n = ap (λ k. 8 * k) (sym sizes) in
    let whole : shifts n (bit_xor c (number_of xs)) ≡ shifts n (bit_xor c (number_of ys)) =
    sym (remainder-number c xs are) ∙ bare ∙ remainder-number c ys others ∙ ap (λ k. shifts k (bit_xor c (number_of ys))) sized in
    let parts : shifts n (number_of xs) ≡ shifts n (number_of ys) =
    xor_cancel (shifts n c) (shifts n (number_of xs)) (shifts n (number_of ys)) (sym (shifts-xor n c (number_of xs)) ∙ whole ∙ shifts-xor n c (number_of ys)) in
    shifts-xor n (number_of xs) (number_of ys) ∙ ap (λ x. bit_xor x (shifts n (number_of ys))) parts ∙ xor_self (shifts n (number_of ys))

pub remainder-append : (c : ℕ) (xs ys : List ℕ) → remainder c (xs ++ ys) ≡ remainder (remainder c xs) ys
unfolding remainder
remainder-append c [] ys = refl
remainder-append c (x ∷ xs) ys = remainder-append (shifts 8 (bit_xor c x)) xs ys

pub crc-append : (crc : ℕ) (xs ys : List ℕ) → crc32c_append crc (xs ++ ys) ≡ crc32c_append (crc32c_append crc xs) ys
unfolding crc32c_append
crc-append crc xs ys =
    let state : ℕ = remainder (bit_xor crc all_ones) xs in
    let back : bit_xor (bit_xor state all_ones) all_ones ≡ state = xor_assoc state all_ones all_ones ∙ xor_zero_r state in
    ap (λ x. bit_xor x all_ones) (remainder-append (bit_xor crc all_ones) xs ys ∙ ap (λ c. remainder c ys) (sym back))
