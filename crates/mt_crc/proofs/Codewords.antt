-- All codewords have the same checksum, so what changes a checksum makes no codeword of another.
use Rattle.std.proofs.Common.{◌≡◌, ℕ, ◌/◌, ◌%◌, ◌^◌, ◌<◌, w32, List, [], ◌∷◌, bit_xor, sym, ap, ◌∙◌, arith}
use Rattle.std.specs.Int.{to_le_bytes}
use Rattle.std.proofs.lemmas.Nat.{xor_lt}
use Rattle.std.specs.Int.Bits.{xor_assoc, xor_self}
use Rattle.std.proofs.lemmas.List.Elements.{All-cons, All-nil, All-head, All-tail}
use Rattle.mt_crc.specs.Crc.{all_ones, shifts, remainder, number_of, crc32c_append, crc_bytes, codeword, AreBytes, IsBurst, IsOdd}
use Rattle.mt_crc.proofs.Shifts.{shifts-lt}
use Rattle.mt_crc.proofs.Numbers.{remainder-number, remainder-append}
use Rattle.mt_crc.proofs.Changes.{burst_is_seen, odd_is_seen}

pub four_bytes : (a b c d : ℕ) → a < 2 ^ 8 → b < 2 ^ 8 → c < 2 ^ 8 → d < 2 ^ 8 → AreBytes (a ∷ b ∷ c ∷ d ∷ [])
four_bytes a b c d la lb lc ld =
    let P : ℕ → Type 0 = λ b. b < 2 ^ 8 in
    All-cons P a (b ∷ c ∷ d ∷ []) la (All-cons P b (c ∷ d ∷ []) lb (All-cons P c (d ∷ []) lc (All-cons P d [] ld (All-nil P))))

bytes_of : (n : ℕ) → n < 2 ^ 32 → AreBytes (to_le_bytes w32 n) × (number_of (to_le_bytes w32 n) ≡ n)
unfolding number_of
bytes_of n small =
    (four_bytes (n % 256) (n / 256 % 256) (n / 65536 % 256) (n / 16777216 % 256) (omega arith) (omega arith) (omega arith) (omega arith), omega arith)

remainder-lt : (c : ℕ) (bytes : List ℕ) → c < 2 ^ 32 → AreBytes bytes → remainder c bytes < 2 ^ 32
unfolding remainder
remainder-lt c [] small bytes = small
remainder-lt c (b ∷ bs) small bytes =
    let low : b < 2 ^ 8 = All-head (λ b. b < 2 ^ 8) b bs bytes in
    let fits : bit_xor c b < 2 ^ 32 = xor_lt 32 c b small (omega arith) in
    remainder-lt (shifts 8 (bit_xor c b)) bs (shifts-lt 8 (bit_xor c b) fits) (All-tail (λ b. b < 2 ^ 8) b bs bytes)

pub crc-lt : (crc : ℕ) (bytes : List ℕ) → crc < 2 ^ 32 → AreBytes bytes → crc32c_append crc bytes < 2 ^ 32
unfolding crc32c_append
crc-lt crc bytes small are = xor_lt 32 _ all_ones (remainder-lt (bit_xor crc all_ones) bytes (xor_lt 32 crc all_ones small (omega arith)) are) (omega arith)

codeword-crc : (crc : ℕ) (bytes : List ℕ) → crc < 2 ^ 32 → AreBytes bytes → crc32c_append crc (codeword crc bytes) ≡ bit_xor (shifts 32 all_ones) all_ones
unfolding crc32c_append
codeword-crc crc bytes small are =
    let c : ℕ = bit_xor crc all_ones in
    let state : ℕ = remainder c bytes in
    let k : ℕ = bit_xor state all_ones in
    let fits : k < 2 ^ 32 = crc-lt crc bytes small are in
    let seal = bytes_of k fits in
    let meets : bit_xor state k ≡ all_ones = sym (xor_assoc state state all_ones) ∙ ap (λ x. bit_xor x all_ones) (xor_self state) in
    ap (λ x. bit_xor x all_ones)
    (remainder-append c bytes (crc_bytes k)
    ∙ remainder-number state (crc_bytes k) seal.0
    ∙ ap (λ x. shifts 32 (bit_xor state x)) seal.1
    ∙ ap (shifts 32) meets)

same_crc : (crc : ℕ) (xs ys : List ℕ) → crc < 2 ^ 32 → AreBytes xs → AreBytes ys → crc32c_append crc (codeword crc xs) ≡ crc32c_append crc (codeword crc ys)
same_crc crc xs ys small are others = codeword-crc crc xs small are ∙ sym (codeword-crc crc ys small others)

pub no_burst : (crc : ℕ) (xs ys : List ℕ) → crc < 2 ^ 32 → AreBytes xs → AreBytes ys → ¬ (IsBurst (codeword crc xs) (codeword crc ys))
no_burst crc xs ys small are others burst = burst_is_seen crc (codeword crc xs) (codeword crc ys) burst (same_crc crc xs ys small are others)

pub no_odd_change : (crc : ℕ) (xs ys : List ℕ) → crc < 2 ^ 32 → AreBytes xs → AreBytes ys → ¬ (IsOdd (codeword crc xs) (codeword crc ys))
no_odd_change crc xs ys small are others odd = odd_is_seen crc (codeword crc xs) (codeword crc ys) odd (same_crc crc xs ys small are others)
