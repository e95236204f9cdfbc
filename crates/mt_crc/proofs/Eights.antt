-- Eight bytes are shifted out together, and so are twice eight.
use Rattle.std.proofs.Common.{◌≡◌, ℕ, ◌+◌, ◌*◌, ◌/◌, ◌%◌, ◌^◌, ◌<◌, w64, List, ◌++◌, length, get_or, bit_xor, refl, sym, ap, ◌∙◌, arith}
use Rattle.std.specs.Int.{from_le_bytes, to_le_bytes}
use Rattle.std.proofs.lemmas.Nat.{xor_comm, le_bytes_8}
use Rattle.std.proofs.lemmas.List.Elements.{All-from_get_or}
use Rattle.mt_crc.specs.Crc.{shifts, remainder, number_of}
use Rattle.mt_crc.proofs.Shifts.{shifts-xor, shifts-add, shifts-times}
use Rattle.mt_crc.proofs.Numbers.{joined, remainder-number, remainder-append}

-- the lowest byte apart from the others
split_off : (n w : ℕ) → shifts (n + 8) w ≡ bit_xor (shifts n (w / 2 ^ 8)) (shifts (n + 8) (w % 2 ^ 8))
split_off n w =
    let small : w % 2 ^ 8 < 2 ^ 8 = omega arith in
    let parts : w ≡ w / 2 ^ 8 * 2 ^ 8 + w % 2 ^ 8 = omega arith in
    ap (shifts (n + 8)) (parts ∙ sym (joined (w / 2 ^ 8) (w % 2 ^ 8) small))
    ∙ shifts-xor (n + 8) (w % 2 ^ 8) (w / 2 ^ 8 * 2 ^ 8)
    ∙ ap (bit_xor (shifts (n + 8) (w % 2 ^ 8))) (shifts-add 8 n (w / 2 ^ 8 * 2 ^ 8) ∙ ap (shifts n) (shifts-times 8 (w / 2 ^ 8)))
    ∙ xor_comm (shifts (n + 8) (w % 2 ^ 8)) (shifts n (w / 2 ^ 8))

pub one_look : (w : ℕ) → shifts 8 w ≡ bit_xor (w / 2 ^ 8) (shifts 8 (w % 2 ^ 8))
unfolding shifts
one_look w = split_off 0 w

eight_looks : (w : ℕ) → w < 2 ^ 64 → shifts 64 w
    ≡ bit_xor (bit_xor (bit_xor (bit_xor (bit_xor (bit_xor (bit_xor (shifts 8 (w / 2 ^ 56 % 2 ^ 8)) (shifts 16 (w / 2 ^ 48 % 2 ^ 8)))
    (shifts 24 (w / 2 ^ 40 % 2 ^ 8))) (shifts 32 (w / 2 ^ 32 % 2 ^ 8))) (shifts 40 (w / 2 ^ 24 % 2 ^ 8))) (shifts 48 (w / 2 ^ 16 % 2 ^ 8)))
    (shifts 56 (w / 2 ^ 8 % 2 ^ 8))) (shifts 64 (w % 2 ^ 8))
eight_looks w small =
    let next : (n v u : ℕ) → u ≡ v / 2 ^ 8 → shifts (n + 8) v ≡ bit_xor (shifts n u) (shifts (n + 8) (v % 2 ^ 8)) =
    λ n v u e. split_off n v ∙ ap (λ x. bit_xor (shifts n x) (shifts (n + 8) (v % 2 ^ 8))) (sym e) in
    let last : w / 2 ^ 56 ≡ w / 2 ^ 56 % 2 ^ 8 = omega arith in
    next 56 w (w / 2 ^ 8) refl
    ∙ ap (λ x. bit_xor x (shifts 64 (w % 2 ^ 8))) (next 48 (w / 2 ^ 8) (w / 2 ^ 16) (omega arith)
    ∙ ap (λ x. bit_xor x (shifts 56 (w / 2 ^ 8 % 2 ^ 8))) (next 40 (w / 2 ^ 16) (w / 2 ^ 24) (omega arith)
    ∙ ap (λ x. bit_xor x (shifts 48 (w / 2 ^ 16 % 2 ^ 8))) (next 32 (w / 2 ^ 24) (w / 2 ^ 32) (omega arith)
    ∙ ap (λ x. bit_xor x (shifts 40 (w / 2 ^ 24 % 2 ^ 8))) (next 24 (w / 2 ^ 32) (w / 2 ^ 40) (omega arith)
    ∙ ap (λ x. bit_xor x (shifts 32 (w / 2 ^ 32 % 2 ^ 8))) (next 16 (w / 2 ^ 40) (w / 2 ^ 48) (omega arith)
    ∙ ap (λ x. bit_xor x (shifts 24 (w / 2 ^ 40 % 2 ^ 8))) (next 8 (w / 2 ^ 48) (w / 2 ^ 56) (omega arith)
    ∙ ap (λ x. bit_xor (shifts 8 x) (shifts 16 (w / 2 ^ 48 % 2 ^ 8))) last))))))

-- a byte that was shifted out is shifted on with the others
shift_on : (n k x b : ℕ) → shifts n (bit_xor x (shifts k b)) ≡ bit_xor (shifts n x) (shifts (n + k) b)
shift_on n k x b = shifts-xor n x (shifts k b) ∙ ap (bit_xor (shifts n x)) (sym (shifts-add k n b))

pub eight_looks_before : (n w : ℕ) → w < 2 ^ 64 → shifts (n + 64) w
    ≡ bit_xor (bit_xor (bit_xor (bit_xor (bit_xor (bit_xor (bit_xor (shifts (n + 8) (w / 2 ^ 56 % 2 ^ 8)) (shifts (n + 16) (w / 2 ^ 48 % 2 ^ 8)))
    (shifts (n + 24) (w / 2 ^ 40 % 2 ^ 8))) (shifts (n + 32) (w / 2 ^ 32 % 2 ^ 8))) (shifts (n + 40) (w / 2 ^ 24 % 2 ^ 8))) (shifts (n + 48) (w / 2 ^ 16 % 2 ^ 8)))
    (shifts (n + 56) (w / 2 ^ 8 % 2 ^ 8))) (shifts (n + 64) (w % 2 ^ 8))
eight_looks_before n w small =
    shifts-add 64 n w ∙ ap (shifts n) (eight_looks w small)
    ∙ shift_on n 64 _ (w % 2 ^ 8)
    ∙ ap (λ x. bit_xor x (shifts (n + 64) (w % 2 ^ 8))) (shift_on n 56 _ (w / 2 ^ 8 % 2 ^ 8)
    ∙ ap (λ x. bit_xor x (shifts (n + 56) (w / 2 ^ 8 % 2 ^ 8))) (shift_on n 48 _ (w / 2 ^ 16 % 2 ^ 8)
    ∙ ap (λ x. bit_xor x (shifts (n + 48) (w / 2 ^ 16 % 2 ^ 8))) (shift_on n 40 _ (w / 2 ^ 24 % 2 ^ 8)
    ∙ ap (λ x. bit_xor x (shifts (n + 40) (w / 2 ^ 24 % 2 ^ 8))) (shift_on n 32 _ (w / 2 ^ 32 % 2 ^ 8)
    ∙ ap (λ x. bit_xor x (shifts (n + 32) (w / 2 ^ 32 % 2 ^ 8))) (shift_on n 24 _ (w / 2 ^ 40 % 2 ^ 8)
    ∙ ap (λ x. bit_xor x (shifts (n + 24) (w / 2 ^ 40 % 2 ^ 8))) (shift_on n 16 _ (w / 2 ^ 48 % 2 ^ 8)
    ∙ ap (λ x. bit_xor x (shifts (n + 16) (w / 2 ^ 48 % 2 ^ 8))) (sym (shifts-add 8 n (w / 2 ^ 56 % 2 ^ 8)))))))))

number-le : (n : ℕ) → n < 2 ^ 64 → number_of (to_le_bytes w64 n) ≡ n
unfolding number_of
number-le n small = omega arith

after_eight_is : (state : ℕ) (eight : List ℕ) (n : ℕ) → length eight ≡ 8 → ((i : ℕ) → get_or eight i 0 < 256) → n < 2 ^ 64 → n ≡ from_le_bytes w64 eight
    → remainder state eight ≡ shifts 64 (bit_xor state n)
after_eight_is state eight n size bytes small is =
    remainder-number state eight (All-from_get_or (λ b. b < 2 ^ 8) eight 0 (λ i h. bytes i))
    ∙ ap (λ k. shifts (8 * k) (bit_xor state (number_of eight))) size
    ∙ ap (λ m. shifts 64 (bit_xor state m)) (ap number_of (sym (le_bytes_8 eight n size bytes is)) ∙ number-le n small)

pub after_pair_is : (state : ℕ) (first second : List ℕ) (n m : ℕ) → length first ≡ 8 → ((i : ℕ) → get_or first i 0 < 256) → n < 2 ^ 64 → n ≡ from_le_bytes w64 first
    → length second ≡ 8 → ((i : ℕ) → get_or second i 0 < 256) → m < 2 ^ 64 → m ≡ from_le_bytes w64 second
    → remainder state (first ++ second) ≡ bit_xor (shifts 128 (bit_xor state n)) (shifts 64 m)
after_pair_is state first second n m size bytes small is size_2 bytes_2 small_2 is_2 =
    remainder-append state first second
    ∙ ap (λ c. remainder c second) (after_eight_is state first n size bytes small is)
    ∙ after_eight_is (shifts 64 (bit_xor state n)) second m size_2 bytes_2 small_2 is_2
    ∙ shifts-xor 64 (shifts 64 (bit_xor state n)) m
    ∙ ap (λ x. bit_xor x (shifts 64 m)) (sym (shifts-add 64 64 (bit_xor state n)))
