-- No head stands in zeros: the checksum of eight zeros is not 0.
use Rattle.std.proofs.Common.{◌≡◌, ℕ, zero, suc, ◌%◌, List, [], ◌∷◌, ◌++◌, sym, ap, ◌∙◌, refl, subst, arith}
use Rattle.std.specs.Prelude.{slice_index, replicate}
use Rattle.std.specs.List.{All}
use Rattle.std.proofs.lemmas.List.Elements.{All-head, All-tail, All-replicate}
use Rattle.byteorder.specs.Endian.{big_bytes}
use Rattle.mt_crc.specs.Crc.{shifted, shifts, remainder, crc32c, crc32c_append, crc_bytes}
use Rattle.mt_block.specs.Blocks.{head_crc, HasHead, HasNoHead}
use Rattle.mt_block.proofs.Places.{head_parts}

eight_zeros : crc32c (0 ∷ 0 ∷ 0 ∷ 0 ∷ 0 ∷ 0 ∷ 0 ∷ 0 ∷ []) ≡ 0x8c28b28a
unfolding crc32c_append remainder shifts shifted
eight_zeros = refl

zeros_behind : (front back : List ℕ) → All (λ b. b ≡ 0) (front ++ back) → All (λ b. b ≡ 0) back
zeros_behind [] back are = are
zeros_behind (x ∷ xs) back are = zeros_behind xs back (All-tail (λ b. b ≡ 0) x (xs ++ back) are)

zero_at : (bytes : List ℕ) (i : ℕ) → All (λ b. b ≡ 0) bytes → slice_index bytes i ≡ 0
zero_at [] i are = refl
zero_at (x ∷ xs) zero are = All-head (λ b. b ≡ 0) x xs are
zero_at (x ∷ xs) (suc i) are = zero_at xs i (All-tail (λ b. b ≡ 0) x xs are)

no_head_of_zeros : (mark : ℕ) (bytes : List ℕ) → All (λ b. b ≡ 0) bytes → HasHead mark bytes → ⊥
no_head_of_zeros mark bytes are h = omega (arith, low)
  where
    at : (i : ℕ) → slice_index (crc_bytes mark ++ (big_bytes 4 h.number ++ (crc_bytes (head_crc mark h.number) ++ h.after))) i ≡ 0
    at i = sym (ap (λ (l : List ℕ). slice_index l i) (head_parts mark bytes h)) ∙ zero_at bytes i are

    crc : head_crc mark h.number ≡ 0x8c28b28a
    crc = ap crc32c (λ i. at 0 i ∷ at 1 i ∷ at 2 i ∷ at 3 i ∷ at 4 i ∷ at 5 i ∷ at 6 i ∷ at 7 i ∷ []) ∙ eight_zeros

    low : 0x8c28b28a % 256 ≡ 0
    low = ap (λ (n : ℕ). n % 256) (sym crc) ∙ at 8

pub zeros_have_none : (mark n : ℕ) → HasNoHead mark (replicate n 0)
zeros_have_none mark n front back e h = no_head_of_zeros mark back (zeros_behind front back (subst_all e)) h
  where
    subst_all : replicate n 0 ≡ front ++ back → All (λ b. b ≡ 0) (front ++ back)
    subst_all same = subst (All (λ b. b ≡ 0)) same (All-replicate (λ b. b ≡ 0) n 0 refl)
