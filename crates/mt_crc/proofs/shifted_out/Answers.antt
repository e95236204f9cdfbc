use Rattle.std.proofs.Common.{◌≡◌, ℕ, ◌+◌, ◌*◌, w64, sym, ◌∙◌, bit_xor, get_or, arith}
use Rattle.std.specs.Int.{to_le_bytes}
use Rattle.mt_crc.specs.Crc.{shifts}
use Rattle.mt_crc.proofs.Eights.{eight_looks_before}
use Rattle.mt_crc.proofs.shifted_out.Goals as goal

pub returns : goal.returns
returns c =
    let z : ℕ = c.args.zeros in
    let at : (n m k : ℕ) → n ≡ m → shifts n (get_or c.to_le_bytes.result k 0) ≡ shifts m (get_or (to_le_bytes w64 c.args.word) k 0) =
    λ n m k e. (λ i. shifts (e i) (get_or (c.to_le_bytes.ensures i) k 0)) in
    let h = c.looked_up.ensures ∙ at (8 * z + 8) (8 * z + 8) 7 (omega arith) in
    let g = c.looked_up-2.ensures ∙ at (8 * (z + 1) + 8) (8 * z + 16) 6 (omega arith) in
    let f = c.looked_up-3.ensures ∙ at (8 * (z + 2) + 8) (8 * z + 24) 5 (omega arith) in
    let e = c.looked_up-4.ensures ∙ at (8 * (z + 3) + 8) (8 * z + 32) 4 (omega arith) in
    let d = c.looked_up-5.ensures ∙ at (8 * (z + 4) + 8) (8 * z + 40) 3 (omega arith) in
    let b3 = c.looked_up-6.ensures ∙ at (8 * (z + 5) + 8) (8 * z + 48) 2 (omega arith) in
    let b2 = c.looked_up-7.ensures ∙ at (8 * (z + 6) + 8) (8 * z + 56) 1 (omega arith) in
    let b1 = c.looked_up-8.ensures ∙ at (8 * (z + 7) + 8) (8 * z + 64) 0 (omega arith) in
    (λ i. bit_xor (bit_xor (bit_xor (bit_xor (bit_xor (bit_xor (bit_xor (h i) (g i)) (f i)) (e i)) (d i)) (b3 i)) (b2 i)) (b1 i))
    ∙ sym (eight_looks_before (8 * z) c.args.word c.ranges.word.fits)
