-- The tables have the remainders of bytes. This is computed.
use Rattle.std.proofs.Common.{◌≡◌, ℕ, zero, suc, ◌+◌, ◌*◌, ◌<◌, List, [], ◌∷◌, get_or, refl, ap, ◌∙◌, arith}
use Rattle.mt_crc.specs.Crc.{shifted, shifts}
use Rattle.mt_crc.specs.declared.tables.TheConstants.{TABLES}

-- `size` bytes from b on, each after n shifts
row : (n size b : ℕ) → List ℕ
row n zero b = []
row n (suc size) b = shifts n b ∷ row n size (suc b)

rows : (n count : ℕ) → List (List ℕ)
rows n zero = []
rows n (suc count) = row n 256 0 ∷ rows (n + 8) count

computed : TABLES ≡ rows 8 16
unfolding rows row shifts shifted
computed = refl

at_row : (n size b i : ℕ) → i < size → get_or (row n size b) i 0 ≡ shifts n (b + i)
unfolding row
at_row n zero b i within = absurd (omega arith)
at_row n (suc size) b zero within = let e : b ≡ b + 0 = omega arith in ap (shifts n) e
at_row n (suc size) b (suc i) within = at_row n size (suc b) i (omega arith) ∙ (let e : suc b + i ≡ b + suc i = omega arith in ap (shifts n) e)

at_rows : (n count : ℕ) (d : List ℕ) (j : ℕ) → j < count → get_or (rows n count) j d ≡ row (8 * j + n) 256 0
unfolding rows
at_rows n zero d j within = absurd (omega arith)
at_rows n (suc count) d zero within = let e : n ≡ 8 * 0 + n = omega arith in ap (λ m. row m 256 0) e
at_rows n (suc count) d (suc j) within = at_rows (n + 8) count d j (omega arith) ∙ (let e : 8 * j + (n + 8) ≡ 8 * suc j + n = omega arith in ap (λ m. row m 256 0) e)

pub entry : (d : List ℕ) (j b : ℕ) → j < 16 → b < 256 → get_or (get_or TABLES j d) b 0 ≡ shifts (8 * j + 8) b
entry d j b in_rows in_row =
    ap (λ tables. get_or (get_or tables j d) b 0) computed
    ∙ ap (λ bytes. get_or bytes b 0) (at_rows 8 16 d j in_rows)
    ∙ at_row (8 * j + 8) 256 0 b in_row
    ∙ (let e : 0 + b ≡ b = omega arith in ap (shifts (8 * j + 8)) e)
