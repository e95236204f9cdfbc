-- Heads of blocks, and lists that begin alike.
use Rattle.std.proofs.Common.{◌≡◌, ℕ, ◌+◌, ◌/◌, ◌%◌, ◌^◌, ◌<◌, ◌≤◌, List, [], ◌∷◌, ◌++◌, length, drop, slice_index, refl, sym, ap, ◌∙◌, arith, append_assoc, length-append}
use Rattle.byteorder.specs.Endian.{big_bytes}
use Rattle.mt_crc.specs.Crc.{crc32c_append, crc_bytes, codeword, AreBytes}
use Rattle.mt_crc.proofs.Codewords.{four_bytes}
use Rattle.std.proofs.lemmas.List.Elements.{All-append}
use Rattle.mt_block.specs.declared.block.TheConstants.{MOST_BODY}
use Rattle.mt_block.specs.Blocks.{head_fields, head_bytes, head_crc, body_bytes, block, HasHead}

head_or : List ℕ → ℕ
head_or [] = 0
head_or (x ∷ xs) = x

-- equally long beginnings of one list are equal, and so is the rest
pub same_split : (a b x y : List ℕ) → length a ≡ length b → a ++ x ≡ b ++ y → (a ≡ b) × (x ≡ y)
unfolding head_or
same_split [] [] x y size e = (refl, e)
same_split [] (q ∷ qs) x y size e = absurd (omega arith)
same_split (p ∷ ps) [] x y size e = absurd (omega arith)
same_split (p ∷ ps) (q ∷ qs) x y size e =
    let h : p ≡ q = ap head_or e in
    let r = same_split ps qs x y (omega arith) (ap (drop 1) e) in
    ((λ i. h i ∷ r.0 i), r.1)

pub codeword-length : (crc : ℕ) (bytes : List ℕ) → length (codeword crc bytes) ≡ length bytes + 4
codeword-length crc bytes = length-append bytes (crc_bytes (crc32c_append crc bytes))

pub same_codeword : (crc other : ℕ) (xs ys : List ℕ) → length xs ≡ length ys → codeword crc xs ≡ codeword other ys → xs ≡ ys
same_codeword crc other xs ys size e = (same_split xs ys (crc_bytes (crc32c_append crc xs)) (crc_bytes (crc32c_append other ys)) size e).0

pub same_four : (n m : ℕ) → n < 2 ^ 32 → m < 2 ^ 32 → big_bytes 4 n ≡ big_bytes 4 m → n ≡ m
same_four n m fits other e =
    let a : n / 16777216 % 256 ≡ m / 16777216 % 256 = ap (λ l. slice_index l 0) e in
    let b : n / 65536 % 256 ≡ m / 65536 % 256 = ap (λ l. slice_index l 1) e in
    let c : n / 256 % 256 ≡ m / 256 % 256 = ap (λ l. slice_index l 2) e in
    let d : n % 256 ≡ m % 256 = ap (λ l. slice_index l 3) e in
    omega arith

fields-length : (mark n : ℕ) → length (head_fields mark n) ≡ 8
fields-length mark n = refl

pub head-length : (mark n : ℕ) → length (head_bytes mark n) ≡ 12
head-length mark n = codeword-length 0 (head_fields mark n)

pub are_fields : (mark n : ℕ) → AreBytes (head_fields mark n)
are_fields mark n =
    All-append (λ b. b < 2 ^ 8) (crc_bytes mark) (big_bytes 4 n)
    (four_bytes (mark % 256) (mark / 256 % 256) (mark / 65536 % 256) (mark / 16777216 % 256) (omega arith) (omega arith) (omega arith) (omega arith))
    (four_bytes (n / 16777216 % 256) (n / 65536 % 256) (n / 256 % 256) (n % 256) (omega arith) (omega arith) (omega arith) (omega arith))

pub small : (n : ℕ) → n ≤ MOST_BODY → n < 2 ^ 32
small n fits = omega arith

pub same_heads : (mark n m : ℕ) (x y : List ℕ) → n ≤ MOST_BODY → m ≤ MOST_BODY → head_bytes mark n ++ x ≡ head_bytes mark m ++ y → (n ≡ m) × (x ≡ y)
same_heads mark n m x y fits other e =
    let s = same_split (head_bytes mark n) (head_bytes mark m) x y (head-length mark n ∙ sym (head-length mark m)) e in
    let f = same_codeword 0 0 (head_fields mark n) (head_fields mark m) refl s.0 in
    let g = same_split (crc_bytes mark) (crc_bytes mark) (big_bytes 4 n) (big_bytes 4 m) refl f in
    (same_four n m (small n fits) (small m other) g.1, s.1)

pub one_head : (mark : ℕ) (bytes : List ℕ) (h g : HasHead mark bytes) → (h.number ≡ g.number) × (h.after ≡ g.after)
one_head mark bytes h g = same_heads mark h.number g.number h.after g.after h.fits g.fits (sym h.spelled ∙ g.spelled)

pub head_long : (mark : ℕ) (bytes : List ℕ) (h : HasHead mark bytes) → length bytes ≡ 12 + length h.after
head_long mark bytes h = ap length h.spelled ∙ length-append (head_bytes mark h.number) h.after ∙ ap (λ n. n + length h.after) (head-length mark h.number)

pub block-length : (mark : ℕ) (body : List ℕ) → length (block mark body) ≡ length body + 16
block-length mark body =
    length-append (head_bytes mark (length body)) (body_bytes mark body) ∙ (λ i. head-length mark (length body) i + codeword-length (head_crc mark (length body)) body i) ∙ omega arith

-- a block in its parts, before other bytes
pub block_apart : (mark : ℕ) (body after : List ℕ) → block mark body ++ after ≡ head_bytes mark (length body) ++ (body_bytes mark body ++ after)
block_apart mark body after = append_assoc (head_bytes mark (length body)) (body_bytes mark body) after

pub body_apart : (mark : ℕ) (body after : List ℕ) → body_bytes mark body ++ after ≡ body ++ (crc_bytes (crc32c_append (head_crc mark (length body)) body) ++ after)
body_apart mark body after = append_assoc body (crc_bytes (crc32c_append (head_crc mark (length body)) body)) after
