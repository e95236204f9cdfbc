-- Numbers as bytes.
use Rattle.std.proofs.Common.{◌≡◌, ℕ, zero, suc, ◌^◌, ◌<◌, ◌≤◌, List, [], ◌∷◌, ◌++◌, length, take, drop, get_or, replicate, sym, ap, ◌∙◌, subst, arith}
use Rattle.std.proofs.lemmas.List.{take-append-drop, length-take-le}
use Rattle.std.proofs.lemmas.Nat.{be_bytes_2, be_bytes_4, be_bytes_8}
use Rattle.byteorder.specs.Endian.{big_bytes, big_from}
use Rattle.byteorder.specs.Numbers.{big_from-lt, big_from-take}

-- each number is a byte, and so is the 0 that is read past the end
abbrev pub AreBytes : List ℕ → Type 0
AreBytes xs = (i : ℕ) → get_or xs i 0 < 256

-- every prefix of a list of bytes is a list of bytes
pub bytes_front : (a b : List ℕ) → AreBytes (a ++ b) → AreBytes a
bytes_front [] b h i = omega arith
bytes_front (x ∷ a) b h zero = h zero
bytes_front (x ∷ a) b h (suc i) = bytes_front a b (λ j. h (suc j)) i

-- every suffix of a list of bytes is a list of bytes
pub bytes_back : (a b : List ℕ) → AreBytes (a ++ b) → AreBytes b
bytes_back [] b h = h
bytes_back (x ∷ a) b h = bytes_back a b (λ j. h (suc j))

-- bytes followed by zeros are bytes
pub bytes_padded : (a : List ℕ) (k : ℕ) → AreBytes a → AreBytes (a ++ replicate k 0)
bytes_padded [] zero h i = omega arith
bytes_padded [] (suc k) h zero = omega arith
bytes_padded [] (suc k) h (suc i) = bytes_padded [] k h i
bytes_padded (x ∷ a) k h zero = h zero
bytes_padded (x ∷ a) k h (suc i) = bytes_padded a k (λ j. h (suc j)) i

-- two, four or eight bytes encode the number that is read from them
pub two : (xs : List ℕ) → length xs ≡ 2 → AreBytes xs → big_bytes 2 (big_from 0 2 xs) ≡ xs
two xs long small = be_bytes_2 xs (big_from 0 2 xs) long small (omega arith)

pub four : (xs : List ℕ) → length xs ≡ 4 → AreBytes xs → big_bytes 4 (big_from 0 4 xs) ≡ xs
four xs long small = be_bytes_4 xs (big_from 0 4 xs) long small (omega arith)

pub eight : (xs : List ℕ) → length xs ≡ 8 → AreBytes xs → big_bytes 8 (big_from 0 8 xs) ≡ xs
eight xs long small = be_bytes_8 xs (big_from 0 8 xs) long small (omega arith)

-- bytes begin with the encoding of the number that is read from the first n
pub number_front : (n : ℕ) (xs : List ℕ) → ((ys : List ℕ) → length ys ≡ n → AreBytes ys → big_bytes n (big_from 0 n ys) ≡ ys) → n ≤ length xs → AreBytes xs
    → (big_from 0 n xs < 256 ^ n) × (xs ≡ big_bytes n (big_from 0 n xs) ++ drop n xs) × AreBytes (drop n xs)
number_front n xs spelled long small =
    let whole = take-append-drop n xs in
    let both = subst AreBytes (sym whole) small in
    let front = spelled (take n xs) (length-take-le n xs long) (bytes_front (take n xs) (drop n xs) both) in
    let same : big_from 0 n xs ≡ big_from 0 n (take n xs) = sym (big_from-take 0 n n xs (omega arith)) in
    (big_from-lt 0 n xs small, sym whole ∙ ap (λ (ys : List ℕ). ys ++ drop n xs) (sym (ap (big_bytes n) same ∙ front)), bytes_back (take n xs) (drop n xs) both)
