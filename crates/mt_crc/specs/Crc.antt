-- CRC32C bit by bit. A number is a polynomial over two elements, its lowest bit the highest power of x.
use Rattle.std.specs.Prelude.{◌≡◌, ℕ, zero, suc, ◌+◌, ◌*◌, ◌/◌, ◌%◌, ◌^◌, ◌<◌, List, [], ◌∷◌, ◌++◌, length, All, bit_xor}
use Rattle.std.specs.Int.{w32, to_le_bytes}
use Rattle.std.specs.Int.Count.{ones}

-- Castagnoli's polynomial but for x^32
abbrev pub polynomial : ℕ
polynomial = 0x82F63B78

-- the remainder of c times x: the lowest bit leaves, and if it is 1 the polynomial is subtracted
unfoldable pub shifted : ℕ → ℕ
shifted c = bit_xor (c / 2) (c % 2 * polynomial)

-- the remainder of c times x^n
unfoldable pub shifts : ℕ → ℕ → ℕ
shifts zero c = c
shifts (suc n) c = shifts n (shifted c)

-- the remainder after these bytes, from the remainder before them
unfoldable pub remainder : ℕ → List ℕ → ℕ
remainder c [] = c
remainder c (b ∷ bs) = remainder (shifts 8 (bit_xor c b)) bs

-- 32 bits that are 1
abbrev pub all_ones : ℕ
all_ones = 0xFFFFFFFF

-- the checksum of bytes that follow bytes with this checksum
unfoldable pub crc32c_append : ℕ → List ℕ → ℕ
crc32c_append crc bytes = bit_xor (remainder (bit_xor crc all_ones) bytes) all_ones

-- the checksum of the bytes
abbrev pub crc32c : List ℕ → ℕ
crc32c bytes = crc32c_append 0 bytes

-- the bytes of a checksum, the lowest first
abbrev pub crc_bytes : ℕ → List ℕ
crc_bytes crc = to_le_bytes w32 crc

-- bytes that follow bytes with the checksum `crc`, and then the checksum of all
abbrev pub codeword : ℕ → List ℕ → List ℕ
codeword crc bytes = bytes ++ crc_bytes (crc32c_append crc bytes)

abbrev pub AreBytes : List ℕ → Type 0
AreBytes bytes = All (λ b. b < 2 ^ 8) bytes

-- the number with these digits in base 256, the lowest first
unfoldable pub number_of : List ℕ → ℕ
number_of [] = 0
number_of (b ∷ bs) = number_of bs * 2 ^ 8 + b

-- the bits in which the bytes differ, as a number
abbrev pub difference : List ℕ → List ℕ → ℕ
difference xs ys = bit_xor (number_of xs) (number_of ys)

-- as many bytes, that differ, and only within 32 bits in a row, from the bit `first` on; a byte's bits count from its lowest
pub record IsBurst (xs ys : List ℕ) : Type 0 where
  pub sizes : length xs ≡ length ys
  pub bytes : AreBytes xs
  pub others : AreBytes ys
  pub first : ℕ
  pub bits : ℕ
  pub some : 0 < bits
  pub short : bits < 2 ^ 32
  pub differ : difference xs ys ≡ bits * 2 ^ first

-- as many bytes, that differ in an odd number of bits
pub record IsOdd (xs ys : List ℕ) : Type 0 where
  pub sizes : length xs ≡ length ys
  pub bytes : AreBytes xs
  pub others : AreBytes ys
  pub odd : ones (difference xs ys) % 2 ≡ 1
