-- Slices of keys.
use Rattle.std.specs.Prelude.{ℕ, ◌<◌, List}
use Rattle.std.specs.Int.{w64, to_be_bytes}
use Rattle.std.specs.List.{AllByRecursion}
use Rattle.byteorder.specs.Endian.{big_number}

-- each number of the list is a byte
abbrev pub AreBytes : List ℕ → Type 0
AreBytes bytes = AllByRecursion (λ byte. byte < 256) bytes

-- the first eight bytes of a key as a big-endian number, with zeros for missing bytes
unfoldable pub slice_in : List ℕ → ℕ
slice_in key = big_number 8 key

-- the eight bytes of a slice, the most significant first
unfoldable pub slice_bytes : ℕ → List ℕ
slice_bytes slice = to_be_bytes w64 slice
