-- Columns as one block of bytes.
use Rattle.std.specs.Prelude.{◌≡◌, ℕ, zero, suc, ◌<◌, ◌^◌, List, [], ◌∷◌, ◌++◌, length, take, drop, slice_index}
use Rattle.std.specs.List.{flat_map, AllByRecursion}
use Rattle.byteorder.specs.Endian.{big_bytes, big_from}
use Rattle.mt_words.specs.Limits.{widest}
use Rattle.mt_words.specs.Words.{IsColumn, AreColumns}

-- bytes after their two-byte length
abbrev pub with_length : List ℕ → List ℕ
with_length bytes = big_bytes 2 (length bytes) ++ bytes

-- the encoding of a column: its number, and its with_length value
abbrev pub column_bytes : ℕ × List ℕ → List ℕ
column_bytes column = column.0 ∷ with_length column.1

-- the encoding of columns: their count, and then each
abbrev pub packed : List (ℕ × List ℕ) → List ℕ
packed columns = length columns ∷ flat_map column_bytes columns

-- what the number and the length of a column can hold, lawful or not
abbrev pub FitsColumn : ℕ × List ℕ → Type 0
FitsColumn column = (column.0 < 2 ^ 8) × (length column.1 < 2 ^ 16)

-- the bytes are the encodings of these columns, and there are `count` of them
pub record AreSpelled (count : ℕ) (bytes : List ℕ) (columns : List (ℕ × List ℕ)) : Type 0 where
  pub number : length columns ≡ count
  pub spelled : bytes ≡ flat_map column_bytes columns
  pub fits : AllByRecursion FitsColumn columns

-- ---- decoding

-- decodes this many columns from the front
abbrev pub columns_from : ℕ → List ℕ → List (ℕ × List ℕ)
columns_from zero bytes = []
columns_from (suc n) bytes =
    (slice_index bytes 0, take (big_from 0 2 (drop 1 bytes)) (drop 3 bytes)) ∷ columns_from n (drop (big_from 0 2 (drop 1 bytes)) (drop 3 bytes))

-- decodes a count, then that many columns
abbrev pub columns_counted : List ℕ → List (ℕ × List ℕ)
columns_counted bytes = columns_from (slice_index bytes 0) (drop 1 bytes)

-- the bytes are the encodings of `count` columns, each lawful in the widest format
pub record AreLentColumns (count : ℕ) (bytes : List ℕ) : Type 0 where
  pub spelled : AreSpelled count bytes (columns_from count bytes)
  pub lawful : AllByRecursion (IsColumn widest) (columns_from count bytes)

-- the bytes are the encoding of the lawful columns of one key
pub record ArePacked (bytes : List ℕ) : Type 0 where
  pub spelled : bytes ≡ packed (columns_counted bytes)
  pub lawful : AreColumns widest (columns_counted bytes)
