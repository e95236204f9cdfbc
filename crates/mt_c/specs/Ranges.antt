-- What is told of the pairs of a range.
use Rattle.std.specs.Prelude.{◌≡◌, ℕ, Option, Some, None, List, length, slice_get}
use Rattle.mt_words.specs.Walks.{Pair}
use Rattle.mt_c.specs.Buffers.{Writes}

-- the column at position `nth` of the pair at position i, if there is one
abbrev pub column_at : List Pair → ℕ → ℕ → Option (ℕ × List ℕ)
column_at pairs i nth = column_of (slice_get pairs i)
  where
    column_of : Option Pair → Option (ℕ × List ℕ)
    column_of None = None
    column_of (Some pair) = slice_get pair.1 nth

-- a function with this status told the number of the pair's columns, and wrote its key to a buffer
pub record IsPairAt (found : Option Pair) (columns : ℕ) (before after : List ℕ) (count status : ℕ) : Type 0 where
  pub pair : Pair
  pub is_found : found ≡ Some pair
  pub told : columns ≡ length pair.1
  pub written : Writes pair.0 before after count status

-- a function with this status told the column's number, and wrote its value to a buffer
pub record IsColumnAt (found : Option (ℕ × List ℕ)) (number : ℕ) (before after : List ℕ) (count status : ℕ) : Type 0 where
  pub column : ℕ × List ℕ
  pub is_found : found ≡ Some column
  pub told : number ≡ column.0
  pub written : Writes column.1 before after count status
