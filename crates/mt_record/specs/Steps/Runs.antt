-- Cutting the records of a log into small blocks.
use Rattle.std.specs.Prelude.{◌≡◌, ℕ, ◌+◌, ◌≤◌, ◌<◌, ◌^◌, ◌⊎◌, List, ◌++◌, length, All}
use Rattle.std.specs.List.{AllByRecursion, flat_map}
use Rattle.byteorder.specs.Endian.{big_bytes}
use Rattle.mt_words.specs.Changes.{Logged}
use Rattle.mt_block.specs.declared.block.TheConstants.{MOST_BODY}
use Rattle.mt_block.specs.Blocks.{IsBody, blocks}
use Rattle.mt_record.specs.Spelling.{spelling}
use Rattle.mt_record.specs.Opening.{joined}
use Rattle.mt_record.specs.Runs.{IsSmall}

-- no record is longer than a block
abbrev pub Fit : List Logged → Type 0
Fit records = AllByRecursion (λ r. length (spelling r) ≤ MOST_BODY) records

-- encodings of records, none of which is longer than a block
pub record AreFitting (bytes : List ℕ) : Type 0 where
  pub records : List Logged
  pub spelled : bytes ≡ flat_map spelling records
  pub fit : Fit records

-- a number of bytes that a frame has, by the length at its front
abbrev pub IsWanted : List ℕ → ℕ → Type 0
IsWanted bytes n = (number : ℕ) (more : List ℕ) → number < 2 ^ 32 → bytes ≡ big_bytes 4 number ++ more → n ≡ number + 8

-- the first `n` of the bytes are whole records that one block has
pub record IsRun (bytes : List ℕ) (n : ℕ) : Type 0 where
  pub front : List Logged
  pub back : List Logged
  pub spelled : bytes ≡ flat_map spelling front ++ flat_map spelling back
  pub size : n ≡ length (flat_map spelling front)
  pub some : 0 < n
  pub most : n ≤ MOST_BODY
  pub small : (n ≤ 32768) ⊎ (length front ≡ 1)
  pub later : Fit back

-- the blocks have these records, and are small
pub record AreSmallBlocks (mark : ℕ) (records sealed : List ℕ) : Type 0 where
  pub bodies : List (List ℕ)
  pub joins : joined bodies ≡ records
  pub are_bodies : All IsBody bodies
  pub are_small : All IsSmall bodies
  pub spelled : sealed ≡ blocks mark bodies
