-- Texts in blocks.
use Rattle.std.specs.Prelude.{◌≡◌, ◌≤◌, List, ℕ, All, length}
use Rattle.mt_record.specs.declared.kept.byte_strings.TheConstants.{TEXTS, MOST_BLOCKS}

-- the block is full
abbrev pub IsFull : List (List ℕ) → Type 0
IsFull block = length block ≡ TEXTS

-- all blocks are full but the last, which may be
pub record AreBlocks (full : List (List (List ℕ))) (last : List (List ℕ)) : Type 0 where
  pub filled : All IsFull full
  pub few : length full ≤ MOST_BLOCKS
  pub within : length last ≤ TEXTS
