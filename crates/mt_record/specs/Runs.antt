-- Small blocks of a log: each has whole records, and few bytes of them, so that damage to a block costs few records.
use Rattle.std.specs.Prelude.{◌≡◌, ℕ, ◌≤◌, ◌⊎◌, List, [], length, All}
use Rattle.std.specs.List.{flat_map}
use Rattle.mt_words.specs.Changes.{Logged}
use Rattle.mt_block.specs.declared.header.Header.{Header}
use Rattle.mt_block.specs.Blocks.{IsFile}
use Rattle.mt_record.specs.Spelling.{spelling}

-- the body has whole records: at most 32,768 bytes of them, or one record alone
pub record IsSmall (body : List ℕ) : Type 0 where
  pub records : List Logged
  pub spelled : body ≡ flat_map spelling records
  pub small : (length body ≤ 32768) ⊎ (length records ≡ 1)

-- the bytes are a file of format 4 with no torn end, and each of its blocks is small
pub record HasSmallBlocks (bytes : List ℕ) : Type 0 where
  pub header : Header
  pub bodies : List (List ℕ)
  pub is_file : IsFile bytes header bodies []
  pub are_small : All IsSmall bodies
