-- The entry that bytes begin with, and the footer that they end with.
use Rattle.std.specs.Prelude.{◌≡◌, ℕ, ◌<◌, ◌^◌, List, ◌++◌}
use Rattle.mt_words.specs.declared.record.Change.{Change}
use Rattle.mt_words.specs.declared.limits.Limits.{Limits}
use Rattle.mt_words.specs.Changes.{IsEntry}
use Rattle.mt_record.specs.Parts.{entry_spelling, footer_bytes}

-- the bytes are the encoding of this lawful entry, and then `after`
pub record IsNextEntryOf (limits : Limits) (bytes : List ℕ) (entry : Change) (after : List ℕ) : Type 0 where
  pub lawful : IsEntry limits entry
  pub spelled : bytes ≡ entry_spelling entry ++ after

-- a footer with these numbers ends the bytes
pub record IsFooterOf (bytes : List ℕ) (end count : ℕ) : Type 0 where
  pub front : List ℕ
  pub spelled : bytes ≡ front ++ footer_bytes end count
  pub end_fits : end < 2 ^ 64
  pub count_fits : count < 2 ^ 32
