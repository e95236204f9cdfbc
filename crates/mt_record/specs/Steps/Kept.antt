-- The bodies that are kept of a log or a part.
use Rattle.std.specs.Prelude.{◌≡◌, ◌↔◌, ◌<◌, ◌+◌, ◌-◌, ◌^◌, ℕ, Bool, List, [], length, slice_index_or, map, filter, All, IsTrue}
use Rattle.mt_words.specs.Slices.{AreBytes, slice_in}
use Rattle.mt_words.specs.Words.{AreRising}
use Rattle.mt_words.specs.Changes.{is_mark}
use Rattle.mt_record.specs.Logs.{count_of}
use Rattle.mt_record.specs.Decoding.{decode, change_in, IsEntryBody}
use Rattle.mt_record.specs.Steps.Bodies.{IsLawfulBody}

-- these are the bodies of lawful records, and `marks` of them are marks, as far as a u64 counts
pub record AreKept (bodies : List (List ℕ)) (marks : ℕ) : Type 0 where
  pub lawful : All IsLawfulBody bodies
  pub marked : marks ≡ count_of (filter is_mark (map decode bodies))

-- the last of the keys, if there is one, has this slice
abbrev pub IsLastSlice : List (List ℕ) → ℕ → Type 0
IsLastSlice keys last = 0 < length keys → (last ≡ slice_in (slice_index_or keys (length keys - 1) [])) × AreBytes (slice_index_or keys (length keys - 1) [])

-- these are the bodies of entries, `rising` says whether their keys strictly rise, and `last` is the slice of the last key
pub record AreKeptEntries (bodies : List (List ℕ)) (rising : Bool) (last : ℕ) : Type 0 where
  pub lawful : All IsEntryBody bodies
  pub told : IsTrue rising ↔ AreRising (map (λ entry. entry.key) (map change_in bodies))
  pub slice : IsLastSlice (map (λ entry. entry.key) (map change_in bodies)) last

-- these are the bodies of lawful records, and the numbers of the records, from `from` on, fit a u64
pub record IsShare (from : ℕ) (bodies : List (List ℕ)) : Type 0 where
  pub lawful : All IsLawfulBody bodies
  pub fits : from + length bodies < 2 ^ 64
