-- The flat form of pairs, and what a buffer gets of them.
use Rattle.std.specs.Prelude.{◌≡◌, ◌≢◌, ℕ, suc, ◌<◌, ◌≤◌, List, [], length, take, Contains}
use Rattle.std.specs.List.{flat_map}
use Rattle.mt_words.specs.Walks.{Pair}
use Rattle.mt_words.specs.Built.{entry_of}
use Rattle.mt_record.specs.Parts.{entry_spelling}
use Rattle.mt_c.specs.declared.status.TheConstants.{DONE, ABSENT, SHORT}
use Rattle.mt_c.specs.Buffers.{IsWritten, IsShort, Writes}

-- the flat form of a pair: its entry in a part, of version 0
abbrev pub pair_bytes : Pair → List ℕ
pair_bytes pair = entry_spelling (entry_of 0 pair.0 pair.1)

-- a function with this status wrote the flat form of the pair that has this key to a buffer
pub record WritesPair (pairs : List Pair) (key before after : List ℕ) (count status : ℕ) : Type 0 where
  pub columns : List (ℕ × List ℕ)
  pub has_key : Contains pairs (key, columns)
  pub written : Writes (pair_bytes (key, columns)) before after count status

-- the flat forms of the pairs, one after the other
abbrev pub pairs_bytes : List Pair → List ℕ
pairs_bytes pairs = flat_map pair_bytes pairs

-- n is the greatest number of whole pairs that have room
pub record IsMost (pairs : List Pair) (room n : ℕ) : Type 0 where
  pub within : n ≤ length pairs
  pub fits : length (pairs_bytes (take n pairs)) ≤ room
  pub most : n < length pairs → room < length (pairs_bytes (take (suc n) pairs))

-- what a function with this status did that writes the first of these pairs to a buffer, as many as have room, and tells their number
pub record Dumps (pairs : List Pair) (before after : List ℕ) (count told status : ℕ) : Type 0 where
  pub some : status ≡ DONE → 0 < told
  pub most : status ≡ DONE → IsMost pairs (length before) told
  pub done : status ≡ DONE → IsWritten (pairs_bytes (take told pairs)) before after count
  pub short : status ≡ SHORT → IsShort (pairs_bytes (take 1 pairs)) before count
  pub absent : status ≡ ABSENT → pairs ≡ []
  pub kept : status ≢ DONE → after ≡ before
