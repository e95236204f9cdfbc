-- Pairs between two keys, and keys that cut a store into ranges of about equally many pairs.
use Rattle.std.specs.Prelude.{◌≡◌, ◌≢◌, ℕ, suc, ◌+◌, ◌*◌, ◌/◌, ◌%◌, ◌<◌, min, Bool, true, Option, Some, None, List, [], ◌∷◌, ◌++◌, filter, take, drop, slice_get}
use Rattle.std.specs.Ordering.{nat_cmp, is_lt}
use Rattle.std.specs.Cmp.Lexicographic.{slice_cmp}
use Rattle.mt_words.specs.Walks.{Pair}
use Rattle.mt_tree.specs.Range.{from}
use Rattle.mt_tree.specs.Trees.{IsCount}

-- whether the key is below the end; no bytes are no end
abbrev pub is_until : (end key : List ℕ) → Bool
is_until [] key = true
is_until (byte ∷ rest) key = is_lt (slice_cmp nat_cmp key (byte ∷ rest))

-- the pairs whose keys are below the end
abbrev pub until : List ℕ → List Pair → List Pair
until end pairs = filter (λ pair. is_until end pair.0) pairs

-- the pairs whose keys are at or after the start and below the end
abbrev pub between : (start end : List ℕ) → List Pair → List Pair
between start end pairs = until end (from start pairs)

-- the key of the pair at position n, if there is one
abbrev pub key_at : List Pair → ℕ → Option (List ℕ)
key_at pairs n = key_of (slice_get pairs n)
  where
    key_of : Option Pair → Option (List ℕ)
    key_of None = None
    key_of (Some pair) = Some pair.0

-- how many of `count` pairs come before range i of n ranges: the first `count` mod n ranges have one pair more than the others
abbrev pub pairs_before : (count i n : ℕ) → ℕ
pairs_before count i n = i * (count / n) + min i (count % n)

-- the key cuts the pairs: the first n are below it, and the others are not
pub record Cuts (pairs : List Pair) (n : ℕ) (key : List ℕ) : Type 0 where
  pub some : key ≢ []
  pub below : until key pairs ≡ take n pairs
  pub others : from key pairs ≡ drop n pairs

-- range i of n ranges of the pairs begins at the key: the first at no bytes, each other at a key that cuts the pairs
pub record BeginsRange (pairs : List Pair) (i n : ℕ) (key : List ℕ) : Type 0 where
  pub count : ℕ
  pub counted : IsCount pairs count
  pub first : i ≡ 0 → key ≡ []
  pub other : 0 < i → Cuts pairs (pairs_before count i n) key

-- ranges i, i + 1, .. of n ranges of the pairs begin at these keys, up to the last range
abbrev pub BeginRanges : List Pair → (i n : ℕ) → List (List ℕ) → Type 0
BeginRanges pairs i n [] = i ≡ n
BeginRanges pairs i n (key ∷ keys) = (i < n) × BeginsRange pairs i n key × BeginRanges pairs (suc i) n keys

-- the pairs of the ranges that begin at these keys, one range after the other: each ends where the next one begins, and the last has no end
abbrev pub each_range : List (List ℕ) → List Pair → List Pair
each_range [] pairs = []
each_range (key ∷ []) pairs = between key [] pairs
each_range (key ∷ next ∷ keys) pairs = between key next pairs ++ each_range (next ∷ keys) pairs
