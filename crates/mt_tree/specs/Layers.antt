-- The number of trees that a walk needs: its own, and one for each 8 bytes that begin two or more longer keys of a layer.
use Rattle.std.specs.Prelude.{◌≡◌, ◌↔◌, ℕ, ◌+◌, ◌-◌, ◌^◌, ◌≤◌, ◌&&◌, Bool, min, nat_eq, nat_lt}
use Rattle.std.specs.Prelude.{List, length, take, drop, map, filter, sum_by, Contains}
use Rattle.std.specs.Cmp.Lexicographic.{pointwise}
use Rattle.mt_words.specs.Walks.{Pair}
use Rattle.mt_words.specs.Words.{AreRising}

-- whether the key is longer than 8 bytes and these are its first 8
abbrev pub lies_under : List ℕ → List ℕ → Bool
lies_under head key = nat_lt 8 (length key) && pointwise nat_eq head (take 8 key)

-- the pairs whose keys lie under these 8 bytes, with the 8 bytes taken off each key
abbrev pub under : List ℕ → List Pair → List Pair
under head pairs = map (λ pair. (drop 8 pair.0, pair.1)) (filter (λ pair. lies_under head pair.0) pairs)

-- the heads of a walk, which rise: the lists of 8 bytes that begin two or more keys longer than 8 bytes
pub record AreHeads (pairs : List Pair) (heads : List (List ℕ)) : Type 0 where
  pub rising : AreRising heads
  pub each : (head : List ℕ) → Contains heads head ↔ (2 ≤ length (under head pairs))

-- the number of trees of a walk: its own, and those of what lies under each of its heads
pub data IsLayers : List Pair → ℕ → Type 0 where
  own_and_under : {pairs : List Pair} {heads : List (List ℕ)} {trees : List ℕ → ℕ} → AreHeads pairs heads
      → ((head : List ℕ) → Contains heads head → IsLayers (under head pairs) (trees head)) → IsLayers pairs (1 + sum_by trees heads)

-- the number of trees, capped at the greatest number that 64 bits hold
pub record CountsLayers (pairs : List Pair) (count : ℕ) : Type 0 where
  pub number : ℕ
  pub is : IsLayers pairs number
  pub stops : count ≡ min number (2 ^ 64 - 1)
