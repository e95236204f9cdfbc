-- What is remembered of the chains of timestamps.
use Rattle.std.specs.Prelude.{◌≡◌, ℕ, zero, suc, ◌≤◌, ◌<◌, List, [], ◌∷◌, length, slice_index}

-- a chain that ends at this place, with these places before it, the last one first: each place is below the one after it, and its timestamp is not above that one's
abbrev pub IsChainTo : List ℕ → ℕ → List ℕ → Type 0
IsChainTo times place [] = place < length times
IsChainTo times place (last ∷ others) = (place < length times) × (last < place) × (slice_index times last ≤ slice_index times place) × IsChainTo times last others

abbrev pub IsSorted : List ℕ → Type 0
IsSorted ends = (k l : ℕ) → k ≤ l → l < length ends → slice_index ends k ≤ slice_index ends l

-- `before` leads from this place over as many earlier places of a chain
abbrev pub Leads : List ℕ → List ℕ → ℕ → ℕ → Type 0
Leads times before place zero = place < length before
Leads times before place (suc n) = (place < length before) × (slice_index before place < place) × (slice_index times (slice_index before place) ≤ slice_index times place) × Leads times before (slice_index before place) n

-- Of the chains of the first `n` timestamps that have a rank, `ends` has the least timestamp that one ends at, and `places` where.
pub record Climbed (times : List ℕ) (n : ℕ) (ends places before : List ℕ) : Type 0 where
  pub long : length places ≡ length ends
  pub read : length before ≡ n
  pub below : (k : ℕ) → k < length ends → slice_index places k < n
  pub reached : (k : ℕ) → k < length ends → slice_index ends k ≡ slice_index times (slice_index places k)
  pub leads : (k : ℕ) → k < length ends → Leads times before (slice_index places k) k
  pub sorted : IsSorted ends
  pub ranked : (place : ℕ) (others : List ℕ) → IsChainTo times place others → place < n → length others < length ends
  pub least : (place : ℕ) (others : List ℕ) → IsChainTo times place others → place < n → slice_index ends (length others) ≤ slice_index times place

-- of some ends
abbrev pub HasClimbed : List ℕ → List ℕ → List ℕ → Type 0
HasClimbed times places before = (ends : List ℕ) × Climbed times (length times) ends places before
