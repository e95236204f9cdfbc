-- Shared words, the hands that take steps on them, and the one order of all steps.
use Rattle.std.specs.Prelude.{◌≡◌, ℕ, zero, suc, ◌==◌, List, [], ◌∷◌, ◌++◌, length, slice_get, slice_index, slice_set, Some, if◌then◌else◌}
use Rattle.atomic_table.specs.Seated.{TableId}
use Rattle.mt_shared.specs.declared.known.Act.{Act}

-- some words: which ones they are, their values when they were opened, and how many hands they have
pub record WordsView : Type 0 where
  pub table : TableId
  pub first : List ℕ
  pub hands : ℕ

-- a hand: which words it is of, its number among their hands, and its acts, in order
pub record HandView : Type 0 where
  pub table : TableId
  pub number : ℕ
  pub acts : List Act

abbrev pub act : (word found left : ℕ) → Act
act word found left = record { word = word; found = found; left = left }

-- the hand with one act more
abbrev pub acted : HandView → Act → HandView
acted hand a = record hand { acts = hand.acts ++ a ∷ [] }

abbrev pub fresh_hand : TableId → ℕ → HandView
fresh_hand table number = record { table = table; number = number; acts = [] }

-- the first n hands of new words, in order of their numbers
abbrev pub fresh_hands : TableId → ℕ → List HandView
fresh_hands table zero = []
fresh_hands table (suc n) = fresh_hands table n ++ fresh_hand table n ∷ []

-- the hand of this number took this step
pub record Step : Type 0 where
  pub by : ℕ
  pub act : Act

-- the steps, in this order, lead from the one values of the words to the others: each finds what the words have there
abbrev pub Leads : List ℕ → List Step → List ℕ → Type 0
Leads words [] after = after ≡ words
Leads words (s ∷ steps) after = (s.act.found ≡ slice_index words s.act.word) × Leads (slice_set words s.act.word s.act.left) steps after

-- the acts of the hand of this number
abbrev pub acts_by : ℕ → List Step → List Act
acts_by k [] = []
acts_by k (s ∷ steps) = if s.by == k then s.act ∷ acts_by k steps else acts_by k steps

-- the acts of the k-th hand, or none
abbrev pub acts_at : ℕ → List HandView → List Act
acts_at k [] = []
acts_at zero (hand ∷ hands) = hand.acts
acts_at (suc k) (hand ∷ hands) = acts_at k hands

-- these are all hands, in order of their numbers
pub record AreAll (count : ℕ) (hands : List HandView) : Type 0 where
  pub whole : length hands ≡ count
  pub placed : (k : ℕ) (hand : HandView) → slice_get hands k ≡ Some hand → hand.number ≡ k
