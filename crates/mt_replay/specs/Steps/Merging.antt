-- Two lists of updates in the order of their keys that are merged.
use Rattle.std.specs.Prelude.{◌≡◌, ℕ, false, Option, Some, None, List, [], ◌∷◌, ◌++◌, IsPermutation}
use Rattle.mt_words.specs.declared.update.Update.{Update}
use Rattle.mt_replay.specs.Cuts.{is_below, InKeyOrder}
use Rattle.mt_replay.specs.Steps.Numbers.{places, in_turn}

-- the updates of a part, if there is one
abbrev pub updates_of : Option (List Update) → List Update
updates_of None = []
updates_of (Some updates) = updates

-- the updates at the places of numbers
abbrev pub numbered : List Update → ℕ → Update → List ℕ → List Update
numbered updates bits d numbers = in_turn updates d (places bits numbers)

-- the first update, if there is one, is not below the key
abbrev pub IsFrom : List ℕ → List Update → Type 0
IsFrom key [] = Unit {0}
IsFrom key (update ∷ updates) = is_below update.key key ≡ false

-- some updates of both lists are merged; what is left of each follows them in order
pub record IsMerging (first second merged left right : List Update) : Type 0 where
  pub same : IsPermutation (first ++ second) (merged ++ (left ++ right))
  pub by_first : InKeyOrder (merged ++ left)
  pub by_second : InKeyOrder (merged ++ right)

-- all updates of both lists, in order
pub record IsMerged (first second merged : List Update) : Type 0 where
  pub same : IsPermutation (first ++ second) merged
  pub in_order : InKeyOrder merged
