-- Numbers by which updates are sorted: each has the head of a rest, and in its lowest bits the place of an update in a list. The rest is what follows some bytes of the update's key.
use Rattle.std.specs.Prelude.{◌≡◌, ℕ, ◌/◌, ◌%◌, ◌^◌, ◌<◌, slice_index_or, slice_get, Option, Some, None, List, [], map, take, drop, All}
use Rattle.std.specs.List.Sorted.{IsSortedBy, IsNonDecreasing}
use Rattle.mt_words.specs.declared.update.Update.{Update}
use Rattle.mt_words.specs.Slices.{AreBytes, slice_in}
use Rattle.mt_replay.specs.Cuts.{is_below}

-- the places that numbers have in their lowest bits
abbrev pub places : ℕ → List ℕ → List ℕ
places bits numbers = map (λ number. number % 2 ^ bits) numbers

-- the updates at some places, in their order
abbrev pub in_turn : List Update → Update → List ℕ → List Update
in_turn updates d numbers = map (λ place. slice_index_or updates place d) numbers

-- the keys of the updates have their first `depth` bytes in common
abbrev pub AreAlike : ℕ → List Update → Type 0
AreAlike depth updates = (shared : List ℕ) × All (λ (update : Update). take depth update.key ≡ shared) updates

-- what follows the first `depth` bytes of the key of an update, if there is one
abbrev pub rest_at : ℕ → Option Update → List ℕ
rest_at depth None = []
rest_at depth (Some update) = drop depth update.key

-- what follows the first `depth` bytes of the key of the update at a place
abbrev pub rest_in : List Update → ℕ → ℕ → List ℕ
rest_in updates depth place = rest_at depth (slice_get updates place)

-- what follows the first `depth` bytes of the key of a number's update
abbrev pub rest_of : ℕ → List Update → ℕ → ℕ → List ℕ
rest_of bits updates depth number = rest_in updates depth (number % 2 ^ bits)

-- what follows the first `depth` bytes of the keys of the numbers' updates
abbrev pub rests : ℕ → List Update → ℕ → List ℕ → List (List ℕ)
rests bits updates depth numbers = map (rest_of bits updates depth) numbers

-- rests in order
abbrev pub AreInOrder : List (List ℕ) → Type 0
AreInOrder rests = IsSortedBy is_below rests

-- the head of a rest: its slice without the lowest bits
abbrev pub head_of : ℕ → List ℕ → ℕ
head_of bits rest = slice_in rest / 2 ^ bits

-- a number begins with the head of a rest of bytes
pub record BeginsWith (bits number : ℕ) (rest : List ℕ) : Type 0 where
  pub head : number / 2 ^ bits ≡ head_of bits rest
  pub bytes : AreBytes rest

-- some numbers are sorted: their rests are in order, and their heads are below those of the numbers that are left, which are in order themselves
pub record AreSorted (bits : ℕ) (updates : List Update) (depth : ℕ) (done left : List ℕ) : Type 0 where
  pub in_order : AreInOrder (rests bits updates depth done)
  pub bytes : All AreBytes (rests bits updates depth done)
  pub below : All (λ rest. All (λ number. head_of bits rest < number / 2 ^ bits) left) (rests bits updates depth done)
  pub rising : IsNonDecreasing left
  pub heads : All (λ number. BeginsWith bits number (rest_of bits updates depth number)) left
