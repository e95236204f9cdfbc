-- Clashes: a version of a key that several updates of logs have.
use Rattle.std.specs.Prelude.{◌≡◌, ℕ, ◌+◌, ◌<◌, ◌⊎◌, ◌↔◌, Some, slice_get, List, [], ◌∷◌, length, Contains}
use Rattle.std.specs.List.{AllByRecursion}
use Rattle.mt_words.specs.declared.update.Origin.TheVariants as origins
use Rattle.mt_words.specs.declared.update.Update.{Update}
use Rattle.mt_words.specs.Words.{IsBelow}
use Rattle.mt_words.specs.Stamps.{IsBefore}
use Rattle.mt_replay.specs.declared.clash.Place.{Place}
use Rattle.mt_replay.specs.Cuts.{updates_in}

-- a clash: a key, a version of it, and the records that have it
pub record Clash : Type 0 where
  pub key : List ℕ
  pub version : ℕ
  pub places : List Place

-- one of the updates is of this key and version, and comes from the record at this place
pub record HasUpdateAt (updates : List Update) (key : List ℕ) (version : ℕ) (place : Place) : Type 0 where
  pub update : Update
  pub stands : Contains updates update
  pub of_key : update.key ≡ key
  pub of_version : update.stamp.version ≡ version
  pub of_record : update.stamp.origin ≡ origins.Log place.log place.nth

-- each element is lower than all that come after it
abbrev pub Rises : {A : Type 0} → (A → A → Type 0) → List A → Type 0
Rises IsLower [] = Unit {0}
Rises IsLower (x ∷ xs) = AllByRecursion (IsLower x) xs × Rises IsLower xs

-- places are ordered by log, then by record
abbrev pub IsLowerPlace : Place → Place → Type 0
IsLowerPlace a b = IsBefore (origins.Log a.log a.nth) (origins.Log b.log b.nth)

-- exactly the places of the updates of this key and version, in order, of which there are two or more
pub record IsClash (updates : List Update) (clash : Clash) : Type 0 where
  pub rise : Rises IsLowerPlace clash.places
  pub several : 1 < length clash.places
  pub exact : (place : Place) → Contains clash.places place ↔ HasUpdateAt updates clash.key clash.version place

-- clashes are ordered by key, then by version
abbrev pub IsLowerClash : Clash → Clash → Type 0
IsLowerClash a b = IsBelow a.key b.key ⊎ ((a.key ≡ b.key) × (a.version < b.version))

-- exactly the clashes of the updates, in order
pub record AreClashes (updates : List Update) (clashes : List Clash) : Type 0 where
  pub rise : Rises IsLowerClash clashes
  pub exact : (clash : Clash) → Contains clashes clash ↔ IsClash updates clash

-- the clashes of each piece that the cuts make, in order
pub record AreClashesOfPieces (updates : List Update) (cuts : List (List ℕ)) (pieces : List (List Clash)) : Type 0 where
  pub count : length pieces ≡ length cuts + 1
  pub each : (i : ℕ) (piece : List Clash) → slice_get pieces i ≡ Some piece → AreClashes (updates_in cuts i updates) piece
