-- The clashes of updates that come in the order of their keys.
use Rattle.std.specs.Prelude.{◌≡◌, ℕ, ◌<◌, ◌⊎◌, ◌↔◌, List, [], ◌∷◌, ◌++◌, length, map, Contains}
use Rattle.std.specs.List.{flat_map}
use Rattle.mt_words.specs.declared.update.Origin.{Origin}
use Rattle.mt_words.specs.declared.update.Origin.TheVariants.{Log, Checkpoint}
use Rattle.mt_words.specs.declared.update.Update.{Update}
use Rattle.mt_replay.specs.declared.clash.Place.{Place}
use Rattle.mt_replay.specs.declared.auditor.Seen.{Seen}
use Rattle.mt_replay.specs.Clashes.{Clash, Rises, IsLowerPlace, IsLowerClash}

-- whether something of this key and version comes from the record at this place
abbrev pub Standing : Type 1
Standing = List ℕ → ℕ → Place → Type 0

-- exactly the places at which this key and version stand, in order, of which there are two or more
pub record IsClashOf (Stands : Standing) (clash : Clash) : Type 0 where
  pub rise : Rises IsLowerPlace clash.places
  pub several : 1 < length clash.places
  pub exact : (place : Place) → Contains clash.places place ↔ Stands clash.key clash.version place

-- exactly the clashes of what stands, in order
pub record AreClashesOf (Stands : Standing) (clashes : List Clash) : Type 0 where
  pub rise : Rises IsLowerClash clashes
  pub exact : (clash : Clash) → Contains clashes clash ↔ IsClashOf Stands clash

-- by version, then by place
abbrev pub IsLowerSeen : Seen → Seen → Type 0
IsLowerSeen a b = (a.version < b.version) ⊎ ((a.version ≡ b.version) × IsLowerPlace a.place b.place)

-- this version and place were seen, of this key
abbrev pub IsSeen : List ℕ → List Seen → Standing
IsSeen own seen key version place = (own ≡ key) × Contains seen (record { version = version; place = place })

-- what an update of this version and origin shows: its version and place, or nothing if it is an entry
abbrev pub seen_by : ℕ → Origin → List Seen
seen_by version (Log log record_number) = record { version = version; place = record { log = log; nth = record_number } } ∷ []
seen_by version Checkpoint = []

-- what the updates show
abbrev pub seen_in : List Update → List Seen
seen_in updates = flat_map (λ (update : Update). seen_by update.stamp.version update.stamp.origin) updates

-- the clash of what was seen of a key at one version
abbrev pub clash_at : List ℕ → ℕ → List Seen → Clash
clash_at key version seen = record { key = key; version = version; places = map (λ (one : Seen). one.place) seen }

-- the clashes of what was seen of a key, after others
pub record AddClashes (key : List ℕ) (seen : List Seen) (old new : List Clash) : Type 0 where
  pub added : List Clash
  pub appended : new ≡ old ++ added
  pub are : AreClashesOf (IsSeen key seen) added
