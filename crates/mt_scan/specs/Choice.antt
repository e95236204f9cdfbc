-- Checkpoints: which are valid, and which one is chosen.
use Rattle.std.specs.Prelude.{◌≡◌, ℕ, suc, ◌<◌, ◌≤◌, ◌⊎◌, ◌↔◌, ◌==◌, Bool, false, Option, Some, None, List, [], ◌∷◌, length, map, filter, Contains, slice_get, IsPermutation}
use Rattle.std.specs.List.Sorted.{IsStrictlyIncreasing}
use Rattle.std.specs.List.{flat_map}
use Rattle.mt_words.specs.declared.record.Change.{Change}
use Rattle.mt_words.specs.Words.{AreRising}
use Rattle.mt_record.specs.Parts.{PartReading}
use Rattle.mt_scan.specs.PartScans.{KnownPart, whole, broken, nameless}

-- what a checkpoint says: its number, the timestamp from which logs are replayed over it, the timestamp at which it was complete, and its entries
pub record CheckpointReading : Type 0 where
  pub number : ℕ
  pub begin : ℕ
  pub end : ℕ
  pub entries : List Change

-- the part belongs to the checkpoint with this number
abbrev pub belongs_to : ℕ → KnownPart → Bool
belongs_to number (whole part) = part.number == number
belongs_to number (broken other entries) = other == number
belongs_to number nameless = false

-- the parts of the checkpoint with this number
abbrev pub parts_of : ℕ → List KnownPart → List KnownPart
parts_of number parts = filter (belongs_to number) parts

-- the part has the number `place`, gives `count` as the number of parts, and agrees with the checkpoint in begin and end
pub record IsPartAt (checkpoint : CheckpointReading) (count place : ℕ) (part : PartReading) : Type 0 where
  pub stands : part.part ≡ place
  pub parts : part.parts ≡ count
  pub begin_agrees : part.begin ≡ checkpoint.begin
  pub end_agrees : part.end ≡ checkpoint.end

-- the parts are in order from this place on: each has the number of its place
abbrev pub AreInPlace : CheckpointReading → ℕ → ℕ → List PartReading → Type 0
AreInPlace checkpoint count place [] = Unit {0}
AreInPlace checkpoint count place (part ∷ parts) = IsPartAt checkpoint count place part × AreInPlace checkpoint count (suc place) parts

-- the keys of the entries
abbrev pub entry_keys : List Change → List (List ℕ)
entry_keys entries = map (λ entry. entry.key) entries

-- These parts, in this order, make up the checkpoint. There is at least one. They agree in begin, end and the number of parts, and each has the
-- number of its place. The checkpoint begins at its end at the latest. Its entries are theirs, one part after another, with strictly rising keys.
pub record AreItsParts (texts : List PartReading) (checkpoint : CheckpointReading) : Type 0 where
  pub some : 0 < length texts
  pub in_place : AreInPlace checkpoint (length texts) 0 texts
  pub begins : checkpoint.begin ≤ checkpoint.end
  pub all : checkpoint.entries ≡ flat_map (λ text. text.entries) texts
  pub rise : AreRising (entry_keys checkpoint.entries)

-- the parts with the checkpoint's number are all complete and, in some order, each of them once, make it up
pub record IsValid (parts : List KnownPart) (checkpoint : CheckpointReading) : Type 0 where
  pub texts : List PartReading
  pub are_whole : IsPermutation (parts_of checkpoint.number parts) (map whole texts)
  pub make_up : AreItsParts texts checkpoint

-- a valid checkpoint that ends below the cutoff
pub record MayBeChosen (parts : List KnownPart) (cutoff : ℕ) (checkpoint : CheckpointReading) : Type 0 where
  pub valid : IsValid parts checkpoint
  pub ends_below : checkpoint.end < cutoff

-- the first is no better than the second: the second ends later, or at the same time and has no smaller number
abbrev pub IsNoBetter : CheckpointReading → CheckpointReading → Type 0
IsNoBetter a b = (a.end < b.end) ⊎ ((a.end ≡ b.end) × (a.number ≤ b.number))

-- of the valid checkpoints that end below the cutoff, the one with the greatest end, and of several the greatest number; None if there is none
abbrev pub IsChosenOf : List KnownPart → ℕ → Option CheckpointReading → Type 0
IsChosenOf parts cutoff None = (other : CheckpointReading) → MayBeChosen parts cutoff other → ⊥
IsChosenOf parts cutoff (Some chosen) =
    MayBeChosen parts cutoff chosen × ((other : CheckpointReading) → MayBeChosen parts cutoff other → IsNoBetter other chosen)

-- there are parts with this checkpoint number, and no valid checkpoint has it
pub record IsSkipped (parts : List KnownPart) (number : ℕ) : Type 0 where
  pub some : 0 < length (parts_of number parts)
  pub invalid : (other : CheckpointReading) → other.number ≡ number → IsValid parts other → ⊥

-- exactly the numbers of the invalid checkpoints, strictly rising
pub record AreSkipped (parts : List KnownPart) (numbers : List ℕ) : Type 0 where
  pub rise : IsStrictlyIncreasing numbers
  pub exact : (number : ℕ) → Contains numbers number ↔ IsSkipped parts number

-- exactly the positions of the nameless parts, strictly rising
pub record AreNameless (parts : List KnownPart) (positions : List ℕ) : Type 0 where
  pub rise : IsStrictlyIncreasing positions
  pub exact : (i : ℕ) → Contains positions i ↔ (slice_get parts i ≡ Some nameless)
