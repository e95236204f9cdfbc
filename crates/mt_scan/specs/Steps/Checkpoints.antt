-- Checkpoints that are made of complete parts. A text is what a complete part says.
use Rattle.std.specs.Prelude.{◌≡◌, ℕ, List, [], ◌∷◌, Option, Some, None, map, IsPermutation}
use Rattle.std.specs.Borrow.{Bor}
use Rattle.std.specs.List.{flat_map}
use Rattle.mt_words.specs.declared.record.Change.{Change}
use Rattle.mt_record.specs.Parts.{PartReading}
use Rattle.mt_scan.specs.PartScans.{whole}
use Rattle.mt_scan.specs.PartsShown.{KeptPart, shown_by_all}
use Rattle.mt_scan.specs.Choice.{CheckpointReading, AreItsParts}
use Rattle.mt_scan.specs.Choosing.{checkpoint_in}
use Rattle.mt_scan.specs.declared.checkpoint.Checkpoint.{Checkpoint}

-- the entries of these parts, one part after another
abbrev pub entries_of : List PartReading → List Change
entries_of texts = flat_map (λ text. text.entries) texts

-- the checkpoint with this number, begin and end, and the entries of these parts
abbrev pub reading_of : ℕ → ℕ → ℕ → List KeptPart → CheckpointReading
reading_of number begin end texts = record { number = number; begin = begin; end = end; entries = entries_of (shown_by_all texts) }

-- the same parts, in any order
abbrev pub AreSameTexts : List PartReading → List PartReading → Type 0
AreSameTexts texts others = IsPermutation (map whole texts) (map whole others)

-- the parts, in some order, make up the checkpoint
pub record CanMakeUp (texts : List PartReading) (checkpoint : CheckpointReading) : Type 0 where
  pub ordered : List PartReading
  pub same : AreSameTexts texts ordered
  pub make_up : AreItsParts ordered checkpoint

-- the parts make up no checkpoint, in any order
abbrev pub MakeUpNone : List PartReading → Type 0
MakeUpNone texts = (checkpoint : CheckpointReading) → CanMakeUp texts checkpoint → ⊥

-- the checkpoint has this number, and is made of these parts: it has the same ones, and they make it up in its order
pub record IsMadeOfParts (number : ℕ) (texts : List PartReading) (made : Checkpoint) : Type 0 where
  pub number_is : made.number ≡ number
  pub same : AreSameTexts texts (shown_by_all made.parts.items)
  pub make_up : AreItsParts (shown_by_all made.parts.items) (checkpoint_in made)

-- an optional key, as a list of at most one key
abbrev pub none_or_one : Option (Bor (List ℕ)) → List (List ℕ)
none_or_one None = []
none_or_one (Some key) = key.now ∷ []

-- the last key of a list, if there is one, as a list
abbrev pub last_key_of : List (List ℕ) → List (List ℕ)
last_key_of [] = []
last_key_of (key ∷ []) = key ∷ []
last_key_of (key ∷ next ∷ keys) = last_key_of (next ∷ keys)
