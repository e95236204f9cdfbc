-- The files of the parts of checkpoints while a server runs, and what becomes of them. A file has the name of a part once its bytes are synced, under another
-- name. So a crash leaves it whole, or not at all.
use Rattle.std.specs.Prelude.{◌≡◌, ℕ, ◌≤◌, ◌<◌, ◌⊎◌, Bool, true, Option, Some, None, IfSome, List, [], ◌∷◌, length, map, Contains}
use Rattle.mt_record.specs.Parts.{PartReading}
use Rattle.mt_scan.specs.PartScans.{KnownPart, whole, IsKnown}
use Rattle.mt_scan.specs.Choice.{CheckpointReading, belongs_to, parts_of, IsValid}
use Rattle.mt_recover.specs.Recovery.{AreKnown}
use Rattle.mt_laws.specs.Lives.{Checkpoints}

-- a file with the name of a part: its bytes, and whether its name is synced, so that no crash takes it away
pub record PartFile : Type 0 where
  pub bytes : List ℕ
  pub synced : Bool

-- the bytes of the files
abbrev pub bytes_of : List PartFile → List (List ℕ)
bytes_of files = map (λ file. file.bytes) files

-- each name is synced
abbrev pub AllSynced : List PartFile → Type 0
AllSynced files = (file : PartFile) → Contains files file → file.synced ≡ true

-- the file is a part of the checkpoint with this number, complete or broken
pub record IsPartOf (number : ℕ) (file : PartFile) : Type 0 where
  pub part : KnownPart
  pub is_known : IsKnown file.bytes part
  pub belongs : belongs_to number part ≡ true

-- the file is no part of the checkpoint that the server stands on, if any
abbrev pub IsNoPartOf : Option CheckpointReading → PartFile → Type 0
IsNoPartOf base file = IfSome base (λ checkpoint. IsPartOf checkpoint.number file → ⊥)

-- What becomes of the files: one that may go is there or not, its name synced or not. Each other one is there, and stays synced if it was.
pub data AreKept (MayGo : PartFile → Type 0) : List PartFile → List PartFile → Type 0 where
  none : AreKept MayGo [] []
  gone : (file : PartFile) (files left : List PartFile) → MayGo file → AreKept MayGo files left → AreKept MayGo (file ∷ files) left
  kept : (file now : PartFile) (files left : List PartFile) → now.bytes ≡ file.bytes → MayGo file ⊎ (file.synced ≡ true → now.synced ≡ true)
      → AreKept MayGo files left → AreKept MayGo (file ∷ files) (now ∷ left)

-- a checkpoint that is valid among the files of parts; each file of its parts is synced
pub record IsSyncedIn (files : List PartFile) (known : List KnownPart) (checkpoint : CheckpointReading) : Type 0 where
  pub valid : IsValid known checkpoint
  pub synced : (file : PartFile) → Contains files file → IsPartOf checkpoint.number file → file.synced ≡ true

-- The files of the parts, of one number for each checkpoint: there are no more with a number than a complete part names. The checkpoints that are valid were
-- written, and the one that the server stands on is synced.
pub record AreFilesOf (checkpoints : Checkpoints) (files : List PartFile) : Type 0 where
  pub known : List KnownPart
  pub are_known : AreKnown (bytes_of files) known
  pub no_more : (part : PartReading) → Contains known (whole part) → length (parts_of part.number known) ≤ part.parts
  pub written : (checkpoint : CheckpointReading) → IsValid known checkpoint → Contains checkpoints.written checkpoint
  pub base_is : IfSome checkpoints.base (IsSyncedIn files known)

-- The files of the parts of one checkpoint beside those in the folder, as far as they are there. Its number is above that of each part in the folder, and each
-- of its complete parts names at least as many as there are.
pub record AreNewFiles (before : List KnownPart) (number : ℕ) (files : List PartFile) : Type 0 where
  pub known : List KnownPart
  pub are_known : AreKnown (bytes_of files) known
  pub above : (part : KnownPart) (other : ℕ) → Contains before part → belongs_to other part ≡ true → other < number
  pub numbered : (part : KnownPart) (other : ℕ) → Contains known part → belongs_to other part ≡ true → other ≡ number
  pub no_more : (part : PartReading) → Contains known (whole part) → length files ≤ part.parts

-- the parts of the chosen checkpoint, if any
abbrev pub chosen_parts : Option CheckpointReading → List KnownPart → List KnownPart
chosen_parts None known = []
chosen_parts (Some chosen) known = parts_of chosen.number known

-- the files of the parts that a resume leaves: those of the chosen checkpoint, all synced
pub record AreChosenFiles (chosen : Option CheckpointReading) (known : List KnownPart) (files : List PartFile) : Type 0 where
  pub are_known : AreKnown (bytes_of files) (chosen_parts chosen known)
  pub synced : AllSynced files
