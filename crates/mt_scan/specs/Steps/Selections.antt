-- The selection of the best checkpoint among groups of parts.
use Rattle.std.specs.Prelude.{ℕ, ◌<◌, ◌≤◌, ◌↔◌, List, Option, Some, None, Contains}
use Rattle.std.specs.Option.{option_map}
use Rattle.std.specs.List.Sorted.{IsStrictlyIncreasing}
use Rattle.mt_scan.specs.PartScans.{KnownPart}
use Rattle.mt_scan.specs.Choice.{CheckpointReading, IsNoBetter, IsChosenOf, AreSkipped}
use Rattle.mt_scan.specs.Choosing.{checkpoint_in}
use Rattle.mt_scan.specs.Steps.Groups.{HasCheckpoint, HasNone}
use Rattle.mt_scan.specs.declared.checkpoint.Checkpoint.{Checkpoint}
use Rattle.mt_scan.specs.declared.group.PartGroup.{PartGroup}
use Rattle.mt_scan.specs.declared.selection.Selection.{Selection}

-- the numbers of these groups are below this one
abbrev pub GroupsBelow : List (ℕ × PartGroup) → ℕ → Type 0
GroupsBelow all number = (entry : ℕ × PartGroup) → Contains all entry → entry.0 < number

-- a checkpoint of one of these groups that ends below the cutoff
pub record IsOffered (all : List (ℕ × PartGroup)) (cutoff : ℕ) (checkpoint : CheckpointReading) : Type 0 where
  pub group : PartGroup
  pub stands : Contains all (checkpoint.number, group)
  pub has : HasCheckpoint group checkpoint
  pub ends_below : checkpoint.end < cutoff

-- the number of one of these groups whose parts make up no checkpoint
pub record IsPassed (all : List (ℕ × PartGroup)) (number : ℕ) : Type 0 where
  pub group : PartGroup
  pub stands : Contains all (number, group)
  pub none : HasNone group

-- the best of the checkpoints that are offered; None if none is offered
abbrev pub IsBestOf : List (ℕ × PartGroup) → ℕ → Option Checkpoint → Type 0
IsBestOf all cutoff None = (other : CheckpointReading) → IsOffered all cutoff other → ⊥
IsBestOf all cutoff (Some best) = IsOffered all cutoff (checkpoint_in best) × ((other : CheckpointReading) → IsOffered all cutoff other → IsNoBetter other (checkpoint_in best))

-- the selection among these groups: the best checkpoint, and exactly the numbers of the groups without one, strictly rising
pub record IsSelectionOf (all : List (ℕ × PartGroup)) (cutoff : ℕ) (selection : Selection) : Type 0 where
  pub best : IsBestOf all cutoff selection.best
  pub rise : IsStrictlyIncreasing selection.skipped.items
  pub exact : (number : ℕ) → Contains selection.skipped.items number ↔ IsPassed all number

-- a checkpoint that replaces the best one so far: it ends below the cutoff, and the best so far does not end later
abbrev pub IsNoWorse : ℕ → Option Checkpoint → Checkpoint → Type 0
IsNoWorse cutoff None next = next.end < cutoff
IsNoWorse cutoff (Some best) next = (next.end < cutoff) × (best.end ≤ next.end)

-- the selection among these parts: the chosen checkpoint and the skipped numbers
pub record IsSelectionFor (parts : List KnownPart) (cutoff : ℕ) (selection : Selection) : Type 0 where
  pub chosen : IsChosenOf parts cutoff (option_map checkpoint_in selection.best)
  pub skipped : AreSkipped parts selection.skipped.items
