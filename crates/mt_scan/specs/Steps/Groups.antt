-- Parts grouped by the numbers of their checkpoints.
use Rattle.std.specs.Prelude.{◌≡◌, ℕ, ◌<◌, List, [], length, map, Option, Some, None, Contains}
use Rattle.std.specs.Ordering.{nat_cmp}
use Rattle.std.specs.BTreeMap.{BTreeMap, get}
use Rattle.mt_scan.specs.PartScans.{KnownPart, whole, broken}
use Rattle.mt_scan.specs.PartsShown.{shown_by_all}
use Rattle.mt_scan.specs.Choice.{CheckpointReading, parts_of}
use Rattle.mt_scan.specs.Steps.Checkpoints.{CanMakeUp, IsMadeOfParts}
use Rattle.mt_scan.specs.declared.group.PartGroup.{PartGroup}
use Rattle.mt_scan.specs.declared.group.PartGroup.TheVariants as groups
use Rattle.mt_scan.specs.declared.checkpoint.Checkpoint.{Checkpoint}

-- the group of the parts of a checkpoint: there is at least one and all are complete, or one of them is broken
abbrev pub IsPartGroupOf : List KnownPart → PartGroup → Type 0
IsPartGroupOf parts (groups.Whole texts) = (0 < length parts) × (parts ≡ map whole (shown_by_all texts.items))
IsPartGroupOf parts groups.Broken = (number : ℕ) × (entries : ℕ) × Contains parts (broken number entries)

-- there are no parts and no group, or this is their group
abbrev pub IsGroupAt : List KnownPart → Option PartGroup → Type 0
IsGroupAt parts None = parts ≡ []
IsGroupAt parts (Some group) = IsPartGroupOf parts group

-- the map has, under each checkpoint number, the group of the parts with that number
abbrev pub AreGroupsOf : List KnownPart → BTreeMap ℕ PartGroup → Type 0
AreGroupsOf parts all = (number : ℕ) → IsGroupAt (parts_of number parts) (get nat_cmp all number)

-- the parts of the group, all complete, make up this checkpoint in some order
abbrev pub HasCheckpoint : PartGroup → CheckpointReading → Type 0
HasCheckpoint (groups.Whole texts) checkpoint = CanMakeUp (shown_by_all texts.items) checkpoint
HasCheckpoint groups.Broken checkpoint = ⊥

-- the parts of the group make up no checkpoint
abbrev pub HasNone : PartGroup → Type 0
HasNone group = (checkpoint : CheckpointReading) → HasCheckpoint group checkpoint → ⊥

-- the checkpoint with this number, made of the parts of the group
abbrev pub IsCheckpointOf : ℕ → PartGroup → Checkpoint → Type 0
IsCheckpointOf number (groups.Whole texts) made = IsMadeOfParts number (shown_by_all texts.items) made
IsCheckpointOf number groups.Broken made = ⊥
