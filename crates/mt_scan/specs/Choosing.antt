-- The choice of a checkpoint, as it is kept in memory.
use Rattle.std.specs.Prelude.{ℕ, List}
use Rattle.std.specs.List.{flat_map}
use Rattle.std.specs.Option.{option_map}
use Rattle.mt_scan.specs.declared.choice.Choice.{Choice}
use Rattle.mt_scan.specs.declared.checkpoint.Checkpoint.{Checkpoint}
use Rattle.mt_scan.specs.PartScans.{KnownPart}
use Rattle.mt_scan.specs.PartsShown.{shown_by_all}
use Rattle.mt_scan.specs.Choice.{CheckpointReading, IsChosenOf, AreSkipped, AreNameless}

-- a checkpoint in memory, as contracts see it: its entries are those of its parts, one part after another
abbrev pub checkpoint_in : Checkpoint → CheckpointReading
checkpoint_in checkpoint = record {
  number = checkpoint.number;
  begin = checkpoint.begin;
  end = checkpoint.end;
  entries = flat_map (λ text. text.entries) (shown_by_all checkpoint.parts.items);
}

-- the choice among these parts: the chosen checkpoint, the skipped numbers and the nameless positions
pub record IsChoiceOf (parts : List KnownPart) (cutoff : ℕ) (choice : Choice) : Type 0 where
  pub chosen : IsChosenOf parts cutoff (option_map checkpoint_in choice.chosen)
  pub skipped : AreSkipped parts choice.skipped.items
  pub nameless : AreNameless parts choice.nameless.items
