-- The checkpoint that `checkpoint` writes, and the line that it prints.
use Rattle.std.specs.Prelude.{◌≡◌, ◌+◌, ℕ, Bool, true, false, List, [], ◌∷◌, ◌++◌, codes, decimal, max}
use Rattle.std.specs.List.{flat_map}
use Rattle.mt_text.specs.Lines.{end_text, name_text}
use Rattle.mt_checkpoint.specs.Checkpoints.{Checkpoint, HasPairs, ArePartsWithin}
use Rattle.mt_recover.specs.declared.report.Report.{Report}
use Rattle.mt_recover.specs.Report.{Outcome}

-- The checkpoint has the pairs of the store that was recovered, in parts within the limit. It begins and ends at the cutoff, and its entries have the
-- greatest version that was found below the cutoff: those of late updates do not count.
pub record IsCheckpointOf (wanted limit : ℕ) (recovered : Outcome) (checkpoint : Checkpoint) : Type 0 where
  pub number : checkpoint.number ≡ wanted
  pub cutoff : checkpoint.cutoff ≡ recovered.report.cutoff
  pub version : checkpoint.version ≡ max 1 recovered.report.version_below_cutoff
  pub pairs : HasPairs recovered.store checkpoint
  pub within : ArePartsWithin limit checkpoint

-- a number after its name: the first of a line, or not
abbrev pub number_text : Bool → Bool → List ℕ × ℕ → List ℕ
number_text is_json is_first (name, n) = name_text is_json is_first name ++ decimal n

-- the line of a checkpoint: its number, how many parts it has, and what the report of its store says; its log has a mark above the cutoff
abbrev pub written_text : Bool → ℕ → ℕ → Report → List ℕ
written_text is_json number parts report =
    (number_text is_json true (codes "checkpoint", number)
    ++ flat_map (number_text is_json false) ((codes "parts", parts) ∷ (codes "cutoff", report.cutoff) ∷ (codes "last", report.cutoff + 1) ∷ (codes "version", report.version) ∷ []))
    ++ end_text is_json
