-- The selection among the groups is the choice among the parts.
use Rattle.std.proofs.Common.{◌≡◌, ◌∙◌, ℕ, ◌<◌, List, [], ◌∷◌, length, map, Contains, Option, Some, None, refl, sym, ap, subst, nat_cmp, arith}
use Rattle.std.specs.Option.{option_map}
use Rattle.std.specs.List.Sorted.{IsPermutation}
use Rattle.std.specs.BTreeMap.{BTreeMap, get, IsOrdered}
use Rattle.std.proofs.lemmas.Option.{same_Some}
use Rattle.std.proofs.lemmas.Cmp.{nat_cmp_total}
use Rattle.std.proofs.lemmas.List.{length-map, get_or-map}
use Rattle.std.proofs.lemmas.List.Sorted.{Contains-permutation, length_permutation}
use Rattle.std.proofs.lemmas.Map.Lookups.{exact_unsigned}
use Rattle.std.proofs.lemmas.Map.Views.{btree_map_get_iff}
use Rattle.mt_record.specs.Parts.{PartReading}
use Rattle.mt_scan.specs.PartScans.{KnownPart, whole, broken}
use Rattle.mt_scan.specs.Choice.{CheckpointReading, IsValid, MayBeChosen, IsChosenOf, IsSkipped, parts_of}
use Rattle.mt_scan.specs.Choosing.{checkpoint_in}
use Rattle.mt_scan.specs.Steps.Groups.{IsPartGroupOf, IsGroupAt, AreGroupsOf, HasCheckpoint}
use Rattle.mt_scan.specs.Steps.Selections.{IsOffered, IsPassed, IsBestOf, IsSelectionOf, IsSelectionFor}
use Rattle.mt_scan.specs.declared.checkpoint.Checkpoint.{Checkpoint}
use Rattle.mt_scan.specs.declared.selection.Selection.{Selection}
use Rattle.mt_scan.specs.declared.group.PartGroup.{PartGroup}
use Rattle.mt_scan.specs.declared.group.PartGroup.TheVariants as groups
use Rattle.mt_scan.proofs.CheckpointLemmas.{in_place_of}

-- ---- the parts of one checkpoint

-- a broken part is not among complete ones
not_whole : (texts : List PartReading) (number entries : ℕ) → Contains (map whole texts) (broken number entries) → ⊥
not_whole [] number entries at = omega (arith, at.1)
not_whole (x ∷ xs) number entries at =
    let fits : at.0 < length (x ∷ xs) = omega (arith, at.1, length-map (x ∷ xs) whole) in
    cc (get_or-map whole (x ∷ xs) at.0 x (broken number entries) fits, at.2)

-- the parts of a valid checkpoint have a group, and that group can make up the checkpoint
valid_has : (parts : List KnownPart) (group : Option PartGroup) (checkpoint : CheckpointReading) → IsGroupAt (parts_of checkpoint.number parts) group → IsValid parts checkpoint
    → (g : PartGroup) × (group ≡ Some g) × HasCheckpoint g checkpoint
valid_has parts None checkpoint at valid =
    let none : length (parts_of checkpoint.number parts) ≡ 0 = ap (λ (xs : List KnownPart). length xs) at in
    absurd (omega (arith, none, valid.make_up.some, length-map valid.texts whole, length_permutation (parts_of checkpoint.number parts) (map whole valid.texts) valid.are_whole))
valid_has parts (Some (groups.Whole texts)) checkpoint at valid = (
  groups.Whole texts,
  refl,
  record {
    ordered = valid.texts;
    same = subst (λ (xs : List KnownPart). IsPermutation xs (map whole valid.texts)) at.1 valid.are_whole;
    make_up = valid.make_up;
  },
)
valid_has parts (Some groups.Broken) checkpoint at valid =
    absurd (not_whole valid.texts at.0 at.1 (Contains-permutation (parts_of checkpoint.number parts) (map whole valid.texts) (broken at.0 at.1) valid.are_whole at.2))

-- a checkpoint that the group of its parts can make up is valid
has_valid : (parts : List KnownPart) (group : PartGroup) (checkpoint : CheckpointReading) → IsPartGroupOf (parts_of checkpoint.number parts) group → HasCheckpoint group checkpoint → IsValid parts checkpoint
has_valid parts (groups.Whole texts) checkpoint is has = record {
  texts = has.ordered;
  are_whole = subst (λ (xs : List KnownPart). IsPermutation xs (map whole has.ordered)) (sym is.1) has.same;
  make_up = has.make_up;
}
has_valid parts groups.Broken checkpoint is has = absurd has

some_parts : (parts : List KnownPart) (group : PartGroup) → IsPartGroupOf parts group → 0 < length parts
some_parts parts (groups.Whole texts) is = is.0
some_parts parts groups.Broken is = omega (arith, is.2.1)

-- the same checkpoint under another number
abbrev numbered : ℕ → CheckpointReading → CheckpointReading
numbered number checkpoint = record { number = number; begin = checkpoint.begin; end = checkpoint.end; entries = checkpoint.entries }

numbered_has : (number : ℕ) (group : PartGroup) (checkpoint : CheckpointReading) → HasCheckpoint group checkpoint → HasCheckpoint group (numbered number checkpoint)
numbered_has number (groups.Whole texts) checkpoint has = record {
  ordered = has.ordered;
  same = has.same;
  make_up = record {
    some = has.make_up.some;
    in_place = in_place_of checkpoint (numbered number checkpoint) (length has.ordered) 0 has.ordered refl refl has.make_up.in_place;
    begins = has.make_up.begins;
    all = has.make_up.all;
    rise = has.make_up.rise;
  };
}
numbered_has number groups.Broken checkpoint has = absurd has

-- ---- the groups of all parts

module _ (parts : List KnownPart) (all : BTreeMap ℕ PartGroup) (are : AreGroupsOf parts all) (ordered : IsOrdered nat_cmp all) where
  found : (number : ℕ) (group : PartGroup) → Contains all.entries (number, group) → get nat_cmp all number ≡ Some group
  found number group at = (btree_map_get_iff nat_cmp_total exact_unsigned all ordered number group).1 at

  group_at : (number : ℕ) (group : PartGroup) → get nat_cmp all number ≡ Some group → IsPartGroupOf (parts_of number parts) group
  group_at number group e = subst (IsGroupAt (parts_of number parts)) e (are number)

  may_be_offered : (cutoff : ℕ) (checkpoint : CheckpointReading) → MayBeChosen parts cutoff checkpoint → IsOffered all.entries cutoff checkpoint
  may_be_offered cutoff checkpoint may =
      let has = valid_has parts (get nat_cmp all checkpoint.number) checkpoint (are checkpoint.number) may.valid in
      record {
        group = has.0;
        stands = (btree_map_get_iff nat_cmp_total exact_unsigned all ordered checkpoint.number has.0).0 has.1;
        has = has.2;
        ends_below = may.ends_below;
      }

  may_be_chosen : (cutoff : ℕ) (checkpoint : CheckpointReading) → IsOffered all.entries cutoff checkpoint → MayBeChosen parts cutoff checkpoint
  may_be_chosen cutoff checkpoint is = record {
    valid = has_valid parts is.group checkpoint (group_at checkpoint.number is.group (found checkpoint.number is.group is.stands)) is.has;
    ends_below = is.ends_below;
  }

  chosen : (cutoff : ℕ) (best : Option Checkpoint) → IsBestOf all.entries cutoff best → IsChosenOf parts cutoff (option_map checkpoint_in best)
  chosen cutoff None is = λ other may. is other (may_be_offered cutoff other may)
  chosen cutoff (Some best) is = (may_be_chosen cutoff (checkpoint_in best) is.0, λ other may. is.1 other (may_be_offered cutoff other may))

  passed : (number : ℕ) → IsPassed all.entries number → IsSkipped parts number
  passed number is =
      let e = found number is.group is.stands in
      record {
        some = some_parts (parts_of number parts) is.group (group_at number is.group e);
        invalid = λ other same valid.
            let has = valid_has parts (get nat_cmp all other.number) other (are other.number) valid in
            let one : Some is.group ≡ Some has.0 = sym e ∙ ap (λ (n : ℕ). get nat_cmp all n) (sym same) ∙ has.1 in
            is.none other (subst (λ (g : PartGroup). HasCheckpoint g other) (sym (same_Some is.group has.0 one)) has.2);
      }

  skipped_at : (number : ℕ) (group : Option PartGroup) → get nat_cmp all number ≡ group → IsSkipped parts number → IsPassed all.entries number
  skipped_at number None e is =
      let none : parts_of number parts ≡ [] = subst (IsGroupAt (parts_of number parts)) e (are number) in
      absurd (omega (arith, is.some, ap (λ (xs : List KnownPart). length xs) none))
  skipped_at number (Some group) e is = record {
    group = group;
    stands = (btree_map_get_iff nat_cmp_total exact_unsigned all ordered number group).0 e;
    none = λ checkpoint has. is.invalid (numbered number checkpoint) refl (has_valid parts group (numbered number checkpoint) (group_at number group e) (numbered_has number group checkpoint has));
  }

  -- the selection among the groups is that among the parts
  pub selection_for : (cutoff : ℕ) (selection : Selection) → IsSelectionOf all.entries cutoff selection → IsSelectionFor parts cutoff selection
  selection_for cutoff selection is = record {
    chosen = chosen cutoff selection.best is.best;
    skipped = record {
      rise = is.rise;
      exact = λ number. (λ at. passed number ((is.exact number).0 at), λ skipped. (is.exact number).1 (skipped_at number (get nat_cmp all number) refl skipped));
    };
  }
