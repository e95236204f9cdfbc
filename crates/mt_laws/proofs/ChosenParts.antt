-- The parts that a resume leaves are those of the chosen checkpoint, which no other part is among. Those of a fresh start are too.
use Rattle.std.proofs.Common.{◌≡◌, inl, inr, ℕ, ◌+◌, ◌≤◌, true, Option, Some, None, List, [], ◌∷◌, length, map, Contains, refl, sym, ap, ◌∙◌, subst, arith}
use Rattle.std.proofs.lemmas.Bool.{cases_Bool, cases_eq, eqb-true, false≢true}
use Rattle.std.proofs.lemmas.List.{length-map}
use Rattle.std.proofs.lemmas.List.Sorted.{Contains-permutation, length_permutation}
use Rattle.mt_words.specs.Walks.{Pair, IsMap}
use Rattle.mt_words.proofs.Elements.{no_element, head_in}
use Rattle.mt_record.specs.Parts.{PartReading}
use Rattle.mt_checkpoint.specs.Checkpoints.{Checkpoint, HasPairs}
use Rattle.mt_scan.specs.PartScans.{KnownPart, whole, broken, nameless}
use Rattle.mt_scan.specs.Choice.{CheckpointReading, belongs_to, parts_of, IsValid, IsChosenOf}
use Rattle.mt_scan.proofs.OneChoice.{one_valid}
use Rattle.mt_replay.proofs.Members.{of_map, of_filter}
use Rattle.mt_recover.specs.Recovery.{AreKnown, Facts}
use Rattle.mt_laws.specs.Lives.{only}
use Rattle.mt_laws.specs.Fresh.{AreAllParts, reading_with}
use Rattle.mt_laws.specs.PartFiles.{PartFile, bytes_of, AllSynced, AreFilesOf, AreChosenFiles}
use Rattle.mt_laws.proofs.Deleted.{count_given, not_made_of_none}
use Rattle.mt_laws.proofs.NewParts.{no_parts, same_valid}
use Rattle.mt_laws.proofs.FreshParts.{known_as}

-- the parts of a number among the parts of that number
parts_twice : (number : ℕ) (parts : List KnownPart) → parts_of number (parts_of number parts) ≡ parts_of number parts
parts_twice number [] = refl
parts_twice number (p ∷ ps) = elim (cases_Bool (belongs_to number p)) as (λ _. parts_of number (parts_of number (p ∷ ps)) ≡ parts_of number (p ∷ ps)) [
  | inl is ↦ rw (is, is) (ap (λ (l : List KnownPart). p ∷ l) (parts_twice number ps))
  | inr not ↦ rw not (parts_twice number ps)
]

-- each part of a valid checkpoint is complete, and names as many as there are
part_is : (known : List KnownPart) (chosen : CheckpointReading) (part : KnownPart) → IsValid known chosen → Contains (parts_of chosen.number known) part
    → (text : PartReading) × (whole text ≡ part) × (length (parts_of chosen.number known) ≡ text.parts)
part_is known chosen part valid at =
    let among = Contains-permutation (parts_of chosen.number known) (map whole valid.texts) part valid.are_whole at in
    let text = of_map whole valid.texts part among in
    let long = length_permutation (parts_of chosen.number known) (map whole valid.texts) valid.are_whole in
    (text.0, text.2, sym long ∙ length-map valid.texts whole ∙ sym (count_given chosen valid.texts text.0 valid.make_up text.1))

of_chosen : (known : List KnownPart) (chosen : CheckpointReading) (files : List PartFile) → IsValid known chosen → AreChosenFiles (Some chosen) known files
    → AreFilesOf (only (Some chosen)) files
of_chosen known chosen files valid are = record {
  known = kept;
  are_known = are.are_known;
  no_more = λ part at.
      let is = part_is known chosen (whole part) valid at in
      let text : whole is.0 ≡ whole part = is.1 in
      let same : is.0 ≡ part = cc in
      let number = eqb-true part.number chosen.number (of_filter (belongs_to chosen.number) known (whole part) at).1 in
      let long : length kept ≡ part.parts = is.2 ∙ ap (λ (t : PartReading). t.parts) same in
      subst (λ (n : ℕ). length (parts_of n kept) ≤ part.parts) (sym number) (omega (arith, long, ap length (parts_twice chosen.number known)));
  written = λ other other_valid. elim (cases_eq other.number chosen.number) as (λ _. Contains (chosen ∷ []) other) [
    | inl same ↦ subst (Contains (chosen ∷ [])) (one_valid kept chosen other kept_valid other_valid (sym same)) (head_in chosen [])
    | inr apart ↦
        let none : parts_of other.number kept ≡ [] = no_parts other.number kept (λ part at is. apart (one_number part other.number is (of_filter (belongs_to chosen.number) known part at).1)) in
        absurd (not_made_of_none (parts_of other.number kept) other_valid.texts other none other_valid.are_whole other_valid.make_up)
  ];
  base_is = record { valid = kept_valid; synced = λ file at is_part. are.synced file at };
}
  where
    kept : List KnownPart
    kept = parts_of chosen.number known

    kept_valid : IsValid kept chosen
    kept_valid = same_valid known kept chosen (sym (parts_twice chosen.number known)) valid

    one_number : (part : KnownPart) (number : ℕ) → belongs_to number part ≡ true → belongs_to chosen.number part ≡ true → number ≡ chosen.number
    one_number (whole part) number is too = sym (eqb-true part.number number is) ∙ eqb-true part.number chosen.number too
    one_number (broken other entries) number is too = sym (eqb-true other number is) ∙ eqb-true other chosen.number too
    one_number nameless number is too = absurd (false≢true is)

-- where no checkpoint is chosen, no part is left
pub of_none : (known : List KnownPart) (files : List PartFile) → AreChosenFiles None known files → AreFilesOf (only None) files
of_none known [] are = record {
  known = [];
  are_known = tt;
  no_more = λ part at. absurd (no_element (whole part) at);
  written = λ checkpoint valid. absurd (not_made_of_none [] valid.texts checkpoint refl valid.are_whole valid.make_up);
  base_is = tt;
}
of_none known (f ∷ fs) are = absurd are.are_known

by_choice : (chosen : Option CheckpointReading) (known : List KnownPart) (cutoff : ℕ) (files : List PartFile) → IsChosenOf known cutoff chosen → AreChosenFiles chosen known files
    → AreFilesOf (only chosen) files
by_choice None known cutoff files is are = of_none known files are
by_choice (Some chosen) known cutoff files is are = of_chosen known chosen files is.0.valid are

pub chosen_left : (left parts : List (List ℕ)) (facts : Facts left parts) (files : List PartFile) → AreChosenFiles facts.chosen facts.known files
    → AreFilesOf (only facts.chosen) files
chosen_left left parts facts files are = by_choice facts.chosen facts.known facts.cutoff files facts.is_chosen are

-- ---- a fresh start

pub fresh_parts : (pairs : List Pair) (checkpoint : Checkpoint) (files : List PartFile) → IsMap pairs → HasPairs pairs checkpoint
    → AreAllParts checkpoint (bytes_of files) → AllSynced files → AreFilesOf (only (Some (reading_with checkpoint pairs))) files
fresh_parts pairs checkpoint files is_map is all synced =
    let found = known_as pairs checkpoint (bytes_of files) is_map is all in
    of_chosen found.known (reading_with checkpoint pairs) files (found.chosen (checkpoint.cutoff + 1) (omega arith)).0.valid
    (record { are_known = subst (AreKnown (bytes_of files)) (sym found.belong) found.are_known; synced = synced })
