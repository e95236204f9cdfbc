-- While the parts of checkpoints are deleted by the rule, no checkpoint becomes valid.
use Rattle.std.proofs.Common.{◌≡◌, ℕ, ◌≤◌, Option, Some, None, List, [], ◌∷◌, ◌++◌, length, map, Contains, refl, sym, ap, ◌∙◌, subst, arith}
use Rattle.std.specs.Prelude.{IfSome}
use Rattle.std.specs.List.Sorted.{IsPermutation}
use Rattle.std.proofs.lemmas.Bool.{eq-eqb}
use Rattle.std.proofs.lemmas.List.{append-nil, length-append, length-map, nil_from_length}
use Rattle.std.proofs.lemmas.List.Elements.{Contains-append_left}
use Rattle.std.proofs.lemmas.List.Sorted.{Contains-permutation, IsPermutation-sym, IsPermutation-trans, length_permutation}
use Rattle.mt_words.proofs.Elements.{head_in}
use Rattle.mt_record.specs.Parts.{PartReading}
use Rattle.mt_scan.specs.PartScans.{KnownPart, whole, broken}
use Rattle.mt_scan.specs.Choice.{CheckpointReading, belongs_to, parts_of, AreItsParts, IsValid, IsChosenOf}
use Rattle.mt_scan.proofs.OneChoice.{at_place}
use Rattle.mt_replay.proofs.Members.{of_map, in_filter}
use Rattle.mt_laws.specs.Resuming.{IsDeleting, none_gone, some_gone, over_broken, all_gone, AreDeleting, NoneBecomesValid}

-- each of the parts that make up a checkpoint gives their number
pub count_given : (checkpoint : CheckpointReading) (texts : List PartReading) (text : PartReading) → AreItsParts texts checkpoint → Contains texts text
    → text.parts ≡ length texts
count_given checkpoint texts text make_up at =
    sym (ap (λ (t : PartReading). t.parts) at.2) ∙ (at_place checkpoint (length texts) 0 texts at.0 text make_up.in_place at.1).parts

-- if there was no part too many, some of these parts make up a checkpoint only if none is gone
none_is_gone : (before after gone : List KnownPart) (texts : List PartReading) (checkpoint : CheckpointReading)
    → ((part : PartReading) → Contains before (whole part) → length before ≤ part.parts) → IsPermutation before (after ++ gone)
    → IsPermutation after (map whole texts) → AreItsParts texts checkpoint → gone ≡ []
none_is_gone before after gone [] checkpoint enough split made make_up = absurd (omega (arith, make_up.some))
none_is_gone before after gone (text ∷ texts) checkpoint enough split made make_up =
    let all = text ∷ texts in
    let left : Contains after (whole text) = Contains-permutation (map whole all) after (whole text) (IsPermutation-sym after (map whole all) made) (head_in (whole text) (map whole texts)) in
    let there : Contains before (whole text) = Contains-permutation (after ++ gone) before (whole text) (IsPermutation-sym before (after ++ gone) split) (Contains-append_left after gone (whole text) left) in
    let most : length before ≤ text.parts = enough text there in
    let given : text.parts ≡ length all = count_given checkpoint all text make_up (head_in text texts) in
    nil_from_length gone (omega (arith, most, given, length_permutation before (after ++ gone) split, length-append after gone, length_permutation after (map whole all) made, length-map all whole))

pub not_made_of_none : (parts : List KnownPart) (texts : List PartReading) (checkpoint : CheckpointReading) → parts ≡ [] → IsPermutation parts (map whole texts)
    → AreItsParts texts checkpoint → ⊥
not_made_of_none parts texts checkpoint none moved make_up = omega (arith, make_up.some, length_permutation parts (map whole texts) moved, length-map texts whole, ap length none)

not_broken : (parts : List KnownPart) (number entries : ℕ) (texts : List PartReading) → Contains parts (broken number entries)
    → IsPermutation parts (map whole texts) → ⊥
not_broken parts number entries texts at moved =
    let found = of_map whole texts (broken number entries) (Contains-permutation parts (map whole texts) (broken number entries) moved at) in
    let same : whole found.0 ≡ broken number entries = found.2 in
    absurd cc

valid_before : (before after : List KnownPart) (checkpoint : CheckpointReading)
    → IsPermutation (parts_of checkpoint.number before) (parts_of checkpoint.number after) → IsValid after checkpoint → IsValid before checkpoint
valid_before before after checkpoint same valid = record {
  texts = valid.texts;
  are_whole = IsPermutation-trans (parts_of checkpoint.number before) (parts_of checkpoint.number after) (map whole valid.texts) same valid.are_whole;
  make_up = valid.make_up;
}

pub was_valid : (before after : List KnownPart) (checkpoint : CheckpointReading) → IsDeleting checkpoint.number before after → IsValid after checkpoint
    → IsValid before checkpoint
was_valid before after checkpoint (none_gone same) valid = valid_before before after checkpoint same valid
was_valid before after checkpoint (some_gone gone enough split) valid =
    let of_before = parts_of checkpoint.number before in
    let of_after = parts_of checkpoint.number after in
    let none = none_is_gone of_before of_after gone valid.texts checkpoint enough split valid.are_whole valid.make_up in
    valid_before before after checkpoint (subst (IsPermutation of_before) (ap (λ (l : List KnownPart). of_after ++ l) none ∙ append-nil of_after) split) valid
was_valid before after checkpoint (over_broken entries at) valid =
    absurd (not_broken (parts_of checkpoint.number after) checkpoint.number entries valid.texts
    (in_filter (belongs_to checkpoint.number) after (broken checkpoint.number entries) (eq-eqb checkpoint.number checkpoint.number refl) at) valid.are_whole)
was_valid before after checkpoint (all_gone none) valid = absurd (not_made_of_none (parts_of checkpoint.number after) valid.texts checkpoint none valid.are_whole valid.make_up)

stays_valid : (chosen : Option CheckpointReading) (before after : List KnownPart) → IfSome chosen (IsValid before) → AreDeleting chosen before after
    → IfSome chosen (IsValid after)
stays_valid None before after valid are = tt
stays_valid (Some checkpoint) before after valid are =
    valid_before after before checkpoint (IsPermutation-sym (parts_of checkpoint.number before) (parts_of checkpoint.number after) are.kept) valid

-- the chosen checkpoint is valid
chosen_valid : (parts : List KnownPart) (cutoff : ℕ) (chosen : Option CheckpointReading) → IsChosenOf parts cutoff chosen → IfSome chosen (IsValid parts)
chosen_valid parts cutoff None is = tt
chosen_valid parts cutoff (Some checkpoint) is = is.0.valid

pub none_becomes_valid : (before after : List KnownPart) (cutoff : ℕ) (chosen : Option CheckpointReading) → IsChosenOf before cutoff chosen
    → AreDeleting chosen before after → NoneBecomesValid chosen before after
none_becomes_valid before after cutoff chosen is are = record {
  stays = stays_valid chosen before after (chosen_valid before cutoff chosen is) are;
  none_new = λ checkpoint valid. was_valid before after checkpoint (are.others checkpoint.number) valid;
}
