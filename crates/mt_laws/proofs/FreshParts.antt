-- The parts of a checkpoint that was written make it up, in any order, and no other checkpoint.
use Rattle.std.proofs.Common.{◌≡◌, inr, ℕ, zero, suc, ◌+◌, ◌<◌, true, List, [], ◌∷◌, length, map, Contains, Some, refl, sym, ap, ◌∙◌, subst, arith}
use Rattle.std.specs.List.{flat_map, range_with_len, AllByRecursion, AllZip}
use Rattle.std.specs.List.Sorted.{IsPermutation}
use Rattle.std.proofs.lemmas.Bool.{eq-eqb, eqb-true}
use Rattle.std.proofs.lemmas.List.Folds.{flat_map-map}
use Rattle.std.proofs.lemmas.List.FromFn.{length-map-range_with_len, fill_by_all}
use Rattle.std.proofs.lemmas.List.Sorted.{Contains-permutation, IsPermutation-sym, IsPermutation-map}
use Rattle.mt_words.specs.Words.{IsBelow, AreRising}
use Rattle.mt_words.specs.Walks.{Pair, KeysRise, IsMap}
use Rattle.mt_words.proofs.Elements.{head_in}
use Rattle.mt_record.specs.Parts.{PartReading, IsPartReading}
use Rattle.mt_checkpoint.specs.Checkpoints.{Checkpoint, HasPairs, entries_with, pairs_of, part_reading}
use Rattle.mt_checkpoint.proofs.Sound.{all_entries}
use Rattle.mt_scan.specs.PartScans.{KnownPart, whole}
use Rattle.mt_scan.specs.Choice.{CheckpointReading, belongs_to, parts_of, AreInPlace, entry_keys, IsValid, IsChosenOf}
use Rattle.mt_scan.proofs.OneChoice.{one_valid}
use Rattle.mt_replay.proofs.Members.{of_map, of_filter}
use Rattle.mt_recover.specs.Recovery.{AreKnown, Facts}
use Rattle.mt_recover.proofs.OneVerdict.{same_facts}
use Rattle.mt_laws.specs.Fresh.{AreAllParts, reading_with}

-- ---- what the parts say

-- what is known of it
abbrev known_at : Checkpoint → ℕ → KnownPart
known_at checkpoint part = whole (part_reading checkpoint part)

-- the numbers of its parts
abbrev numbers : Checkpoint → List ℕ
numbers checkpoint = range_with_len 0 (length checkpoint.parts)

all_known : (checkpoint : Checkpoint) (parts : List (List ℕ)) (order : List ℕ) → AllZip (λ bytes part. IsPartReading bytes (part_reading checkpoint part)) parts order
    → AreKnown parts (map (known_at checkpoint) order)
all_known checkpoint [] [] are = tt
all_known checkpoint [] (part ∷ order) are = are
all_known checkpoint (bytes ∷ parts) [] are = are
all_known checkpoint (bytes ∷ parts) (part ∷ order) are = (are.0, all_known checkpoint parts order are.1)

-- all of them belong to the checkpoint
all_belong : (checkpoint : Checkpoint) (order : List ℕ) → parts_of checkpoint.number (map (known_at checkpoint) order) ≡ map (known_at checkpoint) order
all_belong checkpoint [] = refl
all_belong checkpoint (part ∷ order) = rw (eq-eqb checkpoint.number checkpoint.number refl) (ap (λ (l : List KnownPart). known_at checkpoint part ∷ l) (all_belong checkpoint order))

-- ---- they make it up

in_place_from : (pairs : List Pair) (checkpoint : Checkpoint) (place count : ℕ)
    → AreInPlace (reading_with checkpoint pairs) (length checkpoint.parts) place (map (part_reading checkpoint) (range_with_len place count))
in_place_from pairs checkpoint place zero = tt
in_place_from pairs checkpoint place (suc count) =
    let next : place + 1 ≡ suc place = omega arith in (
      record { stands = refl; parts = refl; begin_agrees = refl; end_agrees = refl },
      subst (λ (n : ℕ). AreInPlace (reading_with checkpoint pairs) (length checkpoint.parts) n (map (part_reading checkpoint) (range_with_len (place + 1) count))) next
          (in_place_from pairs checkpoint (place + 1) count),
    )

entries_above : (version : ℕ) (pair : Pair) (pairs : List Pair) → AllByRecursion (λ (other : Pair). IsBelow pair.0 other.0) pairs
    → AllByRecursion (IsBelow pair.0) (entry_keys (entries_with version pairs))
entries_above version pair [] above = tt
entries_above version pair (other ∷ pairs) above = (above.0, entries_above version pair pairs above.1)

entries_rise : (version : ℕ) (pairs : List Pair) → KeysRise pairs → AreRising (entry_keys (entries_with version pairs))
entries_rise version [] rise = tt
entries_rise version (pair ∷ pairs) rise = (entries_above version pair pairs rise.0, entries_rise version pairs rise.1)

-- the entries of the parts, one part after another, are those of the pairs
entries_of_parts : (pairs : List Pair) (checkpoint : Checkpoint) → HasPairs pairs checkpoint
    → entries_with checkpoint.version pairs ≡ flat_map (λ (part : PartReading). part.entries) (map (part_reading checkpoint) (numbers checkpoint))
entries_of_parts pairs checkpoint is =
    let each = fill_by_all (pairs_of checkpoint) checkpoint.parts (length checkpoint.parts) [] refl (λ k fits. refl) in
    sym (all_entries pairs checkpoint is)
    ∙ ap (flat_map (entries_with checkpoint.version)) each
    ∙ flat_map-map (entries_with checkpoint.version) (pairs_of checkpoint) (numbers checkpoint)
    ∙ sym (flat_map-map (λ (part : PartReading). part.entries) (part_reading checkpoint) (numbers checkpoint))

valid_in_order : (pairs : List Pair) (checkpoint : Checkpoint) (order : List ℕ) → IsMap pairs → HasPairs pairs checkpoint → IsPermutation (numbers checkpoint) order
    → IsValid (map (known_at checkpoint) order) (reading_with checkpoint pairs)
valid_in_order pairs checkpoint order is_map is moved =
    let n = length checkpoint.parts in
    let texts = map (part_reading checkpoint) (numbers checkpoint) in
    let count : length texts ≡ n = length-map-range_with_len (part_reading checkpoint) 0 n in record {
      texts = texts;
      are_whole = subst (λ (l : List KnownPart). IsPermutation l (map whole texts)) (sym (all_belong checkpoint order))
          (subst (IsPermutation (map (known_at checkpoint) order)) (map_twice (numbers checkpoint)) (IsPermutation-sym (map (known_at checkpoint) (numbers checkpoint)) (map (known_at checkpoint) order) (IsPermutation-map (known_at checkpoint) (numbers checkpoint) order moved)));
      make_up = record {
        some = omega (arith, count, is.some);
        in_place = subst (λ (m : ℕ). AreInPlace (reading_with checkpoint pairs) m 0 texts) (sym count) (in_place_from pairs checkpoint 0 n);
        begins = omega arith;
        all = entries_of_parts pairs checkpoint is;
        rise = entries_rise checkpoint.version pairs is_map.0;
      };
    }
  where
    map_twice : (order : List ℕ) → map (known_at checkpoint) order ≡ map whole (map (part_reading checkpoint) order)
    map_twice [] = refl
    map_twice (part ∷ order) = ap (λ (l : List KnownPart). known_at checkpoint part ∷ l) (map_twice order)

-- ---- no other checkpoint is valid

-- a valid checkpoint has a part
some_part : (known : List KnownPart) (other : CheckpointReading) → IsValid known other → (part : KnownPart) × Contains known part × (belongs_to other.number part ≡ true)
some_part known other valid = by valid.texts valid.are_whole valid.make_up.some
  where
    by : (texts : List PartReading) → IsPermutation (parts_of other.number known) (map whole texts) → 0 < length texts
        → (part : KnownPart) × Contains known part × (belongs_to other.number part ≡ true)
    by [] moved some = absurd (omega (arith, some))
    by (text ∷ texts) moved some =
        let there = Contains-permutation (map whole (text ∷ texts)) (parts_of other.number known) (whole text) (IsPermutation-sym (parts_of other.number known) (map whole (text ∷ texts)) moved) (head_in (whole text) (map whole texts)) in
        let among = of_filter (belongs_to other.number) known (whole text) there in
        (whole text, among.0, among.1)

only_number : (checkpoint : Checkpoint) (order : List ℕ) (other : CheckpointReading) → IsValid (map (known_at checkpoint) order) other → checkpoint.number ≡ other.number
only_number checkpoint order other valid =
    let part = some_part (map (known_at checkpoint) order) other valid in
    let from = of_map (known_at checkpoint) order part.0 part.1 in
    eqb-true checkpoint.number other.number (ap (belongs_to other.number) from.2 ∙ part.2)

-- ---- it is chosen

-- what is known of the parts: all belong to the checkpoint, which is chosen among them below each cutoff that is above its own
pub record AreKnownAs (pairs : List Pair) (checkpoint : Checkpoint) (parts : List (List ℕ)) : Type 0 where
  pub known : List KnownPart
  pub are_known : AreKnown parts known
  pub belong : parts_of checkpoint.number known ≡ known
  pub chosen : (cutoff : ℕ) → checkpoint.cutoff < cutoff → IsChosenOf known cutoff (Some (reading_with checkpoint pairs))

pub known_as : (pairs : List Pair) (checkpoint : Checkpoint) (parts : List (List ℕ)) → IsMap pairs → HasPairs pairs checkpoint → AreAllParts checkpoint parts
    → AreKnownAs pairs checkpoint parts
known_as pairs checkpoint parts is_map is all =
    let order = all.order in
    let known = map (known_at checkpoint) order in
    let reading = reading_with checkpoint pairs in
    let valid = valid_in_order pairs checkpoint order is_map is all.all in record {
      known = known;
      are_known = all_known checkpoint parts order all.are_read;
      belong = all_belong checkpoint order;
      chosen = λ cutoff above. (
        record { valid = valid; ends_below = above },
        λ other may.
            let same = one_valid known reading other valid may.valid (only_number checkpoint order other may.valid) in
            inr (ap (λ (c : CheckpointReading). c.end) (sym same), let number : other.number ≡ checkpoint.number = ap (λ (c : CheckpointReading). c.number) (sym same) in omega (arith, number)),
      );
    }

-- so recovery chooses it, if its cutoff is above the checkpoint's
pub chooses : (pairs : List Pair) (checkpoint : Checkpoint) (logs parts : List (List ℕ)) (facts : Facts logs parts) → IsMap pairs → HasPairs pairs checkpoint
    → AreAllParts checkpoint parts → checkpoint.cutoff < facts.cutoff → facts.chosen ≡ Some (reading_with checkpoint pairs)
chooses pairs checkpoint logs parts facts is_map is all above =
    let found = known_as pairs checkpoint parts is_map is all in
    (same_facts logs parts facts (record facts {
      known = found.known;
      are_known = found.are_known;
      chosen = Some (reading_with checkpoint pairs);
      is_chosen = found.chosen facts.cutoff above;
    })).3
