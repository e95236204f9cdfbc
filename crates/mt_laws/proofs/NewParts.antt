-- The parts of a new checkpoint, of a number that no part has: the other checkpoints stay as they are.
use Rattle.std.proofs.Common.{◌≡◌, inl, inr, ℕ, ◌<◌, ◌≤◌, Bool, true, false, cond, Option, Some, None, List, [], ◌∷◌, ◌++◌, length, map, Contains, refl, sym, ap, ◌∙◌, subst, arith}
use Rattle.std.specs.Prelude.{IfSome}
use Rattle.std.specs.List.{AllZip}
use Rattle.std.specs.List.Sorted.{IsPermutation}
use Rattle.std.proofs.lemmas.Bool.{cases_Bool, cases_eq, eq-eqb}
use Rattle.std.proofs.lemmas.List.{append-nil, length-map, map-append}
use Rattle.std.proofs.lemmas.List.Elements.{filter-append, Contains-append_cases}
use Rattle.std.proofs.lemmas.Slice.Zip.{AllZip-long}
use Rattle.mt_words.proofs.Elements.{head_in, tail_in}
use Rattle.mt_record.specs.Parts.{PartReading}
use Rattle.mt_scan.specs.PartScans.{KnownPart, whole, IsKnown}
use Rattle.mt_scan.specs.Choice.{CheckpointReading, belongs_to, parts_of, IsValid}
use Rattle.mt_scan.proofs.OneKnown.{one_known}
use Rattle.mt_replay.proofs.Members.{in_map}
use Rattle.mt_recover.specs.Recovery.{AreKnown}
use Rattle.mt_laws.specs.Lives.{Checkpoints}
use Rattle.mt_laws.specs.PartFiles.{PartFile, bytes_of, IsPartOf, IsSyncedIn, AreFilesOf, AreNewFiles}
use Rattle.mt_laws.proofs.Deleted.{not_made_of_none}
use Rattle.mt_laws.proofs.Paired.{partner}

-- ---- parts of a number

-- no part has the number
abbrev pub NoneOf : ℕ → List KnownPart → Type 0
NoneOf number parts = (part : KnownPart) → Contains parts part → belongs_to number part ≡ true → ⊥

pub no_parts : (number : ℕ) (parts : List KnownPart) → NoneOf number parts → parts_of number parts ≡ []
no_parts number [] none = refl
no_parts number (p ∷ ps) none = elim (cases_Bool (belongs_to number p)) as (λ _. parts_of number (p ∷ ps) ≡ []) [
  | inl is ↦ absurd (none p (head_in p ps) is)
  | inr not ↦ rw not (no_parts number ps (λ part at. none part (tail_in p part ps at)))
]

-- joined with others of which none has the number
parts_first : (number : ℕ) (parts others : List KnownPart) → NoneOf number others → parts_of number (parts ++ others) ≡ parts_of number parts
parts_first number parts others none =
    filter-append (belongs_to number) parts others ∙ ap (λ (l : List KnownPart). parts_of number parts ++ l) (no_parts number others none) ∙ append-nil (parts_of number parts)

parts_second : (number : ℕ) (parts others : List KnownPart) → NoneOf number parts → parts_of number (parts ++ others) ≡ parts_of number others
parts_second number parts others none =
    filter-append (belongs_to number) parts others ∙ ap (λ (l : List KnownPart). l ++ parts_of number others) (no_parts number parts none)

few_parts : (number : ℕ) (parts : List KnownPart) → length (parts_of number parts) ≤ length parts
few_parts number [] = omega arith
few_parts number (p ∷ ps) = by (belongs_to number p) (few_parts number ps)
  where
    by : (is : Bool) → length (parts_of number ps) ≤ length ps → length (cond is (p ∷ parts_of number ps) (parts_of number ps)) ≤ length (p ∷ ps)
    by true few = omega (arith, few)
    by false few = omega (arith, few)

-- a checkpoint is valid among parts if it is among those of its number
pub same_valid : (parts others : List KnownPart) (checkpoint : CheckpointReading) → parts_of checkpoint.number parts ≡ parts_of checkpoint.number others → IsValid parts checkpoint
    → IsValid others checkpoint
same_valid parts others checkpoint same valid = record {
  texts = valid.texts;
  are_whole = subst (λ (l : List KnownPart). IsPermutation l (map whole valid.texts)) same valid.are_whole;
  make_up = valid.make_up;
}

-- ---- files joined

zip_joined : {A B : Type 0} (R : A → B → Type 0) (xs others : List A) (ys news : List B) → AllZip R xs ys → AllZip R others news → AllZip R (xs ++ others) (ys ++ news)
zip_joined R [] others [] news are too = too
zip_joined R [] others (y ∷ ys) news are too = absurd are
zip_joined R (x ∷ xs) others [] news are too = absurd are
zip_joined R (x ∷ xs) others (y ∷ ys) news are too = (are.0, zip_joined R xs others ys news are.1 too)

-- what is known of a file that is a part of the checkpoint
known_of : (number : ℕ) (files : List PartFile) (known : List KnownPart) (file : PartFile) → AreKnown (bytes_of files) known → Contains files file → IsPartOf number file
    → (part : KnownPart) × Contains known part × (belongs_to number part ≡ true)
known_of number files known file are at is =
    let found = partner IsKnown (bytes_of files) known file.bytes are (in_map (λ (f : PartFile). f.bytes) files file at) in
    (found.0, found.1, subst (λ (part : KnownPart). belongs_to number part ≡ true) (one_known file.bytes is.part found.0 is.is_known found.2) is.belongs)

-- ---- the law

pub with_new_parts : (checkpoints : Checkpoints) (written : List CheckpointReading) (number : ℕ) (files news : List PartFile) (are : AreFilesOf checkpoints files)
    → (new : AreNewFiles are.known number news) → ((c : CheckpointReading) → Contains checkpoints.written c → Contains written c)
    → ((c : CheckpointReading) → IsValid new.known c → Contains written c) → AreFilesOf (record checkpoints { written = written }) (files ++ news)
with_new_parts checkpoints written number files news are new more valid_new = record {
  known = all;
  are_known = subst (λ (bytes : List (List ℕ)). AreKnown bytes all) (sym (map-append (λ (file : PartFile). file.bytes) files news)) (zip_joined IsKnown (bytes_of files) (bytes_of news) are.known new.known are.are_known new.are_known);
  no_more = few;
  written = still_written;
  base_is = base_stays checkpoints.base are.base_is;
}
  where
    all : List KnownPart
    all = are.known ++ new.known

    none_before : NoneOf number are.known
    none_before part at is = let less : number < number = new.above part number at is in omega (arith, less)

    none_new : (other : ℕ) → (other ≡ number → ⊥) → NoneOf other new.known
    none_new other apart part at is = apart (new.numbered part other at is)

    -- the parts of another number are those before, and of the number those that are new
    as_before : (other : ℕ) → (other ≡ number → ⊥) → parts_of other all ≡ parts_of other are.known
    as_before other apart = parts_first other are.known new.known (none_new other apart)

    as_new : parts_of number all ≡ parts_of number new.known
    as_new = parts_second number are.known new.known none_before

    few : (part : PartReading) → Contains all (whole part) → length (parts_of part.number all) ≤ part.parts
    few part at = elim (Contains-append_cases are.known new.known (whole part) at) as (λ _. length (parts_of part.number all) ≤ part.parts) [
      | inl here ↦
          let less : part.number < number = new.above (whole part) part.number here (eq-eqb part.number part.number refl) in
          subst (λ (l : List KnownPart). length l ≤ part.parts) (sym (as_before part.number (λ e. omega (arith, less, e)))) (are.no_more part here)
      | inr later ↦
          let same : part.number ≡ number = new.numbered (whole part) part.number later (eq-eqb part.number part.number refl) in
          let long : length new.known ≡ length (bytes_of news) = AllZip-long IsKnown (bytes_of news) new.known new.are_known in
          subst (λ (n : ℕ). length (parts_of n all) ≤ part.parts) (sym same) (subst (λ (l : List KnownPart). length l ≤ part.parts) (sym as_new)
          (omega (arith, few_parts number new.known, long, length-map news (λ (file : PartFile). file.bytes), new.no_more part later)))
    ]

    still_written : (c : CheckpointReading) → IsValid all c → Contains written c
    still_written c valid = elim (cases_eq c.number number) as (λ _. Contains written c) [
      | inl same ↦ valid_new c (same_valid all new.known c (subst (λ (n : ℕ). parts_of n all ≡ parts_of n new.known) (sym same) as_new) valid)
      | inr apart ↦ more c (are.written c (same_valid all are.known c (as_before c.number apart) valid))
    ]

    base_stays : (base : Option CheckpointReading) → IfSome base (IsSyncedIn files are.known) → IfSome base (IsSyncedIn (files ++ news) all)
    base_stays None is = tt
    base_stays (Some base) is = elim (cases_eq base.number number) as (λ _. IsSyncedIn (files ++ news) all base) [
      | inl same ↦
          let none : parts_of base.number are.known ≡ [] = subst (λ (n : ℕ). parts_of n are.known ≡ []) (sym same) (no_parts number are.known none_before) in
          absurd (not_made_of_none (parts_of base.number are.known) is.valid.texts base none is.valid.are_whole is.valid.make_up)
      | inr apart ↦ record {
        valid = same_valid are.known all base (sym (as_before base.number apart)) is.valid;
        synced = λ file at is_part. elim (Contains-append_cases files news file at) as (λ _. file.synced ≡ true) [
          | inl here ↦ is.synced file here is_part
          | inr later ↦ let found = known_of base.number news new.known file new.are_known later is_part in absurd (none_new base.number apart found.0 found.1 found.2)
        ];
      }
    ]
