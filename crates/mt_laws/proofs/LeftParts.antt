-- The files of parts that are left: no checkpoint becomes valid that was not, and the one that the server stands on stays valid and synced.
use Rattle.std.proofs.Common.{◌≡◌, ◌⊎◌, inl, inr, ℕ, ◌≤◌, true, false, Option, Some, None, List, [], ◌∷◌, ◌++◌, length, Contains, refl, sym, ap, subst, arith}
use Rattle.std.specs.Prelude.{IfSome}
use Rattle.std.specs.List.Sorted.{IsPermutation}
use Rattle.std.proofs.lemmas.Bool.{cases_Bool, eqb-true, both_ways}
use Rattle.std.proofs.lemmas.List.{length-append}
use Rattle.std.proofs.lemmas.List.Sorted.{IsPermutation-cons, IsPermutation-middle, IsPermutation-refl, IsPermutation-sym, IsPermutation-trans, length_permutation}
use Rattle.mt_words.proofs.Elements.{no_element, head_or_tail, head_in, tail_in}
use Rattle.mt_record.specs.Parts.{PartReading}
use Rattle.mt_scan.specs.PartScans.{KnownPart, whole, IsKnown}
use Rattle.mt_scan.specs.Choice.{CheckpointReading, belongs_to, parts_of, IsValid}
use Rattle.mt_replay.proofs.Members.{of_filter}
use Rattle.mt_recover.specs.Recovery.{AreKnown}
use Rattle.mt_laws.specs.Resuming.{some_gone}
use Rattle.mt_laws.specs.Lives.{Checkpoints, AreLeftOf}
use Rattle.mt_laws.specs.PartFiles.{PartFile, bytes_of, IsPartOf, IsNoPartOf, AreKept, none, gone, kept, IsSyncedIn, AreFilesOf}
use Rattle.mt_laws.proofs.Deleted.{was_valid}
use Rattle.mt_laws.proofs.NewParts.{same_valid}

-- ---- the parts of one number

-- the parts of the number are those that are left, and some that are lost
record IsSplit (number : ℕ) (known rest : List KnownPart) : Type 0 where
  lost : List KnownPart
  split : IsPermutation (parts_of number known) (parts_of number rest ++ lost)

with_lost : (number : ℕ) (part : KnownPart) (known rest : List KnownPart) → IsSplit number known rest → IsSplit number (part ∷ known) rest
with_lost number part known rest is = elim (cases_Bool (belongs_to number part)) as (λ _. IsSplit number (part ∷ known) rest) [
  | inl belongs ↦ record {
    lost = part ∷ is.lost;
    split = rw belongs (IsPermutation-trans (part ∷ parts_of number known) (part ∷ (parts_of number rest ++ is.lost)) (parts_of number rest ++ part ∷ is.lost)
        (IsPermutation-cons part (parts_of number known) (parts_of number rest ++ is.lost) is.split)
        (IsPermutation-sym (parts_of number rest ++ part ∷ is.lost) (part ∷ (parts_of number rest ++ is.lost)) (IsPermutation-middle (parts_of number rest) part is.lost)));
  }
  | inr other ↦ record { lost = is.lost; split = rw other is.split }
]

with_left : (number : ℕ) (part : KnownPart) (known rest : List KnownPart) → IsSplit number known rest → IsSplit number (part ∷ known) (part ∷ rest)
with_left number part known rest is = elim (cases_Bool (belongs_to number part)) as (λ _. IsSplit number (part ∷ known) (part ∷ rest)) [
  | inl belongs ↦ record { lost = is.lost; split = rw belongs (IsPermutation-cons part (parts_of number known) (parts_of number rest ++ is.lost) is.split) }
  | inr other ↦ record { lost = is.lost; split = rw other is.split }
]

-- ---- the parts that are left

-- no file that may go is a part of the checkpoint with this number
abbrev Stays : (PartFile → Type 0) → ℕ → Type 0
Stays MayGo number = (file : PartFile) → MayGo file → IsPartOf number file → ⊥

-- what is known of the files that are left
record AreRest (MayGo : PartFile → Type 0) (left : List PartFile) (known : List KnownPart) : Type 0 where
  rest : List KnownPart
  are_known : AreKnown (bytes_of left) rest
  among : (part : KnownPart) → Contains rest part → Contains known part
  split : (number : ℕ) → IsSplit number known rest
  all : (number : ℕ) → Stays MayGo number → parts_of number known ≡ parts_of number rest

rest_of : (MayGo : PartFile → Type 0) (files left : List PartFile) (known : List KnownPart) → AreKept MayGo files left → AreKnown (bytes_of files) known
    → AreRest MayGo left known
rest_of MayGo [] [] [] none are =
    record { rest = []; are_known = tt; among = λ part at. at; split = λ number. record { lost = []; split = IsPermutation-refl [] }; all = λ number stays. refl }
rest_of MayGo [] [] (k ∷ ks) none are = absurd are
rest_of MayGo [] (n ∷ ns) known keeps are = elim keeps [ ]
rest_of MayGo (f ∷ fs) left [] (gone file files later may keeps) are = absurd are
rest_of MayGo (f ∷ fs) left (k ∷ ks) (gone file files later may keeps) are =
    let is = rest_of MayGo fs left ks keeps are.1 in record {
      rest = is.rest;
      are_known = is.are_known;
      among = λ part at. tail_in k part ks (is.among part at);
      split = λ number. with_lost number k ks is.rest (is.split number);
      all = λ number stays. elim (cases_Bool (belongs_to number k)) as (λ _. parts_of number (k ∷ ks) ≡ parts_of number is.rest) [
        | inl belongs ↦ absurd (stays f may (record { part = k; is_known = are.0; belongs = belongs }))
        | inr other ↦ rw other (is.all number stays)
      ];
    }
rest_of MayGo (f ∷ fs) (n ∷ ns) [] (kept file now files later same stays keeps) are = absurd are
rest_of MayGo (f ∷ fs) (n ∷ ns) (k ∷ ks) (kept file now files later same stays keeps) are =
    let is = rest_of MayGo fs ns ks keeps are.1 in record {
      rest = k ∷ is.rest;
      are_known = (subst (λ (bytes : List ℕ). IsKnown bytes k) (sym same) are.0, is.are_known);
      among = λ part at. elim (head_or_tail k part is.rest at) as (λ _. Contains (k ∷ ks) part) [
        | inl e ↦ subst (Contains (k ∷ ks)) e (head_in k ks)
        | inr later ↦ tail_in k part ks (is.among part later)
      ];
      split = λ number. with_left number k ks is.rest (is.split number);
      all = λ number stays. elim (cases_Bool (belongs_to number k)) as (λ _. parts_of number (k ∷ ks) ≡ parts_of number (k ∷ is.rest)) [
        | inl belongs ↦ rw belongs (ap (λ (l : List KnownPart). k ∷ l) (is.all number stays))
        | inr other ↦ rw other (is.all number stays)
      ];
    }

-- ---- the files that are left

-- the file that was there with the same bytes
record WasThere (MayGo : PartFile → Type 0) (files : List PartFile) (now : PartFile) : Type 0 where
  file : PartFile
  stands : Contains files file
  same : now.bytes ≡ file.bytes
  stays : MayGo file ⊎ (file.synced ≡ true → now.synced ≡ true)

was_there : (MayGo : PartFile → Type 0) (files left : List PartFile) (now : PartFile) → AreKept MayGo files left → Contains left now → WasThere MayGo files now
was_there MayGo [] [] now none at = absurd (no_element now at)
was_there MayGo [] (n ∷ ns) now keeps at = elim keeps [ ]
was_there MayGo (f ∷ fs) left now (gone file files later may keeps) at =
    let was = was_there MayGo fs left now keeps at in record { file = was.file; stands = tail_in f was.file fs was.stands; same = was.same; stays = was.stays }
was_there MayGo (f ∷ fs) (n ∷ ns) now (kept file new files later same stays keeps) at = elim (head_or_tail n now ns at) as (λ _. WasThere MayGo (f ∷ fs) now) [
  | inl e ↦ subst (WasThere MayGo (f ∷ fs)) e (record { file = f; stands = head_in f fs; same = same; stays = stays })
  | inr later ↦ let was = was_there MayGo fs ns now keeps later in record { file = was.file; stands = tail_in f was.file fs was.stands; same = was.same; stays = was.stays }
]

still_synced : (MayGo : PartFile → Type 0) (number : ℕ) (files left : List PartFile) (now : PartFile) → AreKept MayGo files left → Stays MayGo number
    → ((file : PartFile) → Contains files file → IsPartOf number file → file.synced ≡ true) → Contains left now → IsPartOf number now → now.synced ≡ true
still_synced MayGo number files left now keeps stays synced at is =
    let was = was_there MayGo files left now keeps at in
    let is_part : IsPartOf number was.file = record { part = is.part; is_known = subst (λ (bytes : List ℕ). IsKnown bytes is.part) was.same is.is_known; belongs = is.belongs } in
    elim was.stays as (λ _. now.synced ≡ true) [ inl may ↦ absurd (stays was.file may is_part) | inr still ↦ still (synced was.file was.stands is_part) ]

still_base : (base : Option CheckpointReading) (files left : List PartFile) (known : List KnownPart) (are : AreRest (IsNoPartOf base) left known)
    → AreKept (IsNoPartOf base) files left → IfSome base (IsSyncedIn files known) → IfSome base (IsSyncedIn left are.rest)
still_base None files left known are keeps is = tt
still_base (Some base) files left known are keeps is =
    let stays : Stays (IsNoPartOf (Some base)) base.number = λ file no_part is_part. no_part is_part in record {
      valid = same_valid known are.rest base (are.all base.number stays) is.valid;
      synced = λ file at. still_synced (IsNoPartOf (Some base)) base.number files left file keeps stays is.synced at;
    }

-- ---- the laws

pub without_others : (checkpoints : Checkpoints) (files left : List PartFile) → AreFilesOf checkpoints files → AreKept (IsNoPartOf checkpoints.base) files left
    → AreFilesOf checkpoints left
without_others checkpoints files left are keeps =
    let rest = rest_of (IsNoPartOf checkpoints.base) files left are.known keeps are.are_known in record {
      known = rest.rest;
      are_known = rest.are_known;
      no_more = λ part at.
          let before = parts_of part.number are.known in
          let after = parts_of part.number rest.rest in
          let is = rest.split part.number in
          let most : length before ≤ part.parts = are.no_more part (rest.among (whole part) at) in
          omega (arith, most, length_permutation before (after ++ is.lost) is.split, length-append after is.lost);
      written = λ checkpoint valid.
          let number = checkpoint.number in
          let is = rest.split number in
          let enough : (part : PartReading) → Contains (parts_of number are.known) (whole part) → length (parts_of number are.known) ≤ part.parts = λ part at.
          let found = of_filter (belongs_to number) are.known (whole part) at in
          subst (λ (n : ℕ). length (parts_of n are.known) ≤ part.parts) (eqb-true part.number number found.1) (are.no_more part found.0) in
          are.written checkpoint (was_valid are.known rest.rest checkpoint (some_gone is.lost enough is.split) valid);
      base_is = still_base checkpoints.base files left are.known rest keeps are.base_is;
    }

may_go : (P Q : PartFile → Type 0) (files left : List PartFile) → ((file : PartFile) → Contains files file → P file → Q file) → AreKept P files left → AreKept Q files left
may_go P Q [] [] follows none = none
may_go P Q [] (n ∷ ns) follows keeps = elim keeps [ ]
may_go P Q (f ∷ fs) left follows (gone file files later may keeps) =
    gone f fs left (follows f (head_in f fs) may) (may_go P Q fs left (λ x at. follows x (tail_in f x fs at)) keeps)
may_go P Q (f ∷ fs) (n ∷ ns) follows (kept file now files later same stays keeps) =
    kept f n fs ns same (elim stays as (λ _. Q f ⊎ (f.synced ≡ true → n.synced ≡ true)) [ inl may ↦ inl (follows f (head_in f fs) may) | inr still ↦ inr still ])
    (may_go P Q fs ns (λ x at. follows x (tail_in f x fs at)) keeps)

-- no file that a crash may take away is a part of the checkpoint that the server stands on
not_of_base : (base : Option CheckpointReading) (files : List PartFile) (known : List KnownPart) (file : PartFile) → IfSome base (IsSyncedIn files known)
    → Contains files file → file.synced ≡ false → IsNoPartOf base file
not_of_base None files known file is at unsynced = tt
not_of_base (Some base) files known file is at unsynced = λ is_part. both_ways file.synced unsynced (is.synced file at is_part)

base_valid : (base : Option CheckpointReading) (files : List PartFile) (known : List KnownPart) → IfSome base (IsSyncedIn files known) → IfSome base (IsValid known)
base_valid None files known is = tt
base_valid (Some base) files known is = is.valid

pub crash_of_parts : (checkpoints : Checkpoints) (files left : List PartFile) → AreFilesOf checkpoints files → AreKept (λ file. file.synced ≡ false) files left
    → AreLeftOf checkpoints (bytes_of left)
crash_of_parts checkpoints files left are keeps =
    let base = checkpoints.base in
    let still = without_others checkpoints files left are
    (may_go (λ file. file.synced ≡ false) (IsNoPartOf base) files left (λ file at. not_of_base base files are.known file are.base_is at) keeps) in
    record { known = still.known; are_known = still.are_known; no_other = still.written; base_is = base_valid base left still.known still.base_is }

pub stands_on : (checkpoints : Checkpoints) (files : List PartFile) (new : CheckpointReading) (are : AreFilesOf checkpoints files) → IsSyncedIn files are.known new
    → Contains checkpoints.written new × AreFilesOf (record checkpoints { base = Some new }) files
stands_on checkpoints files new are is =
    (are.written new is.valid, record { known = are.known; are_known = are.are_known; no_more = are.no_more; written = are.written; base_is = is })
