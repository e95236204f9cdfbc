-- Logs of which some are replaced at the cutoff: the same segments, the same cutoff, and no new gap.
use Rattle.std.proofs.Common.{◌≡◌, ◌⊎◌, inl, inr, ℕ, ◌<◌, ◌≤◌, IsTrue, Option, Some, None, List, [], ◌∷◌, take, Contains, sym, ap, ◌∙◌, subst, arith}
use Rattle.std.specs.List.{AllZip, flat_map}
use Rattle.std.proofs.lemmas.List.Elements.{All-contains, All-from_recursion}
use Rattle.mt_words.proofs.Elements.{no_element, head_or_tail, head_in}
use Rattle.mt_record.specs.declared.feed.head.Segment.{Segment}
use Rattle.mt_record.specs.Logs.{LogReading, times_of}
use Rattle.mt_scan.specs.Cutoff.{is_segment_of, files_of, HasLast, IsCutoff}
use Rattle.mt_replay.proofs.Members.{all_from, of_flat_map, in_flat_map, of_filter, in_filter}
use Rattle.mt_scan.specs.Segments.{IsEarlier, IsJustBefore, IsSame, HasFile, IsDoubled, HasGap, IsGap, AreWriters}
use Rattle.mt_laws.proofs.Paired.{partner, partner_of, at_place, zip_weaker, zip_take}
use Rattle.mt_laws.proofs.SomeCutoff.{some_last}

-- the file is of the same segment now, and claims no more
pub record ClaimsNoMore (file now : LogReading) : Type 0 where
  pub segment : now.head.segment ≡ file.head.segment
  pub from : now.head.from ≤ file.head.from

-- besides, it is not torn if it was not, reaches the cutoff if it did, and has no new times above it
pub record Replaces (cutoff : ℕ) (file now : LogReading) : Type 0 where
  pub claims : ClaimsNoMore file now
  pub torn : IsTrue now.torn → IsTrue file.torn
  pub reaches : (time : ℕ) → Contains (times_of file) time → cutoff ≤ time → (later : ℕ) × Contains (times_of now) later × (cutoff ≤ later)
  pub stays : Contains (times_of file) cutoff → Contains (times_of now) cutoff
  pub low : (time : ℕ) → Contains (times_of now) time → (time ≤ cutoff) ⊎ Contains (times_of file) time

-- ---- segments

pub all_claim : (cutoff : ℕ) (files now : List LogReading) → AllZip (Replaces cutoff) files now → AllZip ClaimsNoMore files now
all_claim cutoff files now are = zip_weaker (Replaces cutoff) ClaimsNoMore files now (λ x y r. r.claims) are

-- the files of a log are replaced by those of its replacement
files_after : (cutoff : ℕ) (files now : List LogReading) (file new x : LogReading) → AllZip (Replaces cutoff) files now → Replaces cutoff file new
    → Contains (files_of file.head.segment file files) x → (y : LogReading) × Contains (files_of new.head.segment new now) y × Replaces cutoff x y
files_after cutoff files now file new x are replaces at =
    subst (λ (w : Option Segment). (y : LogReading) × Contains (files_of w new now) y × Replaces cutoff x y) (sym replaces.claims.segment) (by file.head.segment at)
  where
    by : (segment : Option Segment) → Contains (files_of segment file files) x → (y : LogReading) × Contains (files_of segment new now) y × Replaces cutoff x y
    by None at = elim (head_or_tail file x [] at) as (λ _. (y : LogReading) × Contains (new ∷ []) y × Replaces cutoff x y) [
      | inl e ↦ (new, head_in new [], subst (λ (a : LogReading). Replaces cutoff a new) e replaces)
      | inr none ↦ absurd (no_element x none)
    ]
    by (Some segment) at =
        let test = λ (other : LogReading). is_segment_of segment.worker other.head.segment in
        let found = of_filter test files x at in
        let other = partner (Replaces cutoff) files now x are found.0 in
        (other.0, in_filter test now other.0 (ap (is_segment_of segment.worker) other.2.claims.segment ∙ found.1) other.1, other.2)

files_before : (cutoff : ℕ) (files now : List LogReading) (file new y : LogReading) → AllZip (Replaces cutoff) files now → Replaces cutoff file new
    → Contains (files_of new.head.segment new now) y → (x : LogReading) × Contains (files_of file.head.segment file files) x × Replaces cutoff x y
files_before cutoff files now file new y are replaces at =
    subst (λ (w : Option Segment). (x : LogReading) × Contains (files_of w file files) x × Replaces cutoff x y) replaces.claims.segment (by new.head.segment at)
  where
    by : (segment : Option Segment) → Contains (files_of segment new now) y → (x : LogReading) × Contains (files_of segment file files) x × Replaces cutoff x y
    by None at = elim (head_or_tail new y [] at) as (λ _. (x : LogReading) × Contains (file ∷ []) x × Replaces cutoff x y) [
      | inl e ↦ (file, head_in file [], subst (λ (a : LogReading). Replaces cutoff file a) e replaces)
      | inr none ↦ absurd (no_element y none)
    ]
    by (Some segment) at =
        let test = λ (other : LogReading). is_segment_of segment.worker other.head.segment in
        let found = of_filter test now y at in
        let other = partner_of (Replaces cutoff) files now y are found.0 in
        (other.0, in_filter test files other.0 (ap (is_segment_of segment.worker) (sym other.2.claims.segment) ∙ found.1) other.1, other.2)

-- the segments of the files are those that they were
has_now : (P : Option Segment → Type 0) (files now : List LogReading) → AllZip ClaimsNoMore files now → HasFile now P → HasFile files P
has_now P files now are has =
    let x = partner_of ClaimsNoMore files now has.1 are (has.0, has.2, has.3) in
    (x.1.0, x.0, x.1.1, x.1.2, subst P x.2.segment has.4)

had_before : (P : Option Segment → Type 0) (files now : List LogReading) → AllZip ClaimsNoMore files now → HasFile files P → HasFile now P
had_before P files now are has =
    let y = partner ClaimsNoMore files now has.1 are (has.0, has.2, has.3) in
    (y.1.0, y.0, y.1.1, y.1.2, subst P (sym y.2.segment) has.4)

-- no segment is there twice if none was
pub once_stays : (files now : List LogReading) → AllZip ClaimsNoMore files now → ((i : ℕ) → IsDoubled files i → ⊥) → (i : ℕ) → IsDoubled now i → ⊥
once_stays files now are once i doubled =
    once i (at_place ClaimsNoMore (λ file. HasFile (take i now) (IsSame file.head.segment)) (λ file. HasFile (take i files) (IsSame file.head.segment)) files now i are (λ x y r has.
    has_now (IsSame x.head.segment) (take i files) (take i now) (zip_take ClaimsNoMore i files now are)
    (subst (λ (s : Option Segment). HasFile (take i now) (IsSame s)) r.segment has)) doubled)

pub writers_stay : (cutoff : ℕ) (files now : List LogReading) → AllZip (Replaces cutoff) files now → AreWriters files → AreWriters now
writers_stay cutoff files now are sound =
    let claim = all_claim cutoff files now are in record {
      once = once_stays files now claim sound.once;
      sound = λ i amid. sound.sound i (at_place (Replaces cutoff) (λ file. IsTrue file.torn × HasFile now (IsEarlier file.head.segment))
          (λ file. IsTrue file.torn × HasFile files (IsEarlier file.head.segment)) files now i are (λ x y r is.
          (r.torn is.0, has_now (IsEarlier x.head.segment) files now claim (subst (λ (s : Option Segment). HasFile now (IsEarlier s)) r.claims.segment is.1))) amid);
    }

-- a lesser `from` makes no gap
no_new_gap : (begin : ℕ) (files now : List LogReading) → AllZip ClaimsNoMore files now → (file new : LogReading) → ClaimsNoMore file new → HasGap begin now new → HasGap begin files file
no_new_gap begin files now are file new claims gap = by (subst (λ (s : Option Segment). IsAmid s ⊎ IsFirst s) claims.segment gap)
  where
    IsAmid : Option Segment → Type 0
    IsAmid segment = HasFile now (λ other. IsEarlier other segment) × (HasFile now (λ other. IsJustBefore other segment) → ⊥)

    IsFirst : Option Segment → Type 0
    IsFirst segment = (HasFile now (λ other. IsEarlier other segment) → ⊥) × (begin < new.head.from)

    by : IsAmid file.head.segment ⊎ IsFirst file.head.segment → HasGap begin files file
    by (inl amid) = inl (has_now (λ other. IsEarlier other file.head.segment) files now are amid.0, λ just. amid.1 (had_before (λ other. IsJustBefore other file.head.segment) files now are just))
    by (inr first) =
        let late : begin < new.head.from = first.1 in
        let less : new.head.from ≤ file.head.from = claims.from in
        inr (λ earlier. first.0 (had_before (λ other. IsEarlier other file.head.segment) files now are earlier), omega (arith, late, less))

pub gaps_stay : (begin : ℕ) (files now : List LogReading) → AllZip ClaimsNoMore files now → ((i : ℕ) → IsGap begin files i → ⊥) → (i : ℕ) → IsGap begin now i → ⊥
gaps_stay begin files now are none i gap = none i (at_place ClaimsNoMore (HasGap begin now) (HasGap begin files) files now i are (no_new_gap begin files now are) gap)

-- ---- the cutoff

pub cutoff_stays : (cutoff : ℕ) (files now : List LogReading) → AllZip (Replaces cutoff) files now → IsCutoff files cutoff → IsCutoff now cutoff
cutoff_stays cutoff files now are is =
    let file = is.has.log in
    let of_file = files_of file.head.segment file files in
    let new = partner (Replaces cutoff) files now file are is.has.stands in
    let of_new = files_of new.0.head.segment new.0 now in
    let reached = of_flat_map times_of of_file cutoff is.has.is_last.0 in
    let other = files_after cutoff files now file new.0 reached.0 are new.2 reached.1 in
    let most : (time : ℕ) → Contains (flat_map times_of of_new) time → time ≤ cutoff = λ time at.
    let found = of_flat_map times_of of_new time at in
    let old = files_before cutoff files now file new.0 found.0 are new.2 found.1 in
    elim (old.2.low time found.2) as (λ _. time ≤ cutoff) [
      | inl most ↦ most
      | inr before ↦ All-contains (λ (t : ℕ). t ≤ cutoff) (flat_map times_of of_file) time is.has.is_last.1 (in_flat_map times_of of_file old.0 time old.1 before)
    ] in record {
      has = record {
        log = new.0;
        stands = new.1;
        is_last = (in_flat_map times_of of_new other.0 cutoff other.1 (other.2.stays reached.2), All-from_recursion (λ (time : ℕ). time ≤ cutoff) (flat_map times_of of_new) (all_from (λ (time : ℕ). time ≤ cutoff) (flat_map times_of of_new) most));
      };
      least = λ last has. least_after last has;
    }
  where
    least_after : (last : ℕ) → HasLast now last → cutoff ≤ last
    least_after last has =
        let old = partner_of (Replaces cutoff) files now has.log are has.stands in
        let own = some_last files old.0 old.1 in
        let of_old = files_of old.0.head.segment old.0 files in
        let of_new = files_of has.log.head.segment has.log now in
        let high : cutoff ≤ own.0 = is.least own.0 (record { log = old.0; stands = old.1; is_last = own.1 }) in
        let reached = of_flat_map times_of of_old own.0 own.1.0 in
        let other = files_after cutoff files now old.0 has.log reached.0 are old.2 reached.1 in
        let later = other.2.reaches own.0 reached.2 high in
        let low : later.0 ≤ last = All-contains (λ (t : ℕ). t ≤ last) (flat_map times_of of_new) later.0 has.is_last.1 (in_flat_map times_of of_new other.0 later.0 other.1 later.1) in
        let reaches : cutoff ≤ later.0 = later.2 in
        omega (arith, reaches, low)

-- ---- files of a log

-- the files of a log are files
pub file_among : (files : List LogReading) (file x : LogReading) → Contains files file → Contains (files_of file.head.segment file files) x → Contains files x
file_among files file x among at = by file.head.segment at
  where
    by : (segment : Option Segment) → Contains (files_of segment file files) x → Contains files x
    by None at = elim (head_or_tail file x [] at) as (λ _. Contains files x) [ inl e ↦ subst (Contains files) e among | inr none ↦ absurd (no_element x none) ]
    by (Some segment) at = (of_filter (λ (other : LogReading). is_segment_of segment.worker other.head.segment) files x at).0

-- the cutoff is a time of some file
pub cutoff_time : (files : List LogReading) (cutoff : ℕ) → IsCutoff files cutoff → (file : LogReading) × Contains files file × Contains (times_of file) cutoff
cutoff_time files cutoff is =
    let found = of_flat_map times_of (files_of is.has.log.head.segment is.has.log files) cutoff is.has.is_last.0 in
    (found.0, file_among files is.has.log found.0 is.has.stands found.1, found.2)
