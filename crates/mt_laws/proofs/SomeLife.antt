-- There is a life in which an old log with an acknowledged update is deleted over a checkpoint, before a crash.
use Rattle.std.proofs.Common.{◌≡◌, inl, inr, ℕ, ◌<◌, ◌≤◌, false, Option, Some, None, List, [], ◌∷◌, ◌++◌, take, map, Contains, refl, sym, ap, ◌∙◌, subst, arith}
use Rattle.std.specs.List.{flat_map}
use Rattle.std.proofs.lemmas.Bool.{cases_eq, ne_eqb, true≢false}
use Rattle.std.proofs.lemmas.List.Sorted.{IsPermutation-refl}
use Rattle.mt_words.specs.declared.update.Update.{Update}
use Rattle.mt_words.specs.declared.limits.Format.TheVariants.{One, Two}
use Rattle.mt_words.specs.declared.update.Origin.TheVariants as origins
use Rattle.mt_words.specs.declared.update.Kind.TheVariants.{Put}
use Rattle.mt_words.specs.Built.{mark_of, put_of}
use Rattle.mt_words.specs.Changes.{Logged, Writes, is_mark}
use Rattle.mt_words.specs.Updates.{update_at}
use Rattle.mt_words.specs.Walks.{Pair, Holds}
use Rattle.mt_words.proofs.Elements.{no_element, head_or_tail, head_in, tail_in}
use Rattle.mt_record.specs.declared.feed.head.Segment.{Segment}
use Rattle.mt_record.specs.Encoding.{head_of}
use Rattle.mt_record.specs.Spelling.{spelling}
use Rattle.mt_record.specs.Heads.{head_bytes}
use Rattle.mt_record.specs.Logs.{LogReading, IsReading}
use Rattle.mt_record.specs.Parts.{part_head, part_bytes, PartReading, IsPartReading}
use Rattle.mt_record.proofs.Opened.{whole_reading}
use Rattle.mt_record.proofs.PartFiles.{plain_part}
use Rattle.mt_scan.specs.PartScans.{whole}
use Rattle.mt_checkpoint.specs.Checkpoints.{entries_with}
use Rattle.mt_scan.specs.Choice.{CheckpointReading, parts_of, IsValid}
use Rattle.mt_scan.specs.Segments.{IsEarlier, IsSame, HasFile, HasGap}
use Rattle.mt_scan.proofs.OneChoice.{one_valid}
use Rattle.mt_replay.specs.KeyColumns.{HasColumn}
use Rattle.mt_replay.specs.Survivors.{log_updates}
use Rattle.mt_replay.specs.Walk.{IsWalk}
use Rattle.mt_replay.proofs.Members.{of_map}
use Rattle.mt_writer.specs.Files.{OpenFile, file_bytes, file_reading, HasSynced, IsOpenFile}
use Rattle.mt_laws.specs.Crashes.{IsSound}
use Rattle.mt_laws.specs.Lives.{IsBehind, AreOpen, IsSyncedAbove, AllSyncedAbove, LogOf, there, deleted, those_there, Checkpoints, AreLeftOf, only, IsAdded, AreDeleted, running, down, acknowledge, add_file, write_checkpoint, stand, delete, crash, Life, begun, then}
use Rattle.mt_laws.proofs.Deleted.{not_made_of_none}
use Rattle.mt_laws.proofs.LeftFiles.{none_at}
use Rattle.mt_laws.proofs.Afresh.{AreStored, fresh_sound}
use Rattle.mt_laws.proofs.Living.{all_of_it, left_whole, listed_rise}

pub only_one : {X : Type 0} (one x : X) → Contains (one ∷ []) x → one ≡ x
only_one one x at = elim (head_or_tail one x [] at) as (λ _. one ≡ x) [ inl e ↦ e | inr none ↦ absurd (no_element x none) ]

-- what holds of both holds of each
pub of_two : {X : Type 0} (P : X → Type 0) (a b x : X) → P a → P b → Contains (a ∷ b ∷ []) x → P x
of_two P a b x first second at = elim (head_or_tail a x (b ∷ []) at) as (λ _. P x) [ inl e ↦ subst P e first | inr later ↦ subst P (only_one b x later) second ]

some_same : (a b : List ℕ) → Some a ≡ Some b → a ≡ b
some_same a b same = cc

-- ---- files that are no segments

-- an open file that is no segment, with a `from` of at most the timestamp
pub record IsAloneFrom (begin : ℕ) (file : OpenFile) : Type 0 where
  pub is_open : IsOpenFile file
  pub alone : file.head.segment ≡ None
  pub from : file.head.from ≤ begin

pub all_alone : (begin : ℕ) (files : List OpenFile) → ((file : OpenFile) → Contains files file → IsAloneFrom begin file) → AreOpen begin files
all_alone begin files are = record {
  each = λ file at. (are file at).is_open;
  once = λ i. none_at (λ x. HasFile (take i readings) (IsSame x.head.segment)) readings i (λ x at has.
      subst (λ (s : Option Segment). IsSame s has.1.head.segment) (segment_is x at) has.4);
  no_gap = λ i. none_at (HasGap begin readings) readings i (λ x at gap. elim gap as (λ _. ⊥) [
    | inl amid ↦
        let has = amid.0 in
        subst (λ (s : Option Segment). IsEarlier s x.head.segment) (segment_is has.1 (has.0, has.2, has.3)) has.4
    | inr first ↦
        let file = of_map file_reading files x at in
        let low : file.0.head.from ≤ begin = (are file.0 file.1).from in
        let late : begin < file.0.head.from = subst (λ (f : LogReading). begin < f.head.from) (sym file.2) first.1 in
        omega (arith, low, late)
  ]);
  whole = λ a b at_a at_b behind. absurd (none_behind a b at_a behind);
  beyond = λ a b at_a at_b behind. absurd (none_behind a b at_a behind);
}
  where
    readings : List LogReading
    readings = map file_reading files

    segment_is : (x : LogReading) → Contains readings x → x.head.segment ≡ None
    segment_is x at = let file = of_map file_reading files x at in ap (λ (f : LogReading). f.head.segment) (sym file.2) ∙ (are file.0 file.1).alone

    none_behind : (a b : OpenFile) → Contains files a → IsBehind a b → ⊥
    none_behind a b at behind = subst (λ (s : Option Segment). IsEarlier s b.head.segment) (are a at).alone behind

-- ---- the files

-- a put at 1, and a mark at 3
abbrev old_records : List Logged
old_records = put_of 1 1 [] ((0, []) ∷ []) ∷ mark_of 3 ∷ []

abbrev old_file : OpenFile
old_file = record { head = head_of One 0; records = old_records; synced = head_bytes (head_of One 0) ++ flat_map spelling old_records }

-- a file from 2, with a mark at 5
abbrev new_records : List Logged
new_records = mark_of 5 ∷ []

abbrev new_file : OpenFile
new_file = record { head = head_of One 2; records = new_records; synced = head_bytes (head_of One 2) ++ flat_map spelling new_records }

old_reading : IsReading (file_bytes old_file) (file_reading old_file)
old_reading = whole_reading (head_of One 0) old_records (record { from = omega arith; segment = tt })
    ((omega arith, (record { version = omega arith; version_fits = omega arith; key = omega arith; kind = ((((omega arith, omega arith), tt), (omega arith, tt)), omega arith) }, tt)), omega arith, ((omega arith, tt), omega arith, tt))

new_reading : IsReading (file_bytes new_file) (file_reading new_file)
new_reading = whole_reading (head_of One 2) new_records (record { from = omega arith; segment = tt }) ((omega arith, tt), omega arith, tt)

-- the marks are synced
old_synced : (P : Logged → Type 0) → P (mark_of 3) → HasSynced P old_file
old_synced P holds =
    record { reading = file_reading old_file; is_reading = old_reading; at = mark_of 3; stands = tail_in (put_of 1 1 [] ((0, []) ∷ [])) (mark_of 3) (mark_of 3 ∷ []) (head_in (mark_of 3) []); holds = holds }

new_synced : (P : Logged → Type 0) → P (mark_of 5) → HasSynced P new_file
new_synced P holds = record { reading = file_reading new_file; is_reading = new_reading; at = mark_of 5; stands = head_in (mark_of 5) []; holds = holds }

old_alone : (begin : ℕ) → IsAloneFrom begin old_file
old_alone begin = record {
  is_open = record { is_reading = old_reading; synced = all_of_it old_file old_reading; claim = old_synced (λ r. 0 ≤ r.timestamp) (omega arith) };
  alone = refl;
  from = omega arith;
}

new_alone : IsAloneFrom 2 new_file
new_alone = record {
  is_open = record { is_reading = new_reading; synced = all_of_it new_file new_reading; claim = new_synced (λ r. 2 ≤ r.timestamp) (omega arith) };
  alone = refl;
  from = omega arith;
}

old_opens : AreOpen 0 (old_file ∷ [])
old_opens = all_alone 0 (old_file ∷ []) (λ file at. subst (IsAloneFrom 0) (only_one old_file file at) (old_alone 0))

both_open : AreOpen 2 (old_file ∷ new_file ∷ [])
both_open = all_alone 2 (old_file ∷ new_file ∷ []) (λ file at. of_two (IsAloneFrom 2) old_file new_file file (old_alone 2) new_alone at)

new_opens : AreOpen 2 (new_file ∷ [])
new_opens = all_alone 2 (new_file ∷ []) (λ file at. subst (IsAloneFrom 2) (only_one new_file file at) new_alone)

-- in the old file a record above the timestamp is synced
old_above : (time : ℕ) → time < 3 → AllSyncedAbove time (old_file ∷ [])
old_above time less file at = record {
  last = file;
  stands = at;
  of_log = inl refl;
  above = subst (HasSynced (λ r. time < r.timestamp)) (only_one old_file file at) (old_synced (λ r. time < r.timestamp) less);
}

-- ---- the checkpoint

-- the update of a put in this record of the first log
abbrev pub update_in : ℕ → Update
update_in nth = update_at (origins.Log 0 nth) 1 (record { version = 1; key = []; kind = Put ((0, []) ∷ []) })

abbrev pub update : Update
update = update_in 0

abbrev pub pairs : List Pair
pairs = ([], (0, []) ∷ []) ∷ []

one_column : (nth : ℕ) → HasColumn (update_in nth ∷ []) [] 0 []
one_column nth = record {
  write = update_in nth;
  stands = head_in (update_in nth) [];
  of_key = refl;
  writes = head_in (0, Some []) [];
  greatest = λ u other at of_key writes. inl (ap (λ (w : Update). w.stamp) (sym (only_one (update_in nth) u at)));
  kept = λ u at of_key resets. inl (ap (λ (w : Update). w.stamp) (sym (only_one (update_in nth) u at)));
}

holds_one : Holds pairs [] 0 []
holds_one = ((0, []) ∷ [], head_in ([], (0, []) ∷ []) [], head_in (0, []) [])

pub walk : (nth : ℕ) → IsWalk (update_in nth ∷ []) pairs
walk nth = record {
  map = ((tt, tt), ((omega arith, (((omega arith, omega arith), tt), (omega arith, tt)), omega arith), tt));
  exact = λ key number bytes. (to key number bytes, from key number bytes);
}
  where
    to : (key : List ℕ) (number : ℕ) (bytes : List ℕ) → Holds pairs key number bytes → HasColumn (update_in nth ∷ []) key number bytes
    to key number bytes (columns, at, column) =
        let pair : ([], (0, []) ∷ []) ≡ (key, columns) = only_one ([], (0, []) ∷ []) (key, columns) at in
        let among = subst (λ (cs : List (ℕ × List ℕ)). Contains cs (number, bytes)) (sym (ap (λ (p : Pair). p.1) pair)) column in
        let same : (0, []) ≡ (number, bytes) = only_one (0, []) (number, bytes) among in
        subst (λ (x : List ℕ × (ℕ × List ℕ)). HasColumn (update_in nth ∷ []) x.0 x.1.0 x.1.1) (λ i. ((pair i).0, same i)) (one_column nth)

    from : (key : List ℕ) (number : ℕ) (bytes : List ℕ) → HasColumn (update_in nth ∷ []) key number bytes → Holds pairs key number bytes
    from key number bytes h =
        let is : update_in nth ≡ h.write = only_one (update_in nth) h.write h.stands in
        let of_key : [] ≡ key = ap (λ (u : Update). u.key) is ∙ h.of_key in
        let written : Contains ((0, Some []) ∷ []) (number, Some bytes) = subst (λ (u : Update). Writes u.kind number (Some bytes)) (sym is) h.writes in
        let same : (0, Some []) ≡ (number, Some bytes) = only_one (0, Some []) (number, Some bytes) written in
        let number_is : 0 ≡ number = ap (λ (w : ℕ × Option (List ℕ)). w.0) same in
        let bytes_are : [] ≡ bytes = some_same [] bytes (ap (λ (w : ℕ × Option (List ℕ)). w.1) same) in
        subst (λ (x : List ℕ × (ℕ × List ℕ)). Holds pairs x.0 x.1.0 x.1.1) (λ i. (of_key i, (number_is i, bytes_are i))) holds_one

stored : (nth : ℕ) → AreStored (update_in nth ∷ []) pairs 2 1
stored nth = record {
  walk = walk nth;
  early = λ u at. subst (λ (w : Update). w.timestamp < 2) (only_one (update_in nth) u at) (omega arith);
  most = λ key number bytes column u at of_key. subst (λ (w : Update). w.stamp.version ≤ 1) (only_one (update_in nth) u at) (omega arith);
}

-- begun and ended at 2
abbrev pub checkpoint : CheckpointReading
checkpoint = record { number = 1; begin = 2; end = 2; entries = entries_with 1 pairs }

pub sound : (nth : ℕ) → IsSound (update_in nth ∷ []) checkpoint
sound nth = fresh_sound (update_in nth ∷ []) pairs 2 1 checkpoint (stored nth) refl refl refl

-- its one part
abbrev part : PartReading
part = record { number = 1; begin = 2; part = 0; parts = 1; entries = entries_with 1 pairs; end = 2 }

abbrev pub part_text : List ℕ
part_text = part_bytes (part_head Two 1 2 0 1) (entries_with 1 pairs) 2

is_part : IsPartReading part_text part
is_part = plain_part part_text part Two (record {
  spelled = refl;
  is_head = record { number = omega arith; begin = omega arith; part = omega arith; parts = omega arith };
  lawful = ((record { version = omega arith; version_fits = omega arith; key = omega arith; kind = ((((omega arith, omega arith), tt), (omega arith, tt)), omega arith) }, tt), tt);
  fits = omega arith;
  count = omega arith;
})

is_valid : IsValid (whole part ∷ []) checkpoint
is_valid = record {
  texts = part ∷ [];
  are_whole = IsPermutation-refl (whole part ∷ []);
  make_up = record {
    some = omega arith;
    in_place = (record { stands = refl; parts = refl; begin_agrees = refl; end_agrees = refl }, tt);
    begins = omega arith;
    all = refl;
    rise = (tt, tt);
  };
}

-- no other checkpoint is valid
no_other : (other : CheckpointReading) → IsValid (whole part ∷ []) other → Contains (checkpoint ∷ []) other
no_other other valid = elim (cases_eq 1 other.number) as (λ _. Contains (checkpoint ∷ []) other) [
  | inl same ↦ subst (Contains (checkpoint ∷ [])) (one_valid (whole part ∷ []) checkpoint other is_valid valid same) (head_in checkpoint [])
  | inr apart ↦
      let none : parts_of other.number (whole part ∷ []) ≡ [] = rw (ne_eqb 1 other.number apart) refl in
      absurd (not_made_of_none (parts_of other.number (whole part ∷ [])) valid.texts other none valid.are_whole valid.make_up)
]

-- ---- the life

abbrev written : Checkpoints
written = record { written = checkpoint ∷ []; base = None }

abbrev pub stood : Checkpoints
stood = record { written = checkpoint ∷ []; base = Some checkpoint }

pub parts_left : AreLeftOf stood (part_text ∷ [])
parts_left = record { known = whole part ∷ []; are_known = (is_part, tt); no_other = no_other; base_is = is_valid }

abbrev first : List (LogOf OpenFile)
first = there old_file ∷ []

abbrev both : List (LogOf OpenFile)
both = there old_file ∷ there new_file ∷ []

abbrev last : List (LogOf OpenFile)
last = deleted old_records ∷ there new_file ∷ []

is_added : IsAdded (update ∷ []) stood first new_file
is_added = record {
  opens = both_open;
  new = λ u at. inl at;
  above = λ u at. subst (λ (w : Update). HasSynced (λ r. w.timestamp < r.timestamp) new_file) (only_one update u at) (new_synced (λ r. 1 < r.timestamp) (omega arith));
  above_base = new_synced (λ r. 2 < r.timestamp) (omega arith);
}

are_deleted : AreDeleted 2 both last
are_deleted = record {
  each = ((refl, old), (refl, tt));
  some = omega arith;
  reach = λ time above file at. subst (IsSyncedAbove time (new_file ∷ [])) (only_one new_file file at) (new_reach time (above new_file (tail_in old_file new_file (new_file ∷ []) (head_in new_file []))));
  opens = new_opens;
}
  where
    new_reach : (time : ℕ) → IsSyncedAbove time (old_file ∷ new_file ∷ []) new_file → IsSyncedAbove time (new_file ∷ []) new_file
    new_reach time is = elim is.of_log as (λ _. IsSyncedAbove time (new_file ∷ []) new_file) [
      | inl e ↦ record { last = new_file; stands = head_in new_file []; of_log = inl refl; above = subst (HasSynced (λ r. time < r.timestamp)) (sym e) is.above }
      | inr behind ↦ absurd behind
    ]

    old : (r : Logged) → Contains old_records r → is_mark r ≡ false → r.timestamp < 2
    old r at change = elim (head_or_tail (put_of 1 1 [] ((0, []) ∷ [])) r (mark_of 3 ∷ []) at) as (λ _. r.timestamp < 2) [
      | inl e ↦ subst (λ (x : Logged). x.timestamp < 2) e (omega arith)
      | inr later ↦ absurd (true≢false (ap is_mark (only_one (mark_of 3) r later) ∙ change))
    ]

-- The server acknowledges the put, writes a checkpoint, stands on it, adds a file, deletes the old one, and crashes.
abbrev pub SomeLife : Type 0
SomeLife = (u : Update) × (records : List Logged) × Contains (log_updates (records ∷ [])) u × (logs : List (LogOf (List Logged))) × (left parts : List (List ℕ)) × Life (down (u ∷ []) (deleted records ∷ logs) left parts)

pub some_life : SomeLife
some_life =
    let a = begun old_file [] old_opens in
    let b = then (running [] first (only None)) (running (update ∷ []) first (only None)) a (acknowledge [] first (only None) update (head_in update []) (old_above 1 (omega arith))) in
    let c = then (running (update ∷ []) first (only None)) (running (update ∷ []) first written) b
    (write_checkpoint (update ∷ []) first (only None) checkpoint (sound 0) (listed_rise (Some checkpoint))) in
    let d = then (running (update ∷ []) first written) (running (update ∷ []) first stood) c
    (stand (update ∷ []) first written checkpoint (record { written = head_in checkpoint []; begins = omega arith; synced = old_above 2 (omega arith) })) in
    let e = then (running (update ∷ []) first stood) (running (update ∷ []) both stood) d
    (add_file (update ∷ []) first stood new_file is_added) in
    let f = then (running (update ∷ []) both stood) (running (update ∷ []) last stood) e (delete (update ∷ []) both last stood are_deleted) in (
      update,
      old_records,
      head_in update [],
      there new_records ∷ [],
      file_bytes new_file ∷ [],
      part_text ∷ [],
      then (running (update ∷ []) last stood) (down (update ∷ []) (deleted old_records ∷ there new_records ∷ []) (file_bytes new_file ∷ []) (part_text ∷ [])) f
          (crash (update ∷ []) last stood (file_bytes new_file ∷ []) (part_text ∷ []) (left_whole (those_there last) new_file new_reading refl, tt) parts_left),
    )
