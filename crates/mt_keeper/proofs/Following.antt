-- A segment is followed by the next one.
use Rattle.std.proofs.Common.{◌≡◌, ◌⊎◌, inl, inr, ℕ, zero, suc, ◌+◌, ◌≤◌, ◌<◌, true, false, Option, Some, IfSome, List, [], ◌∷◌, ◌++◌, length, map, slice_set, Contains, refl, sym, ap, ◌∙◌, subst, append_assoc, arith}
use Rattle.std.specs.Prelude.{slice_get}
use Rattle.std.specs.List.{AllZip}
use Rattle.std.proofs.lemmas.Bool.{false≢true}
use Rattle.std.proofs.lemmas.Option.{none-some, same_Some}
use Rattle.std.proofs.lemmas.List.{append-nil}
use Rattle.mt_words.specs.Changes.{Logged}
use Rattle.mt_record.specs.Logs.{log_bytes}
use Rattle.std.proofs.lemmas.List.Elements.{Contains-append_left, Contains-push, Contains-push_cases}
use Rattle.std.proofs.lemmas.Slice.Zip.{all_zipped_more}
use Rattle.mt_record.specs.declared.feed.head.Segment.{Segment}
use Rattle.mt_record.specs.declared.feed.head.Head.{Head}
use Rattle.mt_block.specs.Blocks.{mark_of as mark_in}
use Rattle.mt_record.specs.Opening.{text_head}
use Rattle.mt_record.specs.Encoding.{segment_head}
use Rattle.mt_scan.specs.Segments.{IsEarlier}
use Rattle.mt_replay.proofs.Members.{of_map, in_map}
use Rattle.mt_writer.specs.Files.{OpenFile}
use Rattle.mt_writer.specs.Journals.{Journal, Writer, NewFile, Keeps, records_of, file_of, begun, IsSealed}
use Rattle.mt_writer.specs.Refusing.{MayNotSeal}
use Rattle.mt_writer.proofs.JournalLemmas.{begun_keeps}
use Rattle.mt_laws.specs.Lives.{those_there}
use Rattle.mt_laws.specs.Writing.{Slot, coming, writing, sealed, files_of, files_there, IsNewest, Server, with_slot, Stands, IsCall, seal, begin_segment}
use Rattle.mt_laws.proofs.Slots.{amid, was_in, same_logs}
use Rattle.mt_keeper.specs.declared.keeper.Stage.{Stage}
use Rattle.mt_keeper.specs.declared.keeper.Stage.TheVariants.{Followed}
use Rattle.mt_keeper.specs.declared.keeper.Log.{Log}
use Rattle.mt_keeper.specs.Keeping.{Keeping, Holds, IsInStage, IsLogOf, IsFollowedBy, slot_in, segment_in, from_in, latest_in, is_newest, Place, place_of, AreInPlace}
use Rattle.mt_keeper.specs.Calling.{with_changed, place_at, with_sealed, if_sealing, StepsToNext}
use Rattle.mt_keeper.specs.declared.keeper_fault.KeeperFault.{KeeperFault}
use Rattle.mt_keeper.specs.Refusals.{HasNoNext, IsUnsealable, IsNotWhole}
use Rattle.mt_keeper.proofs.OneChanged.{SlotOf, slot_of, all_kept, numbers_more, numbered_more}
use Rattle.mt_keeper.proofs.Writes.{written_slot}

-- ---- logs, one of which is changed

-- the logs before and behind one
pub record Around (logs : List Log) (number : ℕ) (log : Log) : Type 0 where
  pub front : List Log
  pub back : List Log
  pub split : logs ≡ front ++ log ∷ back
  pub changed : (new : Log) → slice_set logs number new ≡ front ++ new ∷ back

pub around : (logs : List Log) (number : ℕ) (log : Log) → slice_get logs number ≡ Some log → Around logs number log
around [] number log at = absurd (none-some log at)
around (l ∷ ls) zero log at = record { front = []; back = ls; split = ap (λ (x : Log). x ∷ ls) (same_Some l log at); changed = λ new. refl }
around (l ∷ ls) (suc number) log at =
    let later = around ls number log at in record {
      front = l ∷ later.front;
      back = later.back;
      split = ap (λ (xs : List Log). l ∷ xs) later.split;
      changed = λ new. ap (λ (xs : List Log). l ∷ xs) (later.changed new);
    }

-- ---- places

abbrev next_of : Segment → Segment
next_of segment = record { worker = segment.worker; number = segment.number + 1 }

-- what is earlier than a segment is earlier than the next one
pub earlier_than_next : (segment other : Segment) → IsEarlier (Some segment) (Some other) → IsEarlier (Some segment) (Some (next_of other))
earlier_than_next segment other is = (is.0, omega (arith, is.1))

-- A segment is followed: all are in place, with the next one.
pub followed_in_place : (workers : ℕ) (front back : List Log) (log after next : Log) (segment : Segment) → AreInPlace workers (map place_of (front ++ log ∷ back))
    → place_of log ≡ (true, Some segment) → place_of after ≡ (false, Some segment) → place_of next ≡ (true, Some (next_of segment))
    → AreInPlace workers (map place_of ((front ++ after ∷ back) ++ next ∷ []))
followed_in_place workers front back log after next segment are of_log of_after of_next = record {
  known = λ place at.
      let x = of_map place_of now place at in
      elim (Contains-push_cases (front ++ after ∷ back) next x.0 x.1) as (λ _. IsKnown place) [
        | inl here ↦ elim (was_in front back log after x.0 here) as (λ _. IsKnown place) [
          | inl e ↦ subst IsKnown (sym of_after ∙ ap place_of e ∙ x.2) below
          | inr old ↦ are.known place (subst (Contains (map place_of was)) x.2 (in_map place_of was x.0 old))
        ]
        | inr e ↦ subst IsKnown (sym of_next ∙ ap place_of e ∙ x.2) below
      ];
  followed = λ older at.
      let x = of_map place_of now (false, Some older) at in
      elim (Contains-push_cases (front ++ after ∷ back) next x.0 x.1) as (λ _. IsBefore older) [
        | inl here ↦ elim (was_in front back log after x.0 here) as (λ _. IsBefore older) [
          | inl e ↦ before_next older (inl (same_Some older segment (ap (λ (p : Place). p.1) (sym x.2 ∙ sym (ap place_of e) ∙ of_after))))
          | inr old ↦ still older (are.followed older (subst (Contains (map place_of was)) x.2 (in_map place_of was x.0 old)))
        ]
        | inr e ↦ absurd (false≢true (ap (λ (p : Place). p.0) (sym x.2 ∙ sym (ap place_of e) ∙ of_next)))
      ];
}
  where
    was : List Log
    was = front ++ log ∷ back

    now : List Log
    now = (front ++ after ∷ back) ++ next ∷ []

    IsKnown : Place → Type 0
    IsKnown place = IfSome place.1 (λ s. s.worker < workers)

    IsBefore : Segment → Type 0
    IsBefore older = (later : Option Segment) × Contains (map place_of now) (true, later) × IsEarlier (Some older) later

    below : segment.worker < workers
    below = subst IsKnown of_log (are.known (place_of log) (in_map place_of was log (amid front back log)))

    newest : Contains (map place_of now) (true, Some (next_of segment))
    newest = subst (Contains (map place_of now)) of_next (in_map place_of now next (Contains-push (front ++ after ∷ back) next))

    before_next : (older : Segment) → (older ≡ segment) ⊎ IsEarlier (Some older) (Some segment) → IsBefore older
    before_next older (inl e) = (Some (next_of segment), newest, (ap (λ (s : Segment). s.worker) e, omega (arith, ap (λ (s : Segment). s.number) e)))
    before_next older (inr is) = (Some (next_of segment), newest, earlier_than_next older segment is)

    still : (older : Segment) → ((later : Option Segment) × Contains (map place_of was) (true, later) × IsEarlier (Some older) later) → IsBefore older
    still older is =
        let x = of_map place_of was (true, is.0) is.1 in
        elim (was_in front back after log x.0 x.1) as (λ _. IsBefore older) [
          | inl e ↦ before_next older (inr (subst (IsEarlier (Some older)) (ap (λ (p : Place). p.1) (sym x.2 ∙ sym (ap place_of e) ∙ of_log)) is.2))
          | inr old ↦ (is.0, subst (Contains (map place_of now)) x.2 (in_map place_of now x.0 (Contains-append_left (front ++ after ∷ back) (next ∷ []) x.0 old)), is.2)
        ]

-- ---- steps

-- the writer of a new file
abbrev pub writer_of : NewFile → Writer
writer_of new = record {
  mark = Some (mark_in new.header);
  buffer = [];
  last = new.mark;
  taken = new.mark;
  reach = new.mark;
  size = 37;
  taken_size = 37;
  synced_size = 37;
  frames = 40;
  segment = (text_head new.header).segment;
  failed = false;
}

-- The log is sealed, and the next segment begins.
pub followed_by : (keeper : Keeping) (s : Server) (number salt : ℕ) (log after next : Log) → Stands s → Holds keeper s → slice_get keeper.logs number ≡ Some log → IsFollowedBy log after next
    → StepsToNext s number (record keeper { logs = slice_set keeper.logs number after ++ next ∷ []; salt = salt })
followed_by keeper s number salt log after next stands holds at by = record {
  j = j;
  last = last;
  worker = by.segment.worker;
  number = by.segment.number;
  stands = of.at ∙ ap (λ (x : Slot). Some x) here.1;
  is_sealed = is_sealed;
  seals = subst (λ (slots : List Slot). IsCall (record s { slots = slots }) (with_sealed s number)) (sym before)
      (subst (λ (slots : List Slot). IsCall (with_slot s of.front (writing j) of.back) (record s { slots = slots })) (sym now) (seal s of.front of.back j is_sealed.whole));
  begins = (
    begin_segment (with_sealed s number) (writer_of by.new) by.new j last by.segment.worker by.segment.number
        (subst (λ (slots : List Slot). Contains slots (sealed j)) (sym now) (amid of.front of.back (sealed j))) is_sealed newest
        (begun_keeps by.new (writer_of by.new) head by.begins refl) by.begins refl,
    record {
      clock = holds.clock;
      acked = holds.acked;
      base = holds.base;
      numbers = numbers_more slots s.places (coming (begun head last)) (of.numbers if_sealing);
      logs = subst (AllZip (IsLogOf keeper.clock) (slice_set keeper.logs number after ++ next ∷ [])) (sym (numbered_more slots s.places (coming (begun head last)) (of.numbers if_sealing).within))
          (all_zipped_more (IsLogOf keeper.clock) (slice_set keeper.logs number after) (map (slot_in slots) s.places) next (coming (begun head last))
          (all_kept keeper.clock keeper.clock keeper.logs s number log after if_sealing holds.numbers holds.logs at (λ l x is. is) kept)
          (subst (λ (x : Log). IsLogOf keeper.clock x (coming (begun head last))) (sym by.next_is) (record {
            stage = (head, by.begins, refl);
            segment = refl;
            from = refl;
            latest = low;
          })));
      places = subst (λ (logs : List Log). AreInPlace keeper.workers (map place_of (logs ++ next ∷ []))) (sym (logs.changed after))
          (followed_in_place keeper.workers logs.front logs.back log after next by.segment (subst (λ (ls : List Log). AreInPlace keeper.workers (map place_of ls)) logs.split holds.places)
          (ap (λ (stage : Stage). (is_newest stage, log.segment)) by.written ∙ ap (λ (segment : Option Segment). (true, segment)) by.was)
          (ap place_of by.after_is ∙ ap (λ (segment : Option Segment). (false, segment)) by.was)
          (ap place_of by.next_is));
      checkpoints = holds.checkpoints;
    },
  );
}
  where
    of : SlotOf (IsLogOf keeper.clock) s number log
    of = slot_of (IsLogOf keeper.clock) keeper.logs s number log holds.numbers holds.logs at

    slots : List Slot
    slots = with_changed s.slots (place_at s number) if_sealing

    here : (j : Journal) × (of.slot ≡ writing j) × Keeps by.writer j × (by.writer.failed ≡ false)
    here = written_slot by.writer of.slot (subst (λ (stage : Stage). IsInStage stage of.slot) by.written of.keeps.stage)

    j : Journal
    j = here.0

    last : ℕ
    last = by.new.mark

    head : Head
    head = segment_head last by.segment.worker (by.segment.number + 1)

    logs : Around keeper.logs number log
    logs = around keeper.logs number log at

    low : last ≤ keeper.clock + 1
    low =
        let is : by.writer.last ≤ keeper.clock + 1 = subst (λ (stage : Stage). latest_in stage ≤ keeper.clock + 1) by.written of.keeps.latest in
        omega (arith, is, by.last)

    is_sealed : IsSealed last by.segment.worker by.segment.number j
    is_sealed = by.whole j here.2 (sym (ap segment_in here.1) ∙ sym of.keeps.segment ∙ by.was)

    before : s.slots ≡ of.front ++ writing j ∷ of.back
    before = of.split ∙ ap (λ (x : Slot). of.front ++ x ∷ of.back) here.1

    now : slots ≡ of.front ++ sealed j ∷ of.back
    now = of.changed if_sealing ∙ ap (λ (x : Slot). of.front ++ if_sealing x ∷ of.back) here.1

    files : files_of slots ≡ files_there s
    files = ap files_of now ∙ ap those_there (same_logs of.front of.back (writing j) (sealed j) refl) ∙ sym (ap files_of before)

    newest : IsNewest (files_there (with_sealed s number)) (file_of j)
    newest = subst (λ (fs : List OpenFile). IsNewest fs (file_of j)) (sym files) (stands.newest j (subst (λ (slots : List Slot). Contains slots (writing j)) (sym before) (amid of.front of.back (writing j))))

    kept : (x : Slot) → IsLogOf keeper.clock log x → IsLogOf keeper.clock after (if_sealing x)
    kept x is =
        let written = written_slot by.writer x (subst (λ (stage : Stage). IsInStage stage x) by.written is.stage) in
        let segment : written.0.head.segment ≡ Some by.segment = sym (ap segment_in written.1) ∙ sym is.segment ∙ by.was in
        subst (λ (l : Log). IsLogOf keeper.clock l (if_sealing x)) (sym by.after_is) (subst (λ (y : Slot). IsLogOf keeper.clock (record log { stage = Followed last }) (if_sealing y)) (sym written.1) (record {
          stage = (by.segment.worker, by.segment.number, by.whole written.0 written.2 segment);
          segment = by.was ∙ sym segment;
          from = is.from ∙ ap from_in written.1;
          latest = low;
        }))

-- ---- refusals

-- a journal of which nothing is taken or held is synced whole
whole_sizes : (w : Writer) (j : Journal) → Keeps w j → j.taken ++ j.held ≡ [] → w.synced_size ≡ w.size
whole_sizes w j keeps none =
    let same : records_of j ≡ j.synced = append_assoc j.synced j.taken j.held ∙ ap (λ (rs : List Logged). j.synced ++ rs) none ∙ append-nil j.synced in
    keeps.synced_size ∙ ap (λ (rs : List Logged). length (log_bytes j.head rs)) (sym same) ∙ sym keeps.size

not_whole : (w : Writer) (j : Journal) (segment : Segment) → Keeps w j → w.failed ≡ false → j.head.segment ≡ Some segment → MayNotSeal w → j.taken ++ j.held ≡ [] → ⊥
not_whole w j segment keeps failed is (inl fails) none = false≢true (sym failed ∙ fails)
not_whole w j segment keeps failed is (inr (inl missing)) none = none-some segment (sym missing ∙ keeps.segment ∙ is)
not_whole w j segment keeps failed is (inr (inr unsynced)) none = unsynced (whole_sizes w j keeps none)

-- why no segment follows the log
pub not_followed : (inside keeper : Keeping) (s : Server) (number : ℕ) (log : Log) (fault : KeeperFault) → inside ≡ keeper → slice_get inside.logs number ≡ Some log → Holds keeper s
    → HasNoNext (Some log) fault ⊎ IsUnsealable log fault → HasNoNext (slice_get keeper.logs number) fault ⊎ IsNotWhole s number fault
not_followed inside keeper s number log fault is at holds (inl why) =
    inl (subst (λ (o : Option Log). HasNoNext o fault) (sym (ap (λ (k : Keeping). slice_get k.logs number) (sym is) ∙ at)) why)
not_followed inside keeper s number log fault is at holds (inr why) =
    let of = slot_of (IsLogOf keeper.clock) keeper.logs s number log holds.numbers holds.logs (ap (λ (k : Keeping). slice_get k.logs number) (sym is) ∙ at) in
    let here = written_slot why.1 of.slot (subst (λ (stage : Stage). IsInStage stage of.slot) why.3.0 of.keeps.stage) in
    let segment : here.0.head.segment ≡ Some why.2 = sym (ap segment_in here.1) ∙ sym of.keeps.segment ∙ why.3.1 in
    inr (why.0, here.0, of.at ∙ ap (λ (x : Slot). Some x) here.1, λ none. not_whole why.1 here.0 why.2 here.2 here.3 segment why.4 none)
