-- Calls of a server over writers: after each one its state is one of a life, and all stands.
use Rattle.std.proofs.Common.{◌≡◌, ◌⊎◌, inl, inr, ℕ, suc, ◌+◌, ◌<◌, ◌≤◌, true, Option, Some, None, List, [], ◌∷◌, ◌++◌, map, Contains, refl, sym, ap, ◌∙◌, subst, append_assoc, arith}
use Rattle.std.specs.Prelude.{IfSome}
use Rattle.std.proofs.lemmas.Bool.{true≢false}
use Rattle.std.proofs.lemmas.Option.{IfSome_then}
use Rattle.std.proofs.lemmas.List.{append-nil, map-append}
use Rattle.std.proofs.lemmas.List.Elements.{Contains-append_left, Contains-push_cases}
use Rattle.mt_words.specs.declared.record.Change.{Change}
use Rattle.mt_words.specs.declared.update.Origin.{Origin}
use Rattle.mt_words.specs.declared.update.Update.{Update}
use Rattle.mt_words.specs.Built.{mark_of}
use Rattle.mt_words.specs.Changes.{Logged, is_mark}
use Rattle.mt_words.specs.Updates.{update_at, update_by}
use Rattle.mt_words.proofs.Elements.{no_element, head_or_tail, head_in, tail_in}
use Rattle.mt_record.specs.declared.feed.head.Head.{Head}
use Rattle.mt_record.specs.declared.feed.head.Segment.{Segment}
use Rattle.mt_record.specs.Encoding.{segment_head}
use Rattle.mt_record.specs.Logs.{LogReading, IsReading, times_of}
use Rattle.mt_record.proofs.OneReading.{one_reading_of}
use Rattle.mt_scan.specs.Choice.{CheckpointReading, IsNoBetter}
use Rattle.mt_scan.specs.Segments.{IsEarlier, IsJustBefore, HasGap}
use Rattle.mt_replay.proofs.Members.{in_map}
use Rattle.mt_writer.specs.Files.{OpenFile, file_bytes, file_reading, HasSynced, IsOpenFile, IsWritten, IsSynced}
use Rattle.mt_writer.specs.Journals.{Journal, Writer, Keeps, file_of, records_of, begun, holding, taking, syncing, NewFile, IsSealed}
use Rattle.mt_writer.proofs.JournalLemmas.{opens, written as file_written, synced_more, synced_still}
use Rattle.mt_laws.specs.Crashes.{IsSound, IsSeenAt}
use Rattle.mt_laws.specs.Lives.{IsBehind, AreOpen, IsSyncedAbove, AllSyncedAbove, LogOf, there, deleted, those_there, IsStillOrDeleted, updates_in, AreOld, BeginsRise, IsNewOver, AddNew, only, running, write, sync, acknowledge, add_file, write_checkpoint, stand, Life, begun as begun_life, then}
use Rattle.mt_laws.specs.Names.{IsSyncedBefore, IsNew, IsLowest}
use Rattle.mt_laws.specs.Writing.{Slot, coming, writing, sealed, going, gone, log_of, logs_of, files_of, updates_of, IsNewest, IsFresh, AllReached, IsStamped, stamp_or, clock_after, HasSeen, IsRead, IsWithin, Server, state_of, files_there, begin_now, with_slot, with_more, Stands, IsCall, append, hand_out, told_synced, count_up, begin_log, begin_segment, told_created, seal, tell_client, checkpoint, stand_on, delete, told_deleted}
use Rattle.mt_laws.proofs.LeftFiles.{none_at}
use Rattle.mt_laws.proofs.Doubled.{apart_of, once_of}
use Rattle.mt_laws.proofs.Paired.{zip_map}
use Rattle.mt_laws.proofs.KeptLogs.{zip_there, there_append}
use Rattle.mt_laws.proofs.Living.{IsRunning, life_holds, marks_add_none}
use Rattle.mt_laws.proofs.SomeLife.{only_one}
use Rattle.mt_laws.proofs.LostNames.{life_without}
use Rattle.mt_laws.proofs.Successors.{not_earlier, just_from, just_same, same_or_earlier, just_before_same, just_is_earlier, earlier_too}
use Rattle.mt_laws.proofs.Added.{MayBeAdded, opens_with, one_worker, worker_too, fresh_added}
use Rattle.mt_laws.proofs.Acknowledging.{StaysOpen, all_stay_open}
use Rattle.mt_laws.proofs.Slots.{same_there, in_files, of_files, one_slot, amid, was_in, others_in, file_was, zip_amid, still_amid, same_logs, same_updates, IsUpdateOf, update_more}

-- ---- what stands besides

-- what stands of a slot among these files
abbrev pub SlotStands : ℕ → List OpenFile → Slot → Type 0
SlotStands begin files (coming j) = AreOld begin (records_of j) × IsNew files (file_of j)
SlotStands begin files (writing j) = IsNewest files (file_of j)
SlotStands begin files (sealed j) = (file_of j).synced ≡ file_bytes (file_of j)
SlotStands begin files (going j) = (AreOld begin (records_of j) × IsLowest begin files (file_of j)) × ((file_of j).synced ≡ file_bytes (file_of j))
SlotStands begin files (gone records) = Unit {0}

-- what stands of a server besides what holds in each life
pub record StandsBesides (s : Server) : Type 0 where
  pub each : (x : Slot) → Contains s.slots x → SlotStands (begin_now s) (files_there s) x
  pub firm : (j : Journal) × (Contains s.slots (writing j) ⊎ Contains s.slots (sealed j))
  pub stamped : (u : Update) → Contains (updates_of s.slots) u → (u.stamp.version ≡ u.timestamp) × (u.timestamp ≤ s.clock)
  pub written : (c : CheckpointReading) → Contains s.checkpoints.written c → IsWithin c × (c.end ≤ s.clock)

besides : (s : Server) → Stands s → StandsBesides s
besides s stands = record { each = each; firm = stands.firm; stamped = stands.stamped; written = stands.written }
  where
    each : (x : Slot) → Contains s.slots x → SlotStands (begin_now s) (files_there s) x
    each (coming j) at = stands.new j at
    each (writing j) at = stands.newest j at
    each (sealed j) at = stands.whole j (inl at)
    each (going j) at = (stands.lowest j at, stands.whole j (inr at))
    each (gone records) at = tt

pub stands_with : (s : Server) → Life (state_of s) → StandsBesides s → Stands s
stands_with s life more =
    let is : IsRunning s.acked (logs_of s.slots) s.checkpoints = life_holds (state_of s) life in record {
      opens = is.opens;
      newest = λ j at. more.each (writing j) at;
      whole = λ j at. elim at as (λ _. (file_of j).synced ≡ file_bytes (file_of j)) [ inl one ↦ more.each (sealed j) one | inr one ↦ (more.each (going j) one).1 ];
      new = λ j at. more.each (coming j) at;
      lowest = λ j at. (more.each (going j) at).0;
      firm = more.firm;
      stamped = more.stamped;
      written = more.written;
      acked = λ u at. let safe = is.safe u at in ((more.stamped u safe.0).1, safe.1);
      base = is.base_is;
    }

abbrev IsNext : Server → Type 0
IsNext s = Life (state_of s) × StandsBesides s

-- a file with this header changes nothing of what stands of the slot
abbrev SaysNothing : ℕ → Slot → Head → Type 0
SaysNothing begin (coming j) head = (IsEarlier j.head.segment head.segment → ⊥) × (IsEarlier head.segment j.head.segment → ⊥)
SaysNothing begin (writing j) head = IsEarlier j.head.segment head.segment → ⊥
SaysNothing begin (sealed j) head = Unit {0}
SaysNothing begin (going j) head = (IsEarlier head.segment j.head.segment → ⊥) × (IsJustBefore j.head.segment head.segment → head.from ≤ begin)
SaysNothing begin (gone records) head = Unit {0}

-- it still stands if no other file says something, and none is gone between one that is there and the slot's
slot_stays : (begin : ℕ) (files now : List OpenFile) (x : Slot) → ((f : OpenFile) → Contains now f → Contains files f ⊎ SaysNothing begin x f.head)
    → ((n f last : OpenFile) → log_of x ≡ there n → Contains now f → Contains files last → IsBehind f last → IsBehind last n → Contains now last)
    → SlotStands begin files x → SlotStands begin now x
slot_stays begin files now (coming j) was stays is = (
  is.0,
  record {
    last = λ f at behind. elim (was f at) as (λ _. ⊥) [ inl old ↦ is.1.last f old behind | inr not ↦ not.0 behind ];
    reach = λ time f at behind above. elim (was f at) as (λ _. IsSyncedBefore time now (file_of j) f) [
      | inl old ↦
          let before = is.1.reach time f old behind above in
          let among : Contains now before.above.last = elim before.above.of_log as (λ _. Contains now before.above.last) [
            | inl e ↦ subst (Contains now) e at
            | inr between ↦ stays (file_of j) f before.above.last refl at before.above.stands between before.earlier
          ] in record {
            above = record { last = before.above.last; stands = among; of_log = before.above.of_log; above = before.above.above };
            earlier = before.earlier;
          }
      | inr not ↦ absurd (not.1 behind)
    ];
  },
)
slot_stays begin files now (writing j) was stays is = λ f at behind. elim (was f at) as (λ _. ⊥) [ inl old ↦ is f old behind | inr not ↦ not behind ]
slot_stays begin files now (sealed j) was stays is = is
slot_stays begin files now (going j) was stays is = (
  (
    is.0.0,
    record {
      first = λ f at behind. elim (was f at) as (λ _. ⊥) [ inl old ↦ is.0.1.first f old behind | inr not ↦ not.0 behind ];
      next = λ f at just. elim (was f at) as (λ _. f.head.from ≤ begin) [ inl old ↦ is.0.1.next f old just | inr not ↦ not.1 just ];
    },
  ),
  is.1,
)
slot_stays begin files now (gone records) was stays is = tt

-- ---- the newest file is written to, and synced

-- the journal with other records
abbrev another : Journal → List Logged → List Logged → List Logged → Journal
another j synced taken held = record { head = j.head; synced = synced; taken = taken; held = held }

opens_still : (begin : ℕ) (front back : List Slot) (j : Journal) (synced taken held : List Logged) → AreOpen begin (files_of (front ++ writing j ∷ back))
    → IsNewest (files_of (front ++ writing j ∷ back)) (file_of j) → IsOpenFile (file_of (another j synced taken held))
    → ((time : ℕ) → HasSynced (λ r. (is_mark r ≡ true) × (time ≤ r.timestamp)) (file_of j) → HasSynced (λ r. (is_mark r ≡ true) × (time ≤ r.timestamp)) (file_of (another j synced taken held)))
    → AreOpen begin (files_of (front ++ writing (another j synced taken held) ∷ back))
opens_still begin front back j synced taken held are newest is marks =
    let old = front ++ writing j ∷ back in
    let now = front ++ writing (another j synced taken held) ∷ back in
    all_stay_open begin (files_of old) (files_of now)
    (zip_there (StaysOpen (files_of old)) (logs_of old) (logs_of now) (still_amid (StaysOpen (files_of old)) front back (writing j) (writing (another j synced taken held))
    (λ f at. record {
      head = refl;
      is_open = are.each f at;
      whole = λ other among behind. are.whole f other at among behind;
      same = λ other among behind. refl;
      synced = λ time has. has;
    })
    (record {
      head = refl;
      is_open = is;
      whole = λ other at behind. absurd (newest other at behind);
      same = λ other at behind. absurd (newest other at behind);
      synced = marks;
    }))) are

moved : (s : Server) (front back : List Slot) (j : Journal) (synced taken held : List Logged) (clock : ℕ) → s.clock ≤ clock
    → ((u : Update) → Contains (updates_of (front ++ writing (another j synced taken held) ∷ back)) u → (u.stamp.version ≡ u.timestamp) × (u.timestamp ≤ clock))
    → StandsBesides (with_slot s front (writing j) back) → StandsBesides (record (with_slot s front (writing (another j synced taken held)) back) { clock = clock })
moved s front back j synced taken held clock rises stamps was = record {
  each = λ z at. elim (was_in front back x y z at) as (λ _. SlotStands begin now z) [
    | inl e ↦ subst (SlotStands begin now) e (stays x (amid front back x))
    | inr old ↦ stays z old
  ];
  firm = (another j synced taken held, inl (amid front back y));
  stamped = stamps;
  written = λ c at. let is = was.written c at in (is.0, omega (arith, is.1, rises));
}
  where
    x : Slot
    x = writing j

    y : Slot
    y = writing (another j synced taken held)

    begin : ℕ
    begin = begin_now s

    slots : List Slot
    slots = front ++ x ∷ back

    now : List OpenFile
    now = files_of (front ++ y ∷ back)

    newest : IsNewest (files_of slots) (file_of j)
    newest = was.each x (amid front back x)

    among : Contains (files_of slots) (file_of j)
    among = in_files slots x (file_of j) (amid front back x) refl

    nothing : (z : Slot) → Contains slots z → SaysNothing begin z j.head
    nothing (coming c) at = (
      λ behind. (was.each (coming c) at).1.last (file_of j) among behind,
      λ behind. newest (file_of c) (in_files slots (coming c) (file_of c) at refl) behind,
    )
    nothing (writing c) at = λ behind. was.each (writing c) at (file_of j) among behind
    nothing (sealed c) at = tt
    nothing (going c) at = let is = was.each (going c) at in (λ behind. is.0.1.first (file_of j) among behind, λ just. is.0.1.next (file_of j) among just)
    nothing (gone records) at = tt

    stays : (z : Slot) → Contains slots z → SlotStands begin now z
    stays z at = slot_stays begin (files_of slots) now z
        (λ f there_now. elim (file_was front back x y f there_now) as (λ _. Contains (files_of slots) f ⊎ SaysNothing begin z f.head) [
          | inl e ↦ inr (subst (λ (g : OpenFile). SaysNothing begin z g.head) (same_there (file_of (another j synced taken held)) f e) (nothing z at))
          | inr old ↦ inl old
        ])
        (λ n f last is at_f at_last behind earlier. elim (file_was front back y x last at_last) as (λ _. Contains now last) [
          | inl e ↦ absurd (newest n (in_files slots z n at is) (subst (λ (g : OpenFile). IsBehind g n) (sym (same_there (file_of j) last e)) earlier))
          | inr still ↦ still
        ])
        (was.each z at)

-- an update of a stamped record has its timestamp as its version, which is above the clock, and the clock's then
stamped : (clock time : ℕ) (o : Option Change) (origin : Origin) (u : Update) → IfSome o (λ change. (change.version ≡ time) × (clock < time)) → Contains (update_by origin time o) u
    → (u.stamp.version ≡ u.timestamp) × (clock < u.timestamp) × (u.timestamp ≤ stamp_or clock time o)
stamped clock time None origin u is at = absurd (no_element u at)
stamped clock time (Some change) origin u is at =
    subst (λ (w : Update). (w.stamp.version ≡ w.timestamp) × (clock < w.timestamp) × (w.timestamp ≤ time)) (only_one (update_at origin time change) u at) (is.0, is.1, omega arith)

clock_rises : (clock time : ℕ) (o : Option Change) → IfSome o (λ change. (change.version ≡ time) × (clock < time)) → clock ≤ stamp_or clock time o
clock_rises clock time None is = omega arith
clock_rises clock time (Some change) is = omega (arith, is.1)

appended : (s : Server) (front back : List Slot) (w : Writer) (j : Journal) (r : Logged) → Keeps w (holding j r) → IsStamped s.clock r
    → Life (state_of (with_slot s front (writing j) back)) → Stands (with_slot s front (writing j) back)
    → IsNext (record (with_slot s front (writing (holding j r)) back) { clock = clock_after s.clock r })
appended s front back w j r keeps stamp life stands =
    let old = front ++ writing j ∷ back in
    let now = front ++ writing (holding j r) ∷ back in
    let was = besides (with_slot s front (writing j) back) stands in
    let of : (u : Update) → Contains (updates_of now) u → Contains (updates_of old) u ⊎ IsUpdateOf r u =
    λ u at. update_more 0 front back (writing j) (writing (holding j r)) r u (sym (append_assoc (j.synced ++ j.taken) j.held (r ∷ []))) at in
    let are = opens_still (begin_now s) front back j j.synced j.taken (j.held ++ r ∷ []) stands.opens (stands.newest j (amid front back (writing j))) (opens w (holding j r) keeps)
    (λ time has. record { reading = has.reading; is_reading = has.is_reading; at = has.at; stands = has.stands; holds = has.holds }) in
    let new : AddNew s.checkpoints (updates_of old) (updates_of now) =
    λ u at. elim (of u at) as (λ _. Contains (updates_of old) u ⊎ ((c : CheckpointReading) → Contains s.checkpoints.written c → IsNewOver (updates_of old) c u)) [
      | inl before ↦ inl before
      | inr of_r ↦
          let is = stamped s.clock r.timestamp r.change _ u stamp of_r.2 in
          inr (λ c among.
          let within = was.written c among in record {
            late = let begins = within.0.begins in omega (arith, begins, within.1, is.1);
            newer = λ before at_before same. let low = was.stamped before at_before in omega (arith, low.0, low.1, is.0, is.1);
            above_entry = λ entry at_entry same. let low = within.0.entries entry at_entry in omega (arith, low, within.1, is.0, is.1);
          })
    ] in (
      then (running s.acked (logs_of old) s.checkpoints) (running s.acked (logs_of now) s.checkpoints) life (write s.acked (logs_of old) (logs_of now) s.checkpoints (record {
        each = still_amid IsWritten front back (writing j) (writing (holding j r)) (λ f at. record { new = []; head = refl; records = sym (append-nil f.records); synced = refl }) (file_written j r);
        opens = are;
        new = new;
      })),
      moved s front back j j.synced j.taken (j.held ++ r ∷ []) (clock_after s.clock r) (clock_rises s.clock r.timestamp r.change stamp) (λ u at. elim (of u at) as (λ _. (u.stamp.version ≡ u.timestamp) × (u.timestamp ≤ clock_after s.clock r)) [
        | inl before ↦
            let is = was.stamped u before in
            let rises = clock_rises s.clock r.timestamp r.change stamp in
            (is.0, omega (arith, is.1, rises))
        | inr of_r ↦ let is = stamped s.clock r.timestamp r.change _ u stamp of_r.2 in (is.0, is.2)
      ]) was,
    )

was_synced : (s : Server) (front back : List Slot) (w later : Writer) (j : Journal) → Keeps w j → Keeps later (syncing j)
    → Life (state_of (with_slot s front (writing j) back)) → Stands (with_slot s front (writing j) back) → IsNext (with_slot s front (writing (syncing j)) back)
was_synced s front back w later j keeps now_keeps life stands =
    let old = front ++ writing j ∷ back in
    let now = front ++ writing (syncing j) ∷ back in
    let was = besides (with_slot s front (writing j) back) stands in
    let are = opens_still (begin_now s) front back j (j.synced ++ j.taken) [] j.held stands.opens (stands.newest j (amid front back (writing j))) (opens later (syncing j) now_keeps)
    (λ time has. synced_still (λ r. (is_mark r ≡ true) × (time ≤ r.timestamp)) w j keeps has) in
    let same = same_updates 0 front back (writing j) (writing (syncing j)) (ap (λ (rs : List Logged). rs ++ j.held) (append-nil (j.synced ++ j.taken))) in (
      then (running s.acked (logs_of old) s.checkpoints) (running s.acked (logs_of now) s.checkpoints) life (sync s.acked (logs_of old) (logs_of now) s.checkpoints
          (still_amid IsSynced front back (writing j) (writing (syncing j))
          (λ f at. record { head = refl; records = refl; more = record { lost = []; begins = sym (append-nil f.synced); header = (stands.opens.each f at).synced.header } }) (synced_more w j keeps)) are),
      moved s front back j (j.synced ++ j.taken) [] j.held s.clock (omega arith) (λ u at. was.stamped u (subst (λ (us : List Update). Contains us u) same at)) was,
    )

-- ---- a file that stays as it is

stays_there : (s : Server) (front back : List Slot) (x y : Slot) → log_of y ≡ log_of x → SlotStands (begin_now s) (files_of (front ++ x ∷ back)) y
    → ((j : Journal) × (Contains (front ++ y ∷ back) (writing j) ⊎ Contains (front ++ y ∷ back) (sealed j)))
    → Life (state_of (with_slot s front x back)) → Stands (with_slot s front x back) → IsNext (with_slot s front y back)
stays_there s front back x y same own firm life stands =
    let was = besides (with_slot s front x back) stands in
    let logs = same_logs front back x y same in (
      subst (λ (l : List (LogOf OpenFile)). Life (running s.acked l s.checkpoints)) (sym logs) life,
      record {
        each = λ z at. subst (λ (l : List (LogOf OpenFile)). SlotStands (begin_now s) (those_there l) z) (sym logs)
            (elim (was_in front back x y z at) as (λ _. SlotStands (begin_now s) (files_of (front ++ x ∷ back)) z) [
              | inl e ↦ subst (SlotStands (begin_now s) (files_of (front ++ x ∷ back))) e own
              | inr old ↦ was.each z old
            ]);
        firm = firm;
        stamped = λ u at. was.stamped u (subst (λ (l : List (LogOf OpenFile)). Contains (updates_in l) u) logs at);
        written = was.written;
      },
    )

taken : (j : Journal) → file_of (taking j) ≡ file_of j
taken j =
    let same = append-nil (j.synced ++ (j.taken ++ j.held)) ∙ sym (append_assoc j.synced j.taken j.held) in
    ap (λ (rs : List Logged). record (file_of j) { records = rs }) same

-- ---- a new file

-- what is synced of a file that is synced whole is among its records
whole_record : (P : Logged → Type 0) (file : OpenFile) → IsOpenFile file → file.synced ≡ file_bytes file → HasSynced P file → (r : Logged) × Contains file.records r × P r
whole_record P file is whole has =
    let same = one_reading_of (file_bytes file) has.reading (file_reading file) (subst (λ (bytes : List ℕ). IsReading bytes has.reading) whole has.is_reading) is.is_reading in
    (has.at, subst (λ (log : LogReading). Contains log.records has.at) same has.stands, has.holds)

mark_synced : (P : Logged → Type 0) (w : Writer) (head : Head) (mark : ℕ) → Keeps w (begun head mark) → P (mark_of mark) → HasSynced P (file_of (begun head mark))
mark_synced P w head mark keeps holds = record {
  reading = file_reading (file_of (begun head mark));
  is_reading = (opens w (begun head mark) keeps).is_reading;
  at = mark_of mark;
  stands = head_in (mark_of mark) [];
  holds = holds;
}

added : (s : Server) (w : Writer) (head : Head) (mark : ℕ) → Keeps w (begun head mark) → MayBeAdded (begin_now s) (files_there s) (file_of (begun head mark))
    → IsNew (files_there s) (file_of (begun head mark)) → ((u : Update) → Contains s.acked u → HasSynced (λ r. u.timestamp < r.timestamp) (file_of (begun head mark)))
    → IfSome s.checkpoints.base (λ c. HasSynced (λ r. c.end < r.timestamp) (file_of (begun head mark)))
    → ((x : Slot) → Contains s.slots x → SaysNothing (begin_now s) x head) → Life (state_of s) → Stands s
    → IsNext (with_more s (coming (begun head mark)))
added s w head mark keeps may new above above_end nothing life stands = (
  subst (λ (l : List (LogOf OpenFile)). Life (running s.acked l s.checkpoints)) (sym logs)
      (then (state_of s) (running s.acked (logs_of s.slots ++ there file ∷ []) s.checkpoints) life (add_file s.acked (logs_of s.slots) s.checkpoints file (record {
        opens = subst (AreOpen (begin_now s)) (sym (there_append (logs_of s.slots) (there file ∷ []))) (opens_with (begin_now s) (files_there s) file stands.opens may);
        new = λ u at. inl (was u at);
        above = above;
        above_base = above_end;
      }))),
  record {
    each = λ x at. elim (Contains-push_cases s.slots y x at) as (λ _. SlotStands (begin_now s) (files_of slots) x) [
      | inl old ↦ stays x (nothing x old) (all.each x old)
      | inr e ↦ subst (SlotStands (begin_now s) (files_of slots)) e (stays y (not_earlier head.segment, not_earlier head.segment) (old_marks, new))
    ];
    firm = (
      stands.firm.0,
      elim stands.firm.1 as (λ _. Contains slots (writing stands.firm.0) ⊎ Contains slots (sealed stands.firm.0)) [
        | inl at ↦ inl (Contains-append_left s.slots (y ∷ []) (writing stands.firm.0) at)
        | inr at ↦ inr (Contains-append_left s.slots (y ∷ []) (sealed stands.firm.0) at)
      ],
    );
    stamped = λ u at. stands.stamped u (was u (subst (λ (l : List (LogOf OpenFile)). Contains (updates_in l) u) logs at));
    written = stands.written;
  },
)
  where
    file : OpenFile
    file = file_of (begun head mark)

    y : Slot
    y = coming (begun head mark)

    slots : List Slot
    slots = s.slots ++ y ∷ []

    all : StandsBesides s
    all = besides s stands

    logs : logs_of slots ≡ logs_of s.slots ++ there file ∷ []
    logs = map-append log_of s.slots (y ∷ [])

    files : files_of slots ≡ files_there s ++ file ∷ []
    files = ap those_there logs ∙ there_append (logs_of s.slots) (there file ∷ [])

    is_marked : (r : Logged) → Contains file.records r → is_mark r ≡ true
    is_marked r at = subst (λ (x : Logged). is_mark x ≡ true) (only_one (mark_of mark) r at) refl

    was : (u : Update) → Contains (updates_in (logs_of s.slots ++ there file ∷ [])) u → Contains (updates_of s.slots) u
    was u at = marks_add_none 0 (logs_of s.slots) file u is_marked at

    old_marks : AreOld (begin_now s) (records_of (begun head mark))
    old_marks r at not = absurd (true≢false (sym (is_marked r at) ∙ not))

    stays : (x : Slot) → SaysNothing (begin_now s) x head → SlotStands (begin_now s) (files_there s) x → SlotStands (begin_now s) (files_of slots) x
    stays x says is = slot_stays (begin_now s) (files_there s) (files_of slots) x
        (λ f at. elim (Contains-push_cases (files_there s) file f (subst (λ (fs : List OpenFile). Contains fs f) files at)) as (λ _. Contains (files_there s) f ⊎ SaysNothing (begin_now s) x f.head) [
          | inl old ↦ inl old
          | inr e ↦ inr (subst (λ (g : OpenFile). SaysNothing (begin_now s) x g.head) e says)
        ])
        (λ n f last e at_f at_last behind earlier. subst (λ (fs : List OpenFile). Contains fs last) (sym files) (Contains-append_left (files_there s) (file ∷ []) last at_last))
        is

-- a new log
log_begun : (s : Server) (w : Writer) (mark : ℕ) (head : Head) → Keeps w (begun head mark) → ((u : Update) → Contains s.acked u → u.timestamp < mark)
    → IfSome s.checkpoints.base (λ base. base.end < mark) → head.from ≤ begin_now s → IsFresh (files_there s) head → Life (state_of s) → Stands s → IsNext (with_more s (coming (begun head mark)))
log_begun s w mark head keeps above above_end from fresh life stands =
    added s w head mark keeps (fresh_added (begin_now s) (files_there s) (file_of (begun head mark)) (opens w (begun head mark) keeps) fresh from)
    (record { last = after; reach = λ time f at behind has. absurd (before f at behind) })
    (λ u at. mark_synced (λ r. u.timestamp < r.timestamp) w head mark keeps (above u at))
    (IfSome_then s.checkpoints.base above_end (λ c low. mark_synced (λ r. c.end < r.timestamp) w head mark keeps low)) nothing life stands
  where
    before : (f : OpenFile) → Contains (files_there s) f → IsEarlier f.head.segment head.segment → ⊥
    before f at behind = fresh f at (one_worker f.head.segment head.segment behind)

    after : (f : OpenFile) → Contains (files_there s) f → IsEarlier head.segment f.head.segment → ⊥
    after f at behind = fresh f at (worker_too head.segment f.head.segment (one_worker head.segment f.head.segment behind))

    is_in : (x : Slot) (j : Journal) → Contains s.slots x → log_of x ≡ there (file_of j) → Contains (files_there s) (file_of j)
    is_in x j at e = in_files s.slots x (file_of j) at e

    nothing : (x : Slot) → Contains s.slots x → SaysNothing (begin_now s) x head
    nothing (coming j) at = let among = is_in (coming j) j at refl in (λ behind. before (file_of j) among behind, λ behind. after (file_of j) among behind)
    nothing (writing j) at = λ behind. before (file_of j) (is_in (writing j) j at refl) behind
    nothing (sealed j) at = tt
    nothing (going j) at =
        let among = is_in (going j) j at refl in
        (λ behind. after (file_of j) among behind, λ just. absurd (before (file_of j) among (just_is_earlier j.head.segment head.segment just)))
    nothing (gone records) at = tt

-- the next segment of a sealed one
segment_begun : (s : Server) (w : Writer) (j : Journal) (last worker number : ℕ) → Contains s.slots (sealed j) → IsSealed last worker number j → IsNewest (files_there s) (file_of j)
    → Keeps w (begun (segment_head last worker (number + 1)) last) → Life (state_of s) → Stands s
    → IsNext (with_more s (coming (begun (segment_head last worker (number + 1)) last)))
segment_begun s w j last worker number at is newest keeps life stands =
    added s w head last keeps may (record { last = after; reach = reach })
    (λ u at_u. too u.timestamp (stands.acked u at_u).1)
    (IfSome_then s.checkpoints.base stands.base (λ c base_is. too c.end base_is.1)) nothing life stands
  where
    head : Head
    head = segment_head last worker (number + 1)

    file : OpenFile
    file = file_of (begun head last)

    sealed_file : OpenFile
    sealed_file = file_of j

    is_open : IsOpenFile file
    is_open = opens w (begun head last) keeps

    among : Contains (files_there s) sealed_file
    among = in_files s.slots (sealed j) sealed_file at refl

    just : IsJustBefore j.head.segment head.segment
    just = subst (λ (o : Option Segment). IsJustBefore o head.segment) (sym is.segment)
        (just_from (record { worker = worker; number = number }) (record { worker = worker; number = number + 1 }) (refl, refl))

    not_sealed : (c : Journal) → going c ≡ sealed j → ⊥
    not_sealed c e = absurd cc

    -- a slot's file behind the new one is the sealed one, or behind it
    before : (x : Slot) (f : OpenFile) → Contains s.slots x → log_of x ≡ there f → IsBehind f file → (x ≡ sealed j) ⊎ IsBehind f sealed_file
    before x f at_x e behind = elim (same_or_earlier f.head.segment j.head.segment head.segment behind just) as (λ _. (x ≡ sealed j) ⊎ IsBehind f sealed_file) [
      | inl same ↦ inl (one_slot s.slots x (sealed j) f sealed_file (apart_of (map file_reading (files_there s)) stands.opens.once) at_x at e refl same)
      | inr earlier ↦ inr earlier
    ]

    file_before : (f : OpenFile) → Contains (files_there s) f → IsBehind f file → (f ≡ sealed_file) ⊎ IsBehind f sealed_file
    file_before f at_f behind =
        let x = of_files s.slots f at_f in
        elim (before x.0 f x.1 x.2 behind) as (λ _. (f ≡ sealed_file) ⊎ IsBehind f sealed_file) [
          | inl e ↦ inl (same_there f sealed_file (sym x.2 ∙ ap log_of e))
          | inr earlier ↦ inr earlier
        ]

    after : (f : OpenFile) → Contains (files_there s) f → IsBehind file f → ⊥
    after f at_f behind = newest f at_f (earlier_too j.head.segment head.segment f.head.segment (just_is_earlier j.head.segment head.segment just) behind)

    -- no synced record of the sealed one is above its last timestamp
    most : (P : Logged → Type 0) → HasSynced P sealed_file → (r : Logged) × P r × (r.timestamp ≤ last)
    most P has =
        let r = whole_record P sealed_file (stands.opens.each sealed_file among) is.whole has in
        let time = tail_in j.head.from r.0.timestamp (map (λ (x : Logged). x.timestamp) sealed_file.records) (in_map (λ (x : Logged). x.timestamp) sealed_file.records r.0 r.1) in
        (r.0, r.2, is.times r.0.timestamp time)

    above : (time : ℕ) → IsSyncedAbove time (files_there s) sealed_file → time < last
    above time has = elim has.of_log as (λ _. time < last) [
      | inl e ↦ let r = most (λ r. time < r.timestamp) (subst (HasSynced (λ r. time < r.timestamp)) (sym e) has.above) in omega (arith, r.1, r.2)
      | inr behind ↦ absurd (newest has.last has.stands behind)
    ]

    too : (time : ℕ) → AllSyncedAbove time (files_there s) → HasSynced (λ r. time < r.timestamp) file
    too time all = mark_synced (λ r. time < r.timestamp) w head last keeps (above time (all sealed_file among))

    reach : (time : ℕ) (f : OpenFile) → Contains (files_there s) f → IsBehind f file → HasSynced (λ r. time < r.timestamp) file → IsSyncedBefore time (files_there s) file f
    reach time f at_f behind has =
        let r = whole_record (λ r. time < r.timestamp) file is_open refl has in
        let low : time < last = subst (λ (x : Logged). time < x.timestamp) (sym (only_one (mark_of last) r.0 r.1)) r.2 in record {
          above = record { last = sealed_file; stands = among; of_log = file_before f at_f behind; above = is.reached time low };
          earlier = just_is_earlier j.head.segment head.segment just;
        }

    may : MayBeAdded (begin_now s) (files_there s) file
    may = record {
      is_open = is_open;
      once = λ x at_x same. newest x at_x (just_before_same j.head.segment head.segment x.head.segment just same);
      last = after;
      follows = inl (sealed_file, among, just);
      whole = λ x at_x behind. elim (file_before x at_x behind) as (λ _. x.synced ≡ file_bytes x) [
        | inl e ↦ subst (λ (f : OpenFile). f.synced ≡ file_bytes f) (sym e) is.whole
        | inr earlier ↦ stands.opens.whole x sealed_file at_x among earlier
      ];
      beyond = λ x at_x behind time is_time. mark_synced (λ r. (is_mark r ≡ true) × (time ≤ r.timestamp)) w head last keeps (
        refl,
        elim (file_before x at_x behind) as (λ _. time ≤ last) [
          | inl e ↦ is.times time (subst (λ (f : OpenFile). Contains (times_of (file_reading f)) time) e is_time)
          | inr earlier ↦
              let r = most (λ r. (is_mark r ≡ true) × (time ≤ r.timestamp)) (stands.opens.beyond x sealed_file at_x among earlier time is_time) in
              omega (arith, r.1.1, r.2)
        ],
      );
    }

    nothing : (x : Slot) → Contains s.slots x → SaysNothing (begin_now s) x head
    nothing (coming c) at_c = (
      λ behind. elim (before (coming c) (file_of c) at_c refl behind) as (λ _. ⊥) [ inl e ↦ absurd cc | inr earlier ↦ (stands.new c at_c).1.last sealed_file among earlier ],
      λ behind. after (file_of c) (in_files s.slots (coming c) (file_of c) at_c refl) behind,
    )
    nothing (writing c) at_c = λ behind. elim (before (writing c) (file_of c) at_c refl behind) as (λ _. ⊥) [ inl e ↦ absurd cc | inr earlier ↦ stands.newest c at_c sealed_file among earlier ]
    nothing (sealed c) at_c = tt
    nothing (going c) at_c = (
      λ behind. after (file_of c) (in_files s.slots (going c) (file_of c) at_c refl) behind,
      λ follows. absurd (not_sealed c (one_slot s.slots (going c) (sealed j) (file_of c) sealed_file (apart_of (map file_reading (files_there s)) stands.opens.once) at_c at refl refl
          (just_same c.head.segment j.head.segment head.segment follows just))),
    )
    nothing (gone records) at_c = tt

-- ---- a file that is gone

was_deleted : (s : Server) (front back : List Slot) (j : Journal) → Life (state_of (with_slot s front (going j) back)) → Stands (with_slot s front (going j) back)
    → IsNext (with_slot s front (gone (records_of j)) back)
was_deleted s front back j life stands = (
  life_without s.acked (logs_of old) (logs_of now) s.checkpoints life (record {
    each = zip_map (IsStillOrDeleted (begin_now s)) log_of log_of old now (zip_amid (λ a b. IsStillOrDeleted (begin_now s) (log_of a) (log_of b)) front back x y (λ z at. itself (log_of z)) (refl, lowest.0));
    lost = λ f at. elim (file_was front back y x f at) as (λ _. Contains (files_of now) f ⊎ (IsNew (files_of old) f ⊎ IsLowest (begin_now s) (files_of old) f)) [
      | inl e ↦ inr (inr (subst (IsLowest (begin_now s) (files_of old)) (same_there (file_of j) f e) lowest.1))
      | inr still ↦ inl still
    ];
    some = let at = elim firm.1 as (λ _. Contains (files_of now) (file_of firm.0)) [
      | inl at ↦ in_files now (writing firm.0) (file_of firm.0) at refl
      | inr at ↦ in_files now (sealed firm.0) (file_of firm.0) at refl
    ] in omega (arith, at.1);
  }),
  record {
    each = λ z at. elim (was_in front back x y z at) as (λ _. SlotStands (begin_now s) (files_of now) z) [
      | inl e ↦ subst (SlotStands (begin_now s) (files_of now)) e tt
      | inr before ↦ slot_stays (begin_now s) (files_of old) (files_of now) z (λ f at_f. inl (was f at_f))
          (λ n f last is at_f at_last behind earlier. elim (file_was front back y x last at_last) as (λ _. Contains (files_of now) last) [
            | inl e ↦ absurd (lowest.1.first f (was f at_f) (subst (IsBehind f) (sym (same_there (file_of j) last e)) behind))
            | inr still ↦ still
          ]) (all.each z before)
    ];
    firm = firm;
    stamped = λ u at. all.stamped u (subst (λ (us : List Update). Contains us u) (same_updates 0 front back x y refl) at);
    written = all.written;
  },
)
  where
    x : Slot
    x = going j

    y : Slot
    y = gone (records_of j)

    old : List Slot
    old = front ++ x ∷ back

    now : List Slot
    now = front ++ y ∷ back

    all : StandsBesides (with_slot s front x back)
    all = besides (with_slot s front x back) stands

    lowest : AreOld (begin_now s) (records_of j) × IsLowest (begin_now s) (files_of old) (file_of j)
    lowest = stands.lowest j (amid front back x)

    itself : (log : LogOf OpenFile) → IsStillOrDeleted (begin_now s) log log
    itself (there f) = refl
    itself (deleted rs) = refl

    not_gone : (f : OpenFile) → deleted (records_of j) ≡ there f → ⊥
    not_gone f e = absurd cc

    was : (f : OpenFile) → Contains (files_of now) f → Contains (files_of old) f
    was f at = elim (file_was front back x y f at) as (λ _. Contains (files_of old) f) [ inl e ↦ absurd (not_gone f e) | inr before ↦ before ]

    not_writing : (k : Journal) → going j ≡ writing k → ⊥
    not_writing k e = absurd cc

    not_sealed : (k : Journal) → going j ≡ sealed k → ⊥
    not_sealed k e = absurd cc

    firm : (k : Journal) × (Contains now (writing k) ⊎ Contains now (sealed k))
    firm = (
      stands.firm.0,
      elim stands.firm.1 as (λ _. Contains now (writing stands.firm.0) ⊎ Contains now (sealed stands.firm.0)) [
        | inl at ↦ elim (was_in front back y x (writing stands.firm.0) at) as (λ _. Contains now (writing stands.firm.0) ⊎ Contains now (sealed stands.firm.0)) [
          | inl e ↦ absurd (not_writing stands.firm.0 e)
          | inr still ↦ inl still
        ]
        | inr at ↦ elim (was_in front back y x (sealed stands.firm.0) at) as (λ _. Contains now (writing stands.firm.0) ⊎ Contains now (sealed stands.firm.0)) [
          | inl e ↦ absurd (not_sealed stands.firm.0 e)
          | inr still ↦ inr still
        ]
      ],
    )

-- ---- checkpoints

-- what is reached is synced above each lesser timestamp
all_above : (time reach : ℕ) (files : List OpenFile) → AllReached reach files → time < reach → AllSyncedAbove time files
all_above time reach files all below file at =
    let is = all file at in
    record { last = is.last; stands = is.stands; of_log = is.of_log; above = is.reached time below }

-- a checkpoint that was read is sound
read_sound : (updates : List Update) (new : CheckpointReading) → ((u : Update) → Contains updates u → u.stamp.version ≡ u.timestamp) → IsRead updates new → IsSound updates new
read_sound updates new stamps is = record {
  entries = λ entry at.
      let read = is.entries entry at in
      record { whole = read.whole; seen = seen entry.key entry.version read.seen read.by_end; columns = read.columns };
  others = λ key none.
      let read = is.others key none in record {
        version = read.version;
        seen = seen key read.version read.seen read.by_end;
        no_column = read.no_column;
        rise = λ u w at_u at_w key_u key_w early late. inl (omega (arith, stamps u at_u, stamps w at_w, early, late));
      };
}
  where
    seen : (key : List ℕ) (version : ℕ) → HasSeen updates new.begin key version → version ≤ new.end → IsSeenAt updates new key version
    seen key version has most = record { before = has; by_end = λ u at same low. omega (arith, stamps u at, low, most) }

-- the begins rise still, if the new one is from after the ends
rise_still : (written : List CheckpointReading) (new : CheckpointReading) → ((c : CheckpointReading) → Contains written c → (c.begin ≤ c.end) × (c.end < new.begin)) → new.begin ≤ new.end
    → BeginsRise written → BeginsRise (new ∷ written)
rise_still written new below begins rise a b at_a at_b no_better = elim (head_or_tail new a written at_a) as (λ _. a.begin ≤ b.begin) [
  | inl is_a ↦
      let same : new.end ≡ a.end = ap (λ (c : CheckpointReading). c.end) is_a in
      let same_begin : new.begin ≡ a.begin = ap (λ (c : CheckpointReading). c.begin) is_a in
      elim (head_or_tail new b written at_b) as (λ _. a.begin ≤ b.begin) [
        | inl is_b ↦ let too : new.begin ≡ b.begin = ap (λ (c : CheckpointReading). c.begin) is_b in omega (arith, same_begin, too)
        | inr old ↦ let low = below b old in let most = ends_by a b no_better in omega (arith, same, low.1, begins, most)
      ]
  | inr old_a ↦ elim (head_or_tail new b written at_b) as (λ _. a.begin ≤ b.begin) [
    | inl is_b ↦
        let low = below a old_a in
        let too : new.begin ≡ b.begin = ap (λ (c : CheckpointReading). c.begin) is_b in
        omega (arith, low.0, low.1, too)
    | inr old_b ↦ rise a b old_a old_b no_better
  ]
]
  where
    ends_by : (a b : CheckpointReading) → IsNoBetter a b → a.end ≤ b.end
    ends_by a b is = elim is as (λ _. a.end ≤ b.end) [ inl less ↦ omega (arith, less) | inr same ↦ omega (arith, same.0) ]

was_read : (s : Server) (new : CheckpointReading) → IsRead (updates_of s.slots) new → new.begin ≤ new.end → new.end ≤ s.clock
    → ((c : CheckpointReading) → Contains s.checkpoints.written c → c.end < new.begin) → Life (state_of s) → Stands s
    → IsNext (record s { checkpoints = record s.checkpoints { written = new ∷ s.checkpoints.written } })
was_read s new read begins ends after life stands =
    let was = besides s stands in
    let is : IsRunning s.acked (logs_of s.slots) s.checkpoints = life_holds (state_of s) life in
    let below : (c : CheckpointReading) → Contains s.checkpoints.written c → (c.begin ≤ c.end) × (c.end < new.begin) = λ c at. ((was.written c at).0.begins, after c at) in (
      then (state_of s) (running s.acked (logs_of s.slots) (record s.checkpoints { written = new ∷ s.checkpoints.written })) life (write_checkpoint s.acked (logs_of s.slots) s.checkpoints new
          (read_sound (updates_of s.slots) new (λ u at. (was.stamped u at).0) read) (rise_still s.checkpoints.written new below begins is.rise)),
      record {
        each = was.each;
        firm = was.firm;
        stamped = was.stamped;
        written = λ c at. elim (head_or_tail new c s.checkpoints.written at) as (λ _. IsWithin c × (c.end ≤ s.clock)) [
          | inl e ↦ subst (λ (x : CheckpointReading). IsWithin x × (x.end ≤ s.clock)) e (record { begins = begins; entries = λ entry among. (read.entries entry among).by_end }, ends)
          | inr old ↦ was.written c old
        ];
      },
    )

-- what stands of a slot does at any later begin
stands_later : (low high : ℕ) (files : List OpenFile) (x : Slot) → low ≤ high → SlotStands low files x → SlotStands high files x
stands_later low high files (coming j) rises is = (λ r at not. let old : r.timestamp < low = is.0 r at not in omega (arith, old, rises), is.1)
stands_later low high files (writing j) rises is = is
stands_later low high files (sealed j) rises is = is
stands_later low high files (going j) rises is = (
  (
    λ r at not. let old : r.timestamp < low = is.0.0 r at not in omega (arith, old, rises),
    record { first = is.0.1.first; next = λ f at just. let from = is.0.1.next f at just in omega (arith, from, rises) },
  ),
  is.1,
)
stands_later low high files (gone records) rises is = tt

stood : (s : Server) (new : CheckpointReading) (reach : ℕ) → Contains s.checkpoints.written new → begin_now s ≤ new.begin → AllReached reach (files_there s) → new.end < reach
    → Life (state_of s) → Stands s → IsNext (record s { checkpoints = record s.checkpoints { base = Some new } })
stood s new reach among rises all below life stands =
    let was = besides s stands in (
      then (state_of s) (running s.acked (logs_of s.slots) (record s.checkpoints { base = Some new })) life
          (stand s.acked (logs_of s.slots) s.checkpoints new (record { written = among; begins = rises; synced = all_above new.end reach (files_there s) all below })),
      record { each = λ x at. stands_later (begin_now s) new.begin (files_there s) x rises (was.each x at); firm = was.firm; stamped = was.stamped; written = was.written },
    )

told : (s : Server) (u : Update) (reach : ℕ) → Contains (updates_of s.slots) u → AllReached reach (files_there s) → u.timestamp < reach
    → Life (state_of s) → Stands s → IsNext (record s { acked = u ∷ s.acked })
told s u reach at all below life stands =
    let was = besides s stands in (
      then (state_of s) (running (u ∷ s.acked) (logs_of s.slots) s.checkpoints) life
          (acknowledge s.acked (logs_of s.slots) s.checkpoints u at (all_above u.timestamp reach (files_there s) all below)),
      record { each = was.each; firm = was.firm; stamped = was.stamped; written = was.written },
    )

-- ---- all calls

counted : (s : Server) → StandsBesides s → StandsBesides (record s { clock = suc s.clock })
counted s was = record {
  each = was.each;
  firm = was.firm;
  stamped = λ u at. let is = was.stamped u at in (is.0, omega (arith, is.1));
  written = λ c at. let is = was.written c at in (is.0, omega (arith, is.1));
}

next : (before after : Server) → Life (state_of before) → Stands before → IsCall before after → IsNext after
next _ _ life stands (append s front back w j r keeps stamp) = appended s front back w j r keeps stamp life stands
next _ _ life stands (hand_out s front back w j keeps) =
    stays_there s front back (writing j) (writing (taking j)) (ap there (taken j)) (stands.newest j (amid front back (writing j)))
    (taking j, inl (amid front back (writing (taking j)))) life stands
next _ _ life stands (told_synced s front back w later j keeps now) = was_synced s front back w later j keeps now life stands
next _ _ life stands (count_up s) = (life, counted s (besides s stands))
next _ _ life stands (begin_log s w new head keeps begins above above_end from fresh) = log_begun s w new.mark head keeps above above_end from fresh life stands
next _ _ life stands (begin_segment s w new j last worker number at is newest keeps begins mark) = segment_begun s w j last worker number at is newest keeps life stands
next _ _ life stands (told_created s front back j) =
    stays_there s front back (coming j) (writing j) refl ((stands.new j (amid front back (coming j))).1.last) (j, inl (amid front back (writing j))) life stands
next _ _ life stands (seal s front back j whole) = stays_there s front back (writing j) (sealed j) refl whole (j, inr (amid front back (sealed j))) life stands
next _ _ life stands (tell_client s u reach at all below) = told s u reach at all below life stands
next _ _ life stands (checkpoint s new read begins ends after) = was_read s new read begins ends after life stands
next _ _ life stands (stand_on s new reach among rises all below) = stood s new reach among rises all below life stands
next _ _ life stands (delete s front back j other old lowest firm) =
    stays_there s front back (sealed j) (going j) refl ((old, lowest), stands.whole j (inl (amid front back (sealed j)))) (
      other,
      elim firm as (λ _. Contains (front ++ going j ∷ back) (writing other) ⊎ Contains (front ++ going j ∷ back) (sealed other)) [
        | inl at ↦ inl (others_in front back (going j) (writing other) at)
        | inr at ↦ inr (others_in front back (going j) (sealed other) at)
      ],
    ) life stands
next _ _ life stands (told_deleted s front back j) = was_deleted s front back j life stands

pub called_next : (before after : Server) → Life (state_of before) → Stands before → IsCall before after → Life (state_of after) × Stands after
called_next before after life stands call = let is = next before after life stands call in (is.0, stands_with after is.0 is.1)

-- ---- a new server

none_open : AreOpen 0 []
none_open = record {
  each = λ file at. absurd (no_element file at);
  once = once_of [] tt;
  no_gap = λ i. none_at (HasGap 0 []) [] i (λ x at gap. no_element x at);
  whole = λ a b at_a at_b behind. absurd (no_element a at_a);
  beyond = λ a b at_a at_b behind time at. absurd (no_element a at_a);
}

pub new_life : (w : Writer) (new : NewFile) (head : Head) → Keeps w (begun head new.mark) → head.from ≡ 0
    → let s : Server = record { clock = new.mark; acked = []; slots = writing (begun head new.mark) ∷ []; places = 0 ∷ []; checkpoints = only None } in Life (state_of s) × Stands s
new_life w new head keeps from = (
  life,
  stands_with s life (record {
    each = λ x at. subst (SlotStands 0 (file ∷ [])) (only_one (writing (begun head new.mark)) x at)
        (λ other at_other behind. not_earlier head.segment (subst (λ (f : OpenFile). IsEarlier head.segment f.head.segment) (sym (only_one file other at_other)) behind));
    firm = (begun head new.mark, inl (head_in (writing (begun head new.mark)) []));
    stamped = λ u at. absurd (no_element u at);
    written = λ c at. absurd (no_element c at);
  }),
)
  where
    file : OpenFile
    file = file_of (begun head new.mark)

    s : Server
    s = record { clock = new.mark; acked = []; slots = writing (begun head new.mark) ∷ []; places = 0 ∷ []; checkpoints = only None }

    life : Life (state_of s)
    life = begun_life file [] (opens_with 0 [] file none_open (fresh_added 0 [] file (opens w (begun head new.mark) keeps) (λ other at one. no_element other at) (omega (arith, from))))
