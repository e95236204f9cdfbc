-- A restart from the files that a crash left holds a server of the law.
use Rattle.std.proofs.Common.{◌≡◌, ◌⊎◌, inl, inr, ℕ, zero, suc, ◌-◌, ◌^◌, ◌≤◌, ◌<◌, max, Bool, true, false, Option, None, Some, IfSome, List, [], ◌∷◌, ◌++◌, length, flat_map, map, Contains, refl, sym, ap, ◌∙◌, subst, append_assoc, arith}
use Rattle.std.specs.Prelude.{nat_eq}
use Rattle.std.specs.List.{AllZip, IsDistinct}
use Rattle.std.specs.List.Sorted.{IsPermutation, apply_swaps}
use Rattle.std.proofs.lemmas.List.{append-nil, length-map}
use Rattle.std.proofs.lemmas.List.Sorted.{IsPermutation-sym, Contains-permutation}
use Rattle.std.proofs.lemmas.Map.Keys.{IsDistinct-tail, IsDistinct-cons}
use Rattle.std.proofs.lemmas.Slice.Zip.{AllZip-long}
use Rattle.mt_words.specs.Changes.{Logged}
use Rattle.mt_words.proofs.Elements.{no_element, head_or_tail, head_in, tail_in}
use Rattle.mt_record.specs.declared.feed.head.Segment.{Segment}
use Rattle.mt_record.specs.Logs.{log_bytes}
use Rattle.mt_record.specs.Resuming.{resumed}
use Rattle.mt_record.proofs.OneReading.{one_reading_of}
use Rattle.mt_scan.specs.Segments.{IsEarlier}
use Rattle.mt_scan.specs.Choice.{CheckpointReading}
use Rattle.mt_replay.proofs.Members.{all_from, of_map, in_map}
use Rattle.mt_writer.specs.Files.{OpenFile, file_bytes, file_reading}
use Rattle.mt_writer.specs.Journals.{Journal, file_of, records_of, read_back}
use Rattle.mt_writer.proofs.JournalLemmas.{opens}
use Rattle.mt_laws.specs.Lives.{AllSyncedAbove, LogOf, there, deleted, those_there, as_written, IsLeftOf, IsStill, IsResumedAs}
use Rattle.mt_laws.specs.Resuming.{IsSameOrResumed}
use Rattle.mt_laws.specs.Writing.{Slot, coming, writing, going, gone, log_of, logs_of, files_of, IsNewest, Server, Stands, AreStops, none, more, AreResumed, Called, restarted}
use Rattle.mt_laws.proofs.Orders.{swaps_of, zip_swaps, map_swaps}
use Rattle.mt_laws.proofs.Paired.{partner_of}
use Rattle.mt_record.specs.Opening.{Opens}
use Rattle.mt_record.specs.Spelling.{spelling}
use Rattle.mt_writer.specs.Files.{HasHeader}
use Rattle.mt_writer.proofs.FileLemmas.{file_opens}
use Rattle.mt_laws.proofs.CutLogs.{file_says, text_says}
use Rattle.mt_laws.specs.Resuming.{IsReplaced}
use Rattle.mt_laws.proofs.ResumedStores.{cutoff_fits}
use Rattle.mt_laws.proofs.ServerCrashes.{stands_of}
use Rattle.mt_keeper.specs.declared.keeper.Log.{Log}
use Rattle.mt_keeper.specs.Keeping.{Keeping, slot_in, numbered, AreNumbered}
use Rattle.mt_keeper.specs.declared.resuming.Found.{Found}
use Rattle.mt_keeper.specs.Restarting.{Resuming, without_logs, has_later, segments_of, among, going_with, IsBack, AreAdded, AreFilesAfter, going_on, Restarts}
use Rattle.mt_keeper.proofs.OneChanged.{in_numbered, differ_test, apart_in_order, first_apart, none_apart}
use Rattle.mt_keeper.proofs.Staging.{none_later, writer_in, AreKnown, IsOf, slot_by, slot_among, goes_on, known_more}

-- ---- the logs that were added

abbrev pub restart_of : Found → Keeping → Resuming
restart_of found keeper = record { found = found; keeper = keeper }

-- what was added
record Gathered (before : Resuming) (files : List (List ℕ)) (after : Resuming) : Type 0 where
  clock : after.keeper.clock ≡ before.keeper.clock
  base : after.keeper.base ≡ before.keeper.base
  making : after.keeper.making ≡ before.keeper.making
  new : List Log
  logs : after.keeper.logs ≡ before.keeper.logs ++ new
  back : AllZip (IsBack before.keeper.clock) files new
  known : AreKnown before.keeper.workers before.keeper.logs → AreKnown after.keeper.workers after.keeper.logs

gathered : (before : Resuming) (files : List (List ℕ)) (after : Resuming) → AreAdded before files after → Gathered before files after
gathered before [] after is = record {
  clock = ap (λ (r : Resuming). r.keeper.clock) is;
  base = ap (λ (r : Resuming). r.keeper.base) is;
  making = ap (λ (r : Resuming). r.keeper.making) is;
  new = [];
  logs = ap (λ (r : Resuming). r.keeper.logs) is ∙ sym (append-nil before.keeper.logs);
  back = tt;
  known = λ known. subst (λ (r : Resuming). AreKnown r.keeper.workers r.keeper.logs) (sym is) known;
}
gathered before (bytes ∷ files) after (next, one, rest) =
    let later = gathered next files after rest in record {
      clock = later.clock ∙ ap (λ (r : Resuming). r.keeper.clock) one.after_is;
      base = later.base ∙ ap (λ (r : Resuming). r.keeper.base) one.after_is;
      making = later.making ∙ ap (λ (r : Resuming). r.keeper.making) one.after_is;
      new = one.log ∷ later.new;
      logs = later.logs ∙ ap (λ (r : Resuming). r.keeper.logs ++ later.new) one.after_is ∙ append_assoc before.keeper.logs (one.log ∷ []) later.new;
      back = (one.is_back, subst (λ (clock : ℕ). AllZip (IsBack clock) files later.new) (ap (λ (r : Resuming). r.keeper.clock) one.after_is) later.back);
      known = λ known.
          later.known (subst (λ (r : Resuming). AreKnown r.keeper.workers r.keeper.logs) (sym one.after_is) (known_more before.keeper.workers before.keeper.logs one.log known));
    }

-- a later clock has reached these logs too
still_of : (clock later : ℕ) (logs : List Log) (js : List Journal) → clock ≤ later → AllZip (IsOf clock) logs js → AllZip (IsOf later) logs js
still_of clock later [] [] past are = tt
still_of clock later [] (j ∷ js) past are = absurd are
still_of clock later (l ∷ ls) [] past are = absurd are
still_of clock later (l ∷ ls) (j ∷ js) past are = (
  (record { stage = are.0.0.stage; segment = are.0.0.segment; from = are.0.0.from; latest = let low = are.0.0.latest in omega (arith, low, past) }, are.0.1),
  still_of clock later ls js past are.1,
)

-- ---- the journals of the files

-- the journals that the logs keep, and that replace what was left
record AreBack (clock cutoff : ℕ) (now : List (List ℕ)) (logs : List Log) : Type 0 where
  js : List Journal
  of : AllZip (IsOf clock) logs js
  resumed : AllZip (IsResumedAs cutoff) now (map file_of js)

one_back : (clock cutoff : ℕ) (left bytes : List ℕ) (log : Log) → cutoff < 2 ^ 64 → IsReplaced cutoff left bytes → (is : IsBack clock bytes log)
    → IsResumedAs cutoff left (file_of (read_back is.head is.records))
one_back clock cutoff left bytes log fits to is =
    let j = read_back is.head is.records in
    let w = writer_in log.stage j is.kept.stage in
    let all : records_of j ≡ is.records = append-nil (is.records ++ []) ∙ append-nil is.records in
    let said = (opens w.0 j w.2).is_reading in
    let text = file_bytes (file_of j) in
    let opens_text : Opens bytes text false = subst (λ (rs : List Logged). Opens bytes (log_bytes is.head rs) false) (sym (append-nil (is.records ++ []))) (file_opens is.writer.mark is.head (is.records ++ []) bytes is.is_file.is_file) in
    let header : HasHeader text = record { head = is.head; is_head = said.is_log.is_head; more = flat_map spelling (records_of j); spelled = refl } in
    let reading = file_says bytes text false (file_reading (file_of j)) opens_text (text_says text (file_reading (file_of j)) header said) in record {
      reading = to.log;
      is_reading = to.is_reading;
      replaces = one_reading_of bytes (file_reading (file_of j)) (resumed cutoff to.log) reading to.says;
      synced = ap (log_bytes is.head) (sym all);
    }

are_back : (clock cutoff : ℕ) (now files : List (List ℕ)) (logs : List Log) → cutoff < 2 ^ 64 → AllZip (IsReplaced cutoff) now files → AllZip (IsBack clock) files logs
    → AreBack clock cutoff now logs
are_back clock cutoff [] [] [] fits to are = record { js = []; of = tt; resumed = tt }
are_back clock cutoff [] [] (l ∷ ls) fits to are = absurd are
are_back clock cutoff [] (f ∷ fs) logs fits to are = absurd to
are_back clock cutoff (n ∷ ns) [] logs fits to are = absurd to
are_back clock cutoff (n ∷ ns) (f ∷ fs) [] fits to are = absurd are
are_back clock cutoff (n ∷ ns) (f ∷ fs) (l ∷ ls) fits to are =
    let later = are_back clock cutoff ns fs ls fits to.1 are.1 in record {
      js = read_back are.0.head are.0.records ∷ later.js;
      of = ((are.0.kept, refl), later.of);
      resumed = (one_back clock cutoff n f l fits to.0 are.0, later.resumed);
    }

-- ---- their slots

-- each file that is there has a journal
abbrev HaveJournals : List OpenFile → List Journal → Type 0
HaveJournals files js = AllZip (λ file j. Unit {0}) files js

-- the slots of the names: those of the journals, and the past ones
abbrev slots_of : List (Option Segment) → List (LogOf OpenFile) → List Journal → List Slot
slots_of segments [] js = []
slots_of segments (there file ∷ names) [] = []
slots_of segments (there file ∷ names) (j ∷ js) = slot_among segments j ∷ slots_of segments names js
slots_of segments (deleted rs ∷ names) js = gone rs ∷ slots_of segments names js

-- the places of those that are there
abbrev places_of : List (LogOf OpenFile) → List ℕ
places_of [] = []
places_of (there file ∷ names) = 0 ∷ map suc (places_of names)
places_of (deleted rs ∷ names) = map suc (places_of names)

further : (x : Slot) (xs : List Slot) (places : List ℕ) → map (slot_in (x ∷ xs)) (map suc places) ≡ map (slot_in xs) places
further x xs [] = refl
further x xs (p ∷ ps) = ap (λ (ys : List Slot). slot_in xs p ∷ ys) (further x xs ps)

in_places : (segments : List (Option Segment)) (names : List (LogOf OpenFile)) (js : List Journal) → HaveJournals (those_there names) js
    → map (slot_in (slots_of segments names js)) (places_of names) ≡ map (slot_among segments) js
in_places segments [] [] have = refl
in_places segments [] (j ∷ js) have = absurd have
in_places segments (there file ∷ names) [] have = absurd have
in_places segments (there file ∷ names) (j ∷ js) have =
    ap (λ (xs : List Slot). slot_among segments j ∷ xs) (further (slot_among segments j) (slots_of segments names js) (places_of names) ∙ in_places segments names js have.1)
in_places segments (deleted rs ∷ names) js have = further (gone rs) (slots_of segments names js) (places_of names) ∙ in_places segments names js have

sucs_apart : (places : List ℕ) → IsDistinct nat_eq places → IsDistinct nat_eq (map suc places)
sucs_apart [] are = none_apart
sucs_apart (p ∷ ps) are =
    IsDistinct-cons nat_eq (suc p) (map suc ps) (all_from (λ other. nat_eq (suc p) other ≡ false) (map suc ps) (λ other at.
    let q = of_map suc ps other at in differ_test (suc p) other (λ same. first_apart p ps are (subst (Contains ps) (omega (arith, same, q.2)) q.1))))
    (sucs_apart ps (IsDistinct-tail nat_eq p ps are))

have_numbers : (segments : List (Option Segment)) (names : List (LogOf OpenFile)) (js : List Journal) → HaveJournals (those_there names) js
    → AreNumbered (slots_of segments names js) (places_of names)
have_numbers segments [] [] have = record { apart = none_apart; within = λ place at. absurd (no_element place at); all = λ place file below of. absurd (omega (arith, below)) }
have_numbers segments [] (j ∷ js) have = absurd have
have_numbers segments (there file ∷ names) [] have = absurd have
have_numbers segments (there file ∷ names) (j ∷ js) have =
    let later = have_numbers segments names js have.1 in
    let ps = places_of names in
    let xs = slots_of segments names js in record {
      apart = IsDistinct-cons nat_eq 0 (map suc ps) (all_from (λ other. nat_eq 0 other ≡ false) (map suc ps) (λ other at.
          let q = of_map suc ps other at in differ_test 0 other (λ same. omega (arith, same, q.2)))) (sucs_apart ps later.apart);
      within = λ place at. elim (head_or_tail 0 place (map suc ps) at) as (λ _. place < length (slot_among segments j ∷ xs)) [
        | inl e ↦ omega (arith, e)
        | inr other ↦ let q = of_map suc ps place other in let below = later.within q.0 q.1 in omega (arith, below, q.2)
      ];
      all = by_place (slot_among segments j) xs ps later.all;
    }
  where
    by_place : (x : Slot) (xs : List Slot) (ps : List ℕ) → ((place : ℕ) (file : OpenFile) → place < length xs → log_of (slot_in xs place) ≡ there file → Contains ps place)
        → (place : ℕ) (file : OpenFile) → place < length (x ∷ xs) → log_of (slot_in (x ∷ xs) place) ≡ there file → Contains (0 ∷ map suc ps) place
    by_place x xs ps all zero file below of = head_in 0 (map suc ps)
    by_place x xs ps all (suc place) file below of = tail_in 0 (suc place) (map suc ps) (in_map suc ps place (all place file (omega (arith, below)) of))
have_numbers segments (deleted rs ∷ names) js have =
    let later = have_numbers segments names js have in
    let ps = places_of names in
    let xs = slots_of segments names js in record {
      apart = sucs_apart ps later.apart;
      within = λ place at. let q = of_map suc ps place at in let below = later.within q.0 q.1 in omega (arith, below, q.2);
      all = by_place xs ps later.all;
    }
  where
    by_place : (xs : List Slot) (ps : List ℕ) → ((place : ℕ) (file : OpenFile) → place < length xs → log_of (slot_in xs place) ≡ there file → Contains ps place)
        → (place : ℕ) (file : OpenFile) → place < length (gone rs ∷ xs) → log_of (slot_in (gone rs ∷ xs) place) ≡ there file → Contains (map suc ps) place
    by_place xs ps all zero file below of = absurd cc
    by_place xs ps all (suc place) file below of = in_map suc ps place (all place file (omega (arith, below)) of)

-- in another order
numbers_in_order : (slots : List Slot) (xs ys : List ℕ) → IsPermutation xs ys → AreNumbered slots xs → AreNumbered slots ys
numbers_in_order slots xs ys order are = record {
  apart = apart_in_order xs ys order are.apart;
  within = λ place at. are.within place (Contains-permutation ys xs place (IsPermutation-sym xs ys order) at);
  all = λ place file below of. Contains-permutation xs ys place order (are.all place file below of);
}

log_by : (b : Bool) (j : Journal) → log_of (slot_by b j) ≡ there (file_of j)
log_by true j = refl
log_by false j = refl

files_are : (segments : List (Option Segment)) (names : List (LogOf OpenFile)) (js : List Journal) → HaveJournals (those_there names) js
    → files_of (slots_of segments names js) ≡ map file_of js
files_are segments [] [] have = refl
files_are segments [] (j ∷ js) have = absurd have
files_are segments (there file ∷ names) [] have = absurd have
files_are segments (there file ∷ names) (j ∷ js) have =
    ap (λ (log : LogOf OpenFile). those_there (log ∷ logs_of (slots_of segments names js))) (log_by (has_later j.head.segment segments) j)
    ∙ ap (λ (files : List OpenFile). file_of j ∷ files) (files_are segments names js have.1)
files_are segments (deleted rs ∷ names) js have = files_are segments names js have

abbrev StaysThere : LogOf (List Logged) → LogOf OpenFile → Type 0
StaysThere before after = IsStill (λ records file. Unit {0}) before after

are_still : (segments : List (Option Segment)) (names : List (LogOf OpenFile)) (js : List Journal) → HaveJournals (those_there names) js
    → AllZip (IsStill (λ (records : List Logged) (file : OpenFile). Unit {0})) (map as_written names) (logs_of (slots_of segments names js))
are_still segments [] [] have = tt
are_still segments [] (j ∷ js) have = absurd have
are_still segments (there file ∷ names) [] have = absurd have
are_still segments (there file ∷ names) (j ∷ js) have = (
  subst (λ (log : LogOf OpenFile). StaysThere (there file.records) log) (sym (log_by (has_later j.head.segment segments) j)) tt,
  are_still segments names js have.1,
)
are_still segments (deleted rs ∷ names) js have = (refl, are_still segments names js have)

-- as many files were left as are there now
have_left : (all files : List OpenFile) (left : List (List ℕ)) → AllZip (IsLeftOf all) files left → AllZip (λ file bytes. Unit {0}) files left
have_left all [] [] are = tt
have_left all [] (b ∷ bs) are = absurd are
have_left all (f ∷ fs) [] are = absurd are
have_left all (f ∷ fs) (b ∷ bs) are = (tt, have_left all fs bs are.1)

still_many : (files : List OpenFile) (cutoff : ℕ) (before after : List (List ℕ)) → AllZip (λ file bytes. Unit {0}) files before → AllZip (IsSameOrResumed cutoff) before after
    → AllZip (λ file bytes. Unit {0}) files after
still_many [] cutoff [] [] have are = tt
still_many [] cutoff [] (b ∷ bs) have are = absurd are
still_many [] cutoff (a ∷ az) after have are = absurd have
still_many (f ∷ fs) cutoff [] after have are = absurd have
still_many (f ∷ fs) cutoff (a ∷ az) [] have are = absurd are
still_many (f ∷ fs) cutoff (a ∷ az) (b ∷ bs) have are = (tt, still_many fs cutoff az bs have.1 are.1)

many_stopped : (files : List OpenFile) (left parts now now_parts : List (List ℕ)) → AreStops left parts now now_parts → AllZip (λ file bytes. Unit {0}) files left
    → AllZip (λ file bytes. Unit {0}) files now
many_stopped files left parts now now_parts (none same same_parts) have = have
many_stopped files left parts now now_parts (more first first_parts next next_parts last last_parts facts way stops) have =
    many_stopped files next next_parts now now_parts stops (still_many files facts.cutoff left next have way.each)

have_journals : (files : List OpenFile) (cutoff : ℕ) (now : List (List ℕ)) (js : List Journal) → AllZip (λ file bytes. Unit {0}) files now → AllZip (IsResumedAs cutoff) now (map file_of js)
    → HaveJournals files js
have_journals [] cutoff [] [] have are = tt
have_journals [] cutoff [] (j ∷ js) have are = absurd are
have_journals [] cutoff (n ∷ ns) js have are = absurd have
have_journals (f ∷ fs) cutoff [] js have are = absurd have
have_journals (f ∷ fs) cutoff (n ∷ ns) [] have are = absurd are
have_journals (f ∷ fs) cutoff (n ∷ ns) (j ∷ js) have are = (tt, have_journals fs cutoff ns js have.1 are.1)

-- a slot among these is written only if no later segment is there
written_by : (b : Bool) (i j : Journal) → slot_by b i ≡ writing j → (b ≡ false) × (i ≡ j)
written_by true i j is = absurd cc
written_by false i j is = (refl, cc)

not_coming : (b : Bool) (i j : Journal) → slot_by b i ≡ coming j → ⊥
not_coming true i j is = cc
not_coming false i j is = cc

not_going : (b : Bool) (i j : Journal) → slot_by b i ≡ going j → ⊥
not_going true i j is = cc
not_going false i j is = cc

-- the segments of the logs are those of the journals
in_segments : (clock : ℕ) (logs : List Log) (js : List Journal) → AllZip (IsOf clock) logs js → (j : Journal) → Contains js j → Contains (segments_of logs) j.head.segment
in_segments clock logs js are j at =
    let log = partner_of (IsOf clock) logs js j are at in
    subst (Contains (segments_of logs)) log.2.0.segment (in_map (λ (l : Log). l.segment) logs log.0 log.1)

-- ---- a restart

pub restarts : (s : Server) (found : Found) (number salt : ℕ) (files : List (List ℕ)) (restart : Resuming) → Called s → (of : AreFilesAfter s found.cutoff found.begin files)
    → AreAdded (without_logs found number salt) files restart → Restarts s found.cutoff found.begin files of (going_with restart)
restarts s found number salt files restart so_far of added = record {
  slots = slots;
  places = places;
  resumed = resumed_are;
  is_called = called_after;
  holds = goes_on keeper js after (record {
    known = all.known (λ log at. absurd (no_element log at));
    none = all.making;
    logs = still_of (cutoff - 1) keeper.clock keeper.logs js from_cutoff logs;
    clock = refl;
    numbers = numbers;
    slots = numbered_are;
    acked = λ u at. (stands.acked u at).0;
    base = base_low after.checkpoints.base stands.base;
    of_base = of.over ∙ sym all.base;
  });
}
  where
    cutoff : ℕ
    cutoff = found.cutoff

    -- the keeper, from the clock at which it goes on
    keeper : Keeping
    keeper = let added = restart.keeper in record added { clock = max added.clock restart.found.version }

    all : Gathered (without_logs found number salt) files restart
    all = gathered (without_logs found number salt) files restart added

    from_cutoff : cutoff - 1 ≤ keeper.clock
    from_cutoff = omega (arith, all.clock)

    fits : cutoff < 2 ^ 64
    fits = subst (λ (c : ℕ). c < 2 ^ 64) of.at (cutoff_fits of.now of.facts.readings of.facts.cutoff of.facts.read of.facts.is_cutoff)

    -- the files and the logs in the order of the names
    back_order : IsPermutation files of.replaced
    back_order = IsPermutation-sym of.replaced files of.in_any_order

    logs_in_order : List Log
    logs_in_order = apply_swaps all.new back_order.moves

    back_in_order : AllZip (IsBack (cutoff - 1)) of.replaced logs_in_order
    back_in_order = subst (λ (fs : List (List ℕ)). AllZip (IsBack (cutoff - 1)) fs logs_in_order) (sym back_order.is)
        (zip_swaps (IsBack (cutoff - 1)) files all.new back_order.moves all.back back_order.below)

    back : AreBack (cutoff - 1) cutoff of.now logs_in_order
    back = are_back (cutoff - 1) cutoff of.now of.replaced logs_in_order fits of.resumed back_in_order

    -- and back in the order in which they were added
    order : IsPermutation logs_in_order all.new
    order = IsPermutation-sym all.new logs_in_order (record {
      moves = back_order.moves;
      below = swaps_of (length files) (length all.new) back_order.moves back_order.below (let long = AllZip-long (IsBack (cutoff - 1)) files all.new all.back in omega (arith, long));
      is = refl;
    })

    as_many : length logs_in_order ≡ length back.js
    as_many = let long = AllZip-long (IsOf (cutoff - 1)) logs_in_order back.js back.of in omega (arith, long)

    js : List Journal
    js = apply_swaps back.js order.moves

    js_order : IsPermutation back.js js
    js_order = record { moves = order.moves; below = swaps_of (length logs_in_order) (length back.js) order.moves order.below as_many; is = refl }

    logs : AllZip (IsOf (cutoff - 1)) keeper.logs js
    logs = subst (λ (ls : List Log). AllZip (IsOf (cutoff - 1)) ls js) (sym (all.logs ∙ order.is))
        (zip_swaps (IsOf (cutoff - 1)) logs_in_order back.js order.moves back.of order.below)

    segments : List (Option Segment)
    segments = segments_of keeper.logs

    slots : List Slot
    slots = slots_of segments of.names back.js

    have : HaveJournals (those_there of.names) back.js
    have = have_journals (those_there of.names) cutoff of.now back.js
        (many_stopped (those_there of.names) of.left of.parts of.now of.now_parts of.stops (have_left (those_there of.names) (those_there of.names) of.left of.crash.cuts)) back.resumed

    are_in_places : map (slot_in slots) (places_of of.names) ≡ map (slot_among segments) back.js
    are_in_places = in_places segments of.names back.js have

    places : List ℕ
    places = apply_swaps (places_of of.names) order.moves

    places_order : IsPermutation (places_of of.names) places
    places_order = record {
      moves = order.moves;
      below = swaps_of (length logs_in_order) (length (places_of of.names)) order.moves order.below
          (omega (arith, as_many, length-map (places_of of.names) (slot_in slots), length-map back.js (slot_among segments), ap length are_in_places));
      is = refl;
    }

    numbers : AreNumbered slots places
    numbers = numbers_in_order slots (places_of of.names) places places_order (have_numbers segments of.names back.js have)

    after : Server
    after = going_on s keeper.clock of.facts.chosen slots places

    numbered_are : numbered after ≡ map (slot_among segments) js
    numbered_are =
        map_swaps (slot_in slots) (places_of of.names) order.moves ∙ ap (λ (xs : List Slot). apply_swaps xs order.moves) are_in_places
        ∙ sym (map_swaps (slot_among segments) back.js order.moves)

    there_are : files_of slots ≡ map file_of back.js
    there_are = files_are segments of.names back.js have

    -- the journal of a slot that is there
    journal_at : (x : Slot) (file : OpenFile) → Contains slots x → log_of x ≡ there file → (j : Journal) × Contains js j × (slot_among segments j ≡ x)
    journal_at x file at is = of_map (slot_among segments) js x (subst (λ (xs : List Slot). Contains xs x) numbered_are (in_numbered after x file numbers at is))

    newest : (j : Journal) → Contains slots (writing j) → IsNewest (files_of slots) (file_of j)
    newest j at other at_other behind =
        let i = journal_at (writing j) (file_of j) at refl in
        let is = written_by (has_later i.0.head.segment segments) i.0 j i.2 in
        let k = of_map file_of back.js other (subst (λ (fs : List OpenFile). Contains fs other) there_are at_other) in
        none_later j.head.segment segments k.0.head.segment (ap (λ (x : Journal). has_later x.head.segment segments) (sym is.1) ∙ is.0)
        (in_segments (cutoff - 1) keeper.logs js logs k.0 (Contains-permutation back.js js k.0 js_order k.1))
        (subst (λ (f : OpenFile). IsEarlier j.head.segment f.head.segment) (sym k.2) behind)

    rest : (j : Journal) → Contains slots (coming j) ⊎ Contains slots (going j) → ⊥
    rest j (inl at) = let i = journal_at (coming j) (file_of j) at refl in not_coming (has_later i.0.head.segment segments) i.0 j i.2
    rest j (inr at) = let i = journal_at (going j) (file_of j) at refl in not_going (has_later i.0.head.segment segments) i.0 j i.2

    resumed_are : AreResumed cutoff of.names of.now slots
    resumed_are = record {
      still = are_still segments of.names back.js have;
      each = subst (AllZip (IsResumedAs cutoff) of.now) (sym there_are) back.resumed;
      rest = rest;
      newest = newest;
    }

    called_after : Called after
    called_after = restarted s of.names of.left of.parts of.now of.now_parts of.facts slots keeper.clock places so_far of.crash of.stops
        (subst (λ (c : ℕ). AreResumed c of.names of.now slots) (sym of.at) resumed_are) (omega (arith, of.at, from_cutoff))

    stands : Stands after
    stands = stands_of after called_after

    base_low : (base : Option CheckpointReading) → IfSome base (λ b. Contains after.checkpoints.written b × AllSyncedAbove b.end (files_of slots)) → IfSome base (λ b. b.end ≤ keeper.clock)
    base_low None is = tt
    base_low (Some b) is = (stands.written b is.0).1
