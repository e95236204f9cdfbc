-- A crash of a server, and a restart after it: each goes on with the life, and after a restart all stands. So it does for each server.
use Rattle.std.proofs.Common.{◌≡◌, ◌⊎◌, inl, inr, ℕ, suc, ◌<◌, ◌≤◌, Option, Some, None, List, [], ◌∷◌, ◌++◌, length, map, Contains, refl, sym, ap, subst, arith}
use Rattle.std.specs.List.{AllZip}
use Rattle.std.proofs.lemmas.List.Elements.{Contains-append_right, Contains-push_cases}
use Rattle.mt_words.specs.declared.update.Update.{Update}
use Rattle.mt_words.specs.Changes.{Logged}
use Rattle.mt_words.proofs.Elements.{no_element, head_or_tail, head_in, tail_in}
use Rattle.mt_record.specs.Resuming.{below}
use Rattle.mt_scan.specs.PartScans.{KnownPart}
use Rattle.mt_scan.specs.Choice.{CheckpointReading, IsValid, MayBeChosen, IsChosenOf}
use Rattle.mt_scan.specs.Segments.{IsEarlier}
use Rattle.mt_replay.specs.Survivors.{log_updates}
use Rattle.mt_replay.proofs.Members.{of_map}
use Rattle.mt_recover.specs.Recovery.{AreKnown, Facts}
use Rattle.mt_recover.proofs.OneVerdict.{same_facts}
use Rattle.mt_writer.specs.Files.{OpenFile, file_bytes}
use Rattle.mt_writer.specs.Journals.{Journal, file_of, records_of}
use Rattle.mt_laws.specs.Lives.{LogOf, there, deleted, those_there, as_written, AreOld, listed, only, IsResumedAs, IsStillOrDeleted, left_behind, IsFreshStart, updates_in, running, down, crash as crash_step, stop, resume, start_afresh, Life, then}
use Rattle.mt_laws.specs.Names.{IsNew, IsLowest, AreNamesLeft}
use Rattle.mt_laws.specs.Writing.{Slot, coming, writing, sealed, going, gone, log_of, logs_of, files_of, IsNameLeft, Server, state_of, files_there, updates_of, begin_now, Stands, IsCrashOf, AreStops, none, more, AreResumed, left_slot, IsWithin, Called, new_server, called, restarted, started_afresh}
use Rattle.mt_laws.proofs.SomeChoice.{some_choice}
use Rattle.mt_laws.proofs.SomeLife.{only_one}
use Rattle.mt_laws.proofs.Successors.{not_earlier}
use Rattle.mt_laws.proofs.Paired.{partner, partner_of}
use Rattle.mt_laws.proofs.KeptLogs.{history_with_deleted}
use Rattle.mt_laws.proofs.LostNames.{life_without}
use Rattle.mt_laws.proofs.Slots.{in_there, in_files, of_files}
use Rattle.mt_laws.proofs.ServerCalls.{SlotStands, stands_with, called_next, new_life}
use Rattle.mt_laws.proofs.Living.{IsRunning, life_holds, life_resumes, life_afresh}

-- ---- a crash

-- a file that a crash may lose is old
abbrev IsOldIfLost : ℕ → Slot → Type 0
IsOldIfLost begin (coming j) = AreOld begin (records_of j)
IsOldIfLost begin (going j) = AreOld begin (records_of j)
IsOldIfLost begin slot = Unit {0}

may_be_lost : (begin : ℕ) (j : Journal) (log : LogOf OpenFile) → AreOld begin (records_of j) → (log ≡ there (file_of j)) ⊎ (log ≡ deleted (records_of j))
    → IsStillOrDeleted begin (there (file_of j)) log
may_be_lost begin j log old (inl is) = subst (IsStillOrDeleted begin (there (file_of j))) (sym is) refl
may_be_lost begin j log old (inr is) = subst (IsStillOrDeleted begin (there (file_of j))) (sym is) (refl, old)

one_left : (begin : ℕ) (slot : Slot) (log : LogOf OpenFile) → IsOldIfLost begin slot → IsNameLeft slot log → IsStillOrDeleted begin (log_of slot) log
one_left begin (coming j) log old is = may_be_lost begin j log old is
one_left begin (writing j) log old is = subst (IsStillOrDeleted begin (there (file_of j))) (sym is) refl
one_left begin (sealed j) log old is = subst (IsStillOrDeleted begin (there (file_of j))) (sym is) refl
one_left begin (going j) log old is = may_be_lost begin j log old is
one_left begin (gone rs) log old is = subst (IsStillOrDeleted begin (deleted rs)) (sym is) refl

all_left : (begin : ℕ) (slots : List Slot) (names : List (LogOf OpenFile)) → ((slot : Slot) → Contains slots slot → IsOldIfLost begin slot) → AllZip IsNameLeft slots names
    → AllZip (IsStillOrDeleted begin) (logs_of slots) names
all_left begin [] [] old are = tt
all_left begin [] (n ∷ ns) old are = absurd are
all_left begin (s ∷ ss) [] old are = absurd are
all_left begin (s ∷ ss) (n ∷ ns) old are = (one_left begin s n (old s (head_in s ss)) are.0, all_left begin ss ns (λ slot at. old slot (tail_in s slot ss at)) are.1)

names_left : (s : Server) (names : List (LogOf OpenFile)) → Stands s → AllZip IsNameLeft s.slots names → AreNamesLeft (begin_now s) (logs_of s.slots) names
names_left s names stands are = record {
  each = all_left (begin_now s) s.slots names old are;
  lost = λ file at.
      let slot = of_files s.slots file at in
      let name = partner IsNameLeft s.slots names slot.0 are slot.1 in
      lost file slot.0 name.0 slot.1 slot.2 name.1 name.2;
  some = some stands.firm;
}
  where
    old : (slot : Slot) → Contains s.slots slot → IsOldIfLost (begin_now s) slot
    old (coming j) at = (stands.new j at).0
    old (writing j) at = tt
    old (sealed j) at = tt
    old (going j) at = (stands.lowest j at).0
    old (gone rs) at = tt

    left : (file x : OpenFile) (name : LogOf OpenFile) → there x ≡ there file → name ≡ there x → Contains names name → Contains (those_there names) file
    left file x name e is at = let same : name ≡ there file = cc in in_there names file (subst (Contains names) same at)

    lost : (file : OpenFile) (slot : Slot) (name : LogOf OpenFile) → Contains s.slots slot → log_of slot ≡ there file → Contains names name → IsNameLeft slot name
        → Contains (those_there names) file ⊎ (IsNew (files_there s) file ⊎ IsLowest (begin_now s) (files_there s) file)
    lost file (coming j) name at e among (inl is) = inl (left file (file_of j) name e is among)
    lost file (coming j) name at e among (inr is) = let same : file_of j ≡ file = cc in inr (inl (subst (IsNew (files_there s)) same (stands.new j at).1))
    lost file (writing j) name at e among is = inl (left file (file_of j) name e is among)
    lost file (sealed j) name at e among is = inl (left file (file_of j) name e is among)
    lost file (going j) name at e among (inl is) = inl (left file (file_of j) name e is among)
    lost file (going j) name at e among (inr is) =
        let same : file_of j ≡ file = cc in inr (inr (subst (IsLowest (begin_now s) (files_there s)) same (stands.lowest j at).1))
    lost file (gone rs) name at e among is = absurd cc

    is_left : (file : OpenFile) → Contains names (there file) → 0 < length (those_there names)
    is_left file at = let among = in_there names file at in omega (arith, among.1)

    some : (j : Journal) × (Contains s.slots (writing j) ⊎ Contains s.slots (sealed j)) → 0 < length (those_there names)
    some (j, inl at) = let name = partner IsNameLeft s.slots names (writing j) are at in is_left (file_of j) (subst (Contains names) name.2 name.1)
    some (j, inr at) = let name = partner IsNameLeft s.slots names (sealed j) are at in is_left (file_of j) (subst (Contains names) name.2 name.1)

crashed : (s : Server) (names : List (LogOf OpenFile)) (left parts : List (List ℕ)) → Life (state_of s) → Stands s → IsCrashOf s names left parts
    → Life (down s.acked (map as_written names) left parts)
crashed s names left parts life stands crash =
    then (running s.acked names s.checkpoints) (down s.acked (map as_written names) left parts)
    (life_without s.acked (logs_of s.slots) names s.checkpoints life (names_left s names stands crash.each))
    (crash_step s.acked names s.checkpoints left parts crash.cuts crash.of_parts)

-- the updates that were written are stamped
stamps : (s : Server) (names : List (LogOf OpenFile)) → Stands s → AllZip IsNameLeft s.slots names → (u : Update) → Contains (updates_in names) u → u.stamp.version ≡ u.timestamp
stamps s names stands are u at =
    let same = history_with_deleted (begin_now s) (logs_of s.slots) names (names_left s names stands are).each in
    (stands.stamped u (subst (λ (h : List (List Logged)). Contains (log_updates h) u) (sym same) at)).0

-- ---- a restart

-- a resume that was stopped goes on with the life
life_stopped : (acked : List Update) (logs : List (LogOf (List Logged))) (left parts now now_parts : List (List ℕ)) → AreStops left parts now now_parts
    → Life (down acked logs left parts) → Life (down acked logs now now_parts)
life_stopped acked logs left parts now now_parts (none same same_parts) life = life
life_stopped acked logs left parts now now_parts (more first first_parts next next_parts last last_parts facts way stops) life =
    life_stopped acked logs next next_parts now now_parts stops
    (then (down acked logs left parts) (down acked logs next next_parts) life (stop acked logs left parts next next_parts facts way))

-- what is known of the parts does not depend on how it was found
pub known_is : (left parts : List (List ℕ)) (facts : Facts left parts) (known : List KnownPart) → AreKnown parts known → facts.known ≡ known
known_is left parts facts known are =
    let choice = some_choice known facts.cutoff in
    (same_facts left parts facts (record facts { known = known; are_known = are; chosen = choice.0; is_chosen = choice.1 })).2

-- a checkpoint that is valid after the stops was valid before
was_valid : (left parts now now_parts : List (List ℕ)) (known : List KnownPart) (last : Facts now now_parts) (c : CheckpointReading) → AreStops left parts now now_parts
    → AreKnown parts known → IsValid last.known c → IsValid known c
was_valid left parts now now_parts known last c (none same same_parts) are valid = subst (λ (ks : List KnownPart). IsValid ks c) (known_is now now_parts last known are) valid
was_valid left parts now now_parts known last c (more first first_parts next next_parts end end_parts facts way stops) are valid =
    subst (λ (ks : List KnownPart). IsValid ks c) (known_is left parts facts known are)
    (way.checkpoints.none_new c (was_valid next next_parts now now_parts way.known last c stops way.are_known valid))

may_be : (known : List KnownPart) (cutoff : ℕ) (chosen : Option CheckpointReading) (c : CheckpointReading) → IsChosenOf known cutoff chosen → Contains (listed chosen) c
    → MayBeChosen known cutoff c
may_be known cutoff None c is at = absurd (no_element c at)
may_be known cutoff (Some chosen) c is at = elim (head_or_tail chosen c [] at) as (λ _. MayBeChosen known cutoff c) [
  | inl e ↦ subst (MayBeChosen known cutoff) e is.0
  | inr later ↦ absurd (no_element c later)
]

restarts : (s : Server) (names : List (LogOf OpenFile)) (left parts now now_parts : List (List ℕ)) (facts : Facts now now_parts) (slots : List Slot) (clock : ℕ) (places : List ℕ)
    → Life (state_of s) → Stands s → IsCrashOf s names left parts → AreStops left parts now now_parts → AreResumed facts.cutoff names now slots → facts.cutoff ≤ suc clock
    → Life (running s.acked (logs_of slots) (only facts.chosen))
    × Stands (record { clock = clock; acked = s.acked; slots = slots; places = places; checkpoints = only facts.chosen })
restarts s names left parts now now_parts facts slots clock places life stands crash stops resumed next = (
  life_now,
  record {
    opens = is.opens;
    newest = resumed.newest;
    whole = whole;
    new = λ j at. absurd (resumed.rest j (inl at));
    lowest = λ j at. absurd (resumed.rest j (inr at));
    firm = firm (files_of slots) refl is.some;
    stamped = stamped;
    written = λ c at.
        let may = may_be facts.known facts.cutoff facts.chosen c facts.is_chosen at in
        let was = crash.of_parts.no_other c (was_valid left parts now now_parts crash.of_parts.known facts c stops crash.of_parts.are_known may.valid) in
        ((stands.written c was).0, omega (arith, may.ends_below, next));
    acked = λ u at. let safe = is.safe u at in ((stamped u safe.0).1, safe.1);
    base = is.base_is;
  },
)
  where
    before : Life (down s.acked (map as_written names) now now_parts)
    before = life_stopped s.acked (map as_written names) left parts now now_parts stops (crashed s names left parts life stands crash)

    life_now : Life (running s.acked (logs_of slots) (only facts.chosen))
    life_now = then (down s.acked (map as_written names) now now_parts) (running s.acked (logs_of slots) (only facts.chosen)) before
        (resume s.acked (map as_written names) now now_parts (logs_of slots) facts resumed.still resumed.each)

    is : IsRunning s.acked (logs_of slots) (only facts.chosen)
    is = life_holds (running s.acked (logs_of slots) (only facts.chosen)) life_now

    stamped : (u : Update) → Contains (updates_of slots) u → (u.stamp.version ≡ u.timestamp) × (u.timestamp ≤ clock)
    stamped u at =
        let was = (life_resumes s.acked (map as_written names) now now_parts (logs_of slots) facts before resumed.still resumed.each u).0 at in
        let below : u.timestamp < facts.cutoff = was.1 in
        (stamps s names stands crash.each u was.0, omega (arith, below, next))

    synced : (slot : Slot) (j : Journal) → Contains slots slot → log_of slot ≡ there (file_of j) → (file_of j).synced ≡ file_bytes (file_of j)
    synced slot j at e =
        (partner_of (IsResumedAs facts.cutoff) now (files_of slots) (file_of j) resumed.each (in_files slots slot (file_of j) at e)).2.synced

    whole : (j : Journal) → Contains slots (sealed j) ⊎ Contains slots (going j) → (file_of j).synced ≡ file_bytes (file_of j)
    whole j (inl at) = synced (sealed j) j at refl
    whole j (inr at) = synced (going j) j at refl

    firm_slot : (slot : Slot) (file : OpenFile) → Contains slots slot → log_of slot ≡ there file → (j : Journal) × (Contains slots (writing j) ⊎ Contains slots (sealed j))
    firm_slot (coming j) file at e = absurd (resumed.rest j (inl at))
    firm_slot (writing j) file at e = (j, inl at)
    firm_slot (sealed j) file at e = (j, inr at)
    firm_slot (going j) file at e = absurd (resumed.rest j (inr at))
    firm_slot (gone rs) file at e = absurd cc

    firm : (files : List OpenFile) → files ≡ files_of slots → 0 < length files → (j : Journal) × (Contains slots (writing j) ⊎ Contains slots (sealed j))
    firm [] same some = absurd (omega (arith, some))
    firm (f ∷ fs) same some =
        let slot = of_files slots f (subst (λ (l : List OpenFile). Contains l f) same (head_in f fs)) in
        firm_slot slot.0 f slot.1 slot.2

-- ---- a fresh start

afresh_logs : (cutoff : ℕ) (names : List (LogOf OpenFile)) (j : Journal)
    → logs_of (map (left_slot cutoff) names ++ writing j ∷ []) ≡ map (left_behind cutoff) (map as_written names) ++ there (file_of j) ∷ []
afresh_logs cutoff [] j = refl
afresh_logs cutoff (there file ∷ names) j = ap (λ (l : List (LogOf OpenFile)). deleted (below cutoff file.records) ∷ l) (afresh_logs cutoff names j)
afresh_logs cutoff (deleted rs ∷ names) j = ap (λ (l : List (LogOf OpenFile)). deleted rs ∷ l) (afresh_logs cutoff names j)

afresh_files : (cutoff : ℕ) (names : List (LogOf OpenFile)) (j : Journal) → files_of (map (left_slot cutoff) names ++ writing j ∷ []) ≡ file_of j ∷ []
afresh_files cutoff [] j = refl
afresh_files cutoff (there file ∷ names) j = afresh_files cutoff names j
afresh_files cutoff (deleted rs ∷ names) j = afresh_files cutoff names j

left_stands : (begin cutoff : ℕ) (files : List OpenFile) (name : LogOf OpenFile) → SlotStands begin files (left_slot cutoff name)
left_stands begin cutoff files (there file) = tt
left_stands begin cutoff files (deleted rs) = tt

starts_afresh : (s : Server) (names : List (LogOf OpenFile)) (left parts now now_parts : List (List ℕ)) (facts : Facts now now_parts) (j : Journal) (new : CheckpointReading) (clock : ℕ) (places : List ℕ)
    → Life (state_of s) → Stands s → IsCrashOf s names left parts → AreStops left parts now now_parts → IsFreshStart facts (file_of j) new → IsWithin new → facts.cutoff ≤ clock
    → let after : Server = record { clock = clock; acked = s.acked; slots = map (left_slot facts.cutoff) names ++ writing j ∷ []; places = places; checkpoints = only (Some new) } in
    Life (state_of after) × Stands after
starts_afresh s names left parts now now_parts facts j new clock places life stands crash stops start within next = (
  life_now,
  stands_with after life_now (record {
    each = λ x at. elim (Contains-push_cases (map (left_slot facts.cutoff) names) (writing j) x at) as (λ _. SlotStands new.begin (files_of after.slots) x) [
      | inl old ↦
          let name = of_map (left_slot facts.cutoff) names x old in
          subst (SlotStands new.begin (files_of after.slots)) name.2 (left_stands new.begin facts.cutoff (files_of after.slots) name.0)
      | inr e ↦ subst (SlotStands new.begin (files_of after.slots)) e (λ other at_other behind.
          not_earlier j.head.segment (subst (λ (f : OpenFile). IsEarlier j.head.segment f.head.segment)
          (sym (only_one (file_of j) other (subst (λ (fs : List OpenFile). Contains fs other) (afresh_files facts.cutoff names j) at_other))) behind))
    ];
    firm = (j, inl (Contains-append_right (map (left_slot facts.cutoff) names) (writing j ∷ []) (writing j) (head_in (writing j) [])));
    stamped = λ u at.
        let among = subst (λ (l : List (LogOf OpenFile)). Contains (updates_in l) u) (afresh_logs facts.cutoff names j) at in
        let was = (life_afresh s.acked (map as_written names) now now_parts facts (file_of j) start.marks before u).0 among in
        let less : u.timestamp < facts.cutoff = was.1 in
        (stamps s names stands crash.each u was.0, omega (arith, less, next));
    written = λ c at. subst (λ (x : CheckpointReading). IsWithin x × (x.end ≤ clock)) (only_one new c at) (within, let ends : new.end ≡ facts.cutoff = start.ends in omega (arith, ends, next));
  }),
)
  where
    after : Server
    after = record { clock = clock; acked = s.acked; slots = map (left_slot facts.cutoff) names ++ writing j ∷ []; places = places; checkpoints = only (Some new) }

    before : Life (down s.acked (map as_written names) now now_parts)
    before = life_stopped s.acked (map as_written names) left parts now now_parts stops (crashed s names left parts life stands crash)

    life_now : Life (state_of after)
    life_now = subst (λ (l : List (LogOf OpenFile)). Life (running s.acked l (only (Some new)))) (sym (afresh_logs facts.cutoff names j))
        (then (down s.acked (map as_written names) now now_parts)
        (running s.acked (map (left_behind facts.cutoff) (map as_written names) ++ there (file_of j) ∷ []) (only (Some new))) before
        (start_afresh s.acked (map as_written names) now now_parts facts (file_of j) new start))

-- ---- each server

both : (s : Server) → Called s → Life (state_of s) × Stands s
both _ (new_server w new head keeps from) = new_life w new head keeps from
both _ (called before after was call) = let is = both before was in called_next before after is.0 is.1 call
both _ (restarted s names left parts now now_parts facts slots clock places was crash stops resumed next) =
    let is = both s was in restarts s names left parts now now_parts facts slots clock places is.0 is.1 crash stops resumed next
both _ (started_afresh s names left parts now now_parts facts j new clock places was crash stops start within next) =
    let is = both s was in starts_afresh s names left parts now now_parts facts j new clock places is.0 is.1 crash stops start within next

pub life_of : (s : Server) → Called s → Life (state_of s)
life_of s is = (both s is).0

pub stands_of : (s : Server) → Called s → Stands s
stands_of s is = (both s is).1

pub crash_of : (s : Server) (names : List (LogOf OpenFile)) (left parts : List (List ℕ)) → Called s → IsCrashOf s names left parts
    → Life (down s.acked (map as_written names) left parts)
crash_of s names left parts is crash = let both_are = both s is in crashed s names left parts both_are.0 both_are.1 crash
