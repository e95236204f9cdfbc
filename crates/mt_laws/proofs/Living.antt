-- Each step of a life keeps what the next recovery needs.
use Rattle.std.proofs.Common.{◌≡◌, ◌⊎◌, ◌↔◌, inl, inr, ℕ, zero, suc, ◌^◌, ◌<◌, ◌≤◌, ltb, Bool, true, false, cond, min, IsSomeAnd, Option, Some, None, List, [], ◌∷◌, ◌++◌, length, map, filter, Contains, refl, sym, ap, ◌∙◌, subst, arith}
use Rattle.std.specs.Prelude.{IfSome, slice_get, nat_lt}
use Rattle.std.specs.List.{AllZip, flat_map}
use Rattle.std.proofs.lemmas.Bool.{cases_lt, lt-ltb, ltb-true, and_from, and_parts, both_ways}
use Rattle.std.proofs.lemmas.List.{append-nil, length-append}
use Rattle.std.proofs.lemmas.List.Elements.{Contains-append_left, Contains-append_right, Contains-append_cases, Contains-push_cases}
use Rattle.std.proofs.lemmas.Slice.Zip.{AllZip-long}
use Rattle.mt_words.specs.declared.update.Update.{Update}
use Rattle.mt_words.specs.Built.{mark_of}
use Rattle.mt_words.specs.Limits.{limits_of}
use Rattle.mt_words.specs.Changes.{Logged, is_mark}
use Rattle.mt_words.specs.Updates.{updates_from}
use Rattle.mt_words.specs.Walks.{Pair}
use Rattle.mt_words.proofs.Elements.{no_element, head_or_tail, head_in, tail_in}
use Rattle.mt_record.specs.declared.feed.head.Head.{Head}
use Rattle.mt_record.specs.declared.feed.head.Segment.{Segment}
use Rattle.mt_record.specs.Spelling.{spelling}
use Rattle.mt_record.specs.Logs.{log_bytes, LogReading, IsReading, times_of}
use Rattle.mt_record.specs.Resuming.{greatest_timestamp, is_ended, below, marks_of, resumed, IsResumed}
use Rattle.mt_record.proofs.Opened.{plain_own}
use Rattle.mt_record.proofs.OneReading.{one_reading_of}
use Rattle.mt_scan.specs.Cutoff.{IsCutoff}
use Rattle.mt_scan.specs.PartScans.{KnownPart}
use Rattle.mt_scan.specs.Choice.{CheckpointReading, IsValid, IsChosenOf}
use Rattle.mt_scan.specs.Segments.{IsEarlier, HasGap, IsGap, AreWriters}
use Rattle.mt_replay.specs.declared.window.Window.{Window}
use Rattle.mt_replay.specs.Survivors.{all_updates, log_updates, in_window}
use Rattle.mt_replay.specs.Walk.{IsWalk}
use Rattle.mt_replay.proofs.Members.{of_map, of_filter, in_filter}
use Rattle.mt_recover.specs.Recovery.{AreReadings, AreKnown, Facts, begin_of, entry_updates, survivors, records_of, IsStoreOf}
use Rattle.mt_recover.proofs.OneVerdict.{same_facts}
use Rattle.mt_writer.specs.Files.{IsCutOf, OpenFile, file_bytes, file_reading, HasSynced, IsOpenFile, IsWritten, IsSynced}
use Rattle.mt_laws.specs.Crashes.{IsSound}
use Rattle.mt_laws.specs.Resuming.{IsOnTheWay}
use Rattle.mt_laws.specs.Lives.{IsAdded, MayStandOn, AreOpen, IsSyncedAbove, AllSyncedAbove, LogOf, there, deleted, those_there, IsStill, as_written, history_of, updates_in, AreOld, Checkpoints, BeginsRise, IsNewOver, AddNew, AreLeftOf, listed, only, IsLeftOf, IsResumedAs, AreDeleted, State, running, down, IsStep, write, sync, acknowledge, add_file, write_checkpoint, stand, delete, crash, stop, resume, start_afresh, left_behind, IsFreshStart, records_in, Life, begun, then}
use Rattle.mt_laws.proofs.Windows.{within}
use Rattle.mt_laws.proofs.CutLogs.{cut_log}
use Rattle.mt_laws.proofs.SomeCutoff.{some_cutoff}
use Rattle.mt_laws.proofs.SomeChoice.{some_choice}
use Rattle.mt_laws.proofs.SomeVerdict.{store_of}
use Rattle.mt_laws.proofs.Sound.{in_history, of_history}
use Rattle.mt_laws.proofs.Moved.{same_walk}
use Rattle.mt_laws.proofs.SoundStays.{of_same_key, sound_of_fewer, sound_of_more}
use Rattle.mt_laws.proofs.Renamed.{same_store_since}
use Rattle.mt_laws.proofs.History.{over_chosen}
use Rattle.mt_laws.proofs.Agreeing.{NeverFall, AgreeBelow, agree_too, agrees_back, resumed_agrees, agreeing_survive}
use Rattle.mt_laws.proofs.Resumed.{below_lawful, below_twice, reading_after, times_bound, ended_alike}
use Rattle.mt_laws.proofs.Paired.{partner, partner_of, zip_weaker, zip_map, zip_turned, zip_back}
use Rattle.mt_laws.proofs.ResumedLogs.{ClaimsNoMore, Replaces, all_claim, once_stays, gaps_stay}
use Rattle.mt_laws.proofs.ResumedStores.{Became, replaces, cutoff_fits, found_now, all_agree}
use Rattle.mt_laws.proofs.Continued.{of_record, no_late_record, begins_below}
use Rattle.mt_laws.proofs.Afresh.{AreCovered, key_most, AreStored, fresh_sound}
use Rattle.mt_laws.proofs.LeftFiles.{SaysLeft, all_left, says_less, zip_claims, writers_left, all_left_agree, last_above, ends_left}
use Rattle.mt_laws.proofs.KeptLogs.{stay_in, zip_there, still_weaker, still_opens, there_written, there_append, there_of_all, AllOld, old_rises, old_of_all, old_append, old_stays, old_resumed, there_or_old, same_since, HasMore, all_stay, stay_with_more, HasSame, same_history, history_with_deleted, old_with_deleted, history_agrees, updates_old, all_positive}

-- ---- what holds in each state

-- the update is in the history, and in each log a record above it is synced
abbrev pub IsSafe : List (LogOf OpenFile) → Update → Type 0
IsSafe logs u = Contains (updates_in logs) u × AllSyncedAbove u.timestamp (those_there logs)

-- the server stands on this checkpoint
abbrev pub IsBase : List (LogOf OpenFile) → List CheckpointReading → CheckpointReading → Type 0
IsBase logs written base = Contains written base × AllSyncedAbove base.end (those_there logs)

pub record IsRunning (acked : List Update) (logs : List (LogOf OpenFile)) (checkpoints : Checkpoints) : Type 0 where
  pub some : 0 < length (those_there logs)
  pub opens : AreOpen (begin_of checkpoints.base) (those_there logs)
  pub old : AllOld (begin_of checkpoints.base) (map as_written logs)
  pub sound : (c : CheckpointReading) → Contains checkpoints.written c → IsSound (updates_in logs) c
  pub rise : BeginsRise checkpoints.written
  pub base_is : IfSome checkpoints.base (IsBase logs checkpoints.written)
  pub safe : (u : Update) → Contains acked u → IsSafe logs u

-- what is behind an ended file is ended too, unless the cutoff is the greatest timestamp
abbrev pub EndTogether : ℕ → List LogReading → Type 0
EndTogether cutoff files = (x y : LogReading) → Contains files x → Contains files y → IsEarlier x.head.segment y.head.segment → is_ended x.records ≡ true
    → (is_ended y.records ≡ true) ⊎ (cutoff ≡ greatest_timestamp)

-- what holds of what recovery finds
pub record IsFound (acked : List Update) (logs : List (LogOf (List Logged))) (readings : List LogReading) (cutoff : ℕ) (chosen : Option CheckpointReading) : Type 0 where
  pub no_gap : (i : ℕ) → IsGap (begin_of chosen) readings i → ⊥
  pub ends : EndTogether cutoff readings
  pub agree : AllZip (AgreeBelow cutoff) (records_of readings) (those_there logs)
  pub old : AllOld (begin_of chosen) logs
  pub sound : IfSome chosen (IsSound (log_updates (history_of logs)))
  pub safe : (u : Update) → Contains acked u → Contains (log_updates (history_of logs)) u × (u.timestamp < cutoff)

abbrev pub IsFoundBy : {left parts : List (List ℕ)} → List Update → List (LogOf (List Logged)) → Facts left parts → Type 0
IsFoundBy acked logs facts = IsFound acked logs facts.readings facts.cutoff facts.chosen

pub record IsDown (acked : List Update) (logs : List (LogOf (List Logged))) (left parts : List (List ℕ)) : Type 0 where
  pub facts : Facts left parts
  pub found : IsFoundBy acked logs facts

abbrev pub Holds : State → Type 0
Holds (running acked logs checkpoints) = IsRunning acked logs checkpoints
Holds (down acked logs left parts) = IsDown acked logs left parts

-- ---- writing

-- a record that is synced, if more holds of it
synced_more : (P Q : Logged → Type 0) (file : OpenFile) → ((r : Logged) → P r → Q r) → HasSynced P file → HasSynced Q file
synced_more P Q file follows has = record { reading = has.reading; is_reading = has.is_reading; at = has.at; stands = has.stands; holds = follows has.at has.holds }

-- a step of each file keeps what holds if it keeps the header, the records and what is synced
record Keeps (before after : OpenFile) : Type 0 where
  head : after.head ≡ before.head
  more : HasMore before after
  synced : (time : ℕ) → HasSynced (λ r. time < r.timestamp) before → HasSynced (λ r. time < r.timestamp) after

keeps_above : (time : ℕ) (before after : List OpenFile) → AllZip Keeps before after → AllSyncedAbove time before → AllSyncedAbove time after
keeps_above time before after are above log at = by (above x.0 x.1)
  where
    x : (y : OpenFile) × Contains before y × Keeps y log
    x = partner_of Keeps before after log are at

    by : IsSyncedAbove time before x.0 → IsSyncedAbove time after log
    by is = elim is.of_log as (λ _. IsSyncedAbove time after log) [
      | inl e ↦ record { last = log; stands = at; of_log = inl refl; above = x.2.synced time (subst (HasSynced (λ r. time < r.timestamp)) (sym e) is.above) }
      | inr behind ↦
          let z = partner Keeps before after is.last are is.stands in record {
            last = z.0;
            stands = z.1;
            of_log = inr (subst (λ (h : Head × Head). IsEarlier h.0.segment h.1.segment) (λ i. (sym x.2.head i, sym z.2.head i)) behind);
            above = z.2.synced time is.above;
          }
    ]

-- the logs of the history never fall
all_rise : (begin : ℕ) (logs : List (LogOf OpenFile)) → ((file : OpenFile) → Contains (those_there logs) file → IsOpenFile file) → AllOld begin (map as_written logs)
    → (rs : List Logged) → Contains (history_of (map as_written logs)) rs → NeverFall rs
all_rise begin logs opens old rs at = elim (there_or_old begin (map as_written logs) rs old at) as (λ _. NeverFall rs) [
  | inl among ↦
      let found = of_map (λ (file : OpenFile). file.records) (those_there logs) rs (subst (λ (l : List (List Logged)). Contains l rs) (there_written logs) among) in
      subst NeverFall found.2 (limits_of found.0.head.format, (opens found.0 found.1).is_reading.is_log.lawful)
  | inr is ↦ is.0
]

-- checkpoints stay sound when new updates are added
still_sound : (before after : List (LogOf OpenFile)) (begin : ℕ) (checkpoints : Checkpoints) → ((u : Update) → Contains (updates_in before) u → Contains (updates_in after) u)
    → AddNew checkpoints (updates_in before) (updates_in after) → ((file : OpenFile) → Contains (those_there after) file → IsOpenFile file)
    → AllOld begin (map as_written after) → ((c : CheckpointReading) → Contains checkpoints.written c → IsSound (updates_in before) c)
    → (c : CheckpointReading) → Contains checkpoints.written c → IsSound (updates_in after) c
still_sound before after begin checkpoints more new opens old sound c at =
    sound_of_more (updates_in before) (updates_in after) c more
    (λ u among. elim (new u among) as (λ _. Contains (updates_in before) u ⊎ IsNewOver (updates_in before) c u) [ inl was ↦ inl was | inr over ↦ inr (over c at) ])
    (λ u among. all_positive 0 (history_of (map as_written after)) u (all_rise begin after opens old) among) (sound c at)

base_stays : (before after : List (LogOf OpenFile)) (base : Option CheckpointReading) (written : List CheckpointReading)
    → ((time : ℕ) → AllSyncedAbove time (those_there before) → AllSyncedAbove time (those_there after)) → IfSome base (IsBase before written) → IfSome base (IsBase after written)
base_stays before after None written above is = tt
base_stays before after (Some base) written above is = (is.0, above base.end is.1)

keeps_running : (acked : List Update) (before after : List (LogOf OpenFile)) (checkpoints : Checkpoints) → AllZip (IsStill Keeps) before after
    → AreOpen (begin_of checkpoints.base) (those_there after) → AddNew checkpoints (updates_in before) (updates_in after)
    → IsRunning acked before checkpoints → IsRunning acked after checkpoints
keeps_running acked before after checkpoints are opens new is =
    let files = zip_there Keeps before after are in
    let more = all_stay 0 before after in
    let grow = zip_weaker (IsStill Keeps) (IsStill HasMore) before after (still_weaker Keeps HasMore (λ x y k. k.more)) are in
    let old = old_stays Keeps (begin_of checkpoints.base) before after are is.old in record {
      some = omega (arith, is.some, AllZip-long Keeps (those_there before) (those_there after) files);
      opens = opens;
      old = old;
      sound = still_sound before after (begin_of checkpoints.base) checkpoints (λ u at. more u grow at) new opens.each old is.sound;
      rise = is.rise;
      base_is = base_stays before after checkpoints.base checkpoints.written (λ time. keeps_above time (those_there before) (those_there after) files) is.base_is;
      safe = λ u among. let safe = is.safe u among in (more u grow safe.0, keeps_above u.timestamp (those_there before) (those_there after) files safe.1);
    }

written_keeps : (before after : OpenFile) → IsWritten before after → Keeps before after
written_keeps before after step = record {
  head = step.head;
  more = (step.new, step.records);
  synced = λ time is. record { reading = is.reading; is_reading = subst (λ (bytes : List ℕ). IsReading bytes is.reading) (sym step.synced) is.is_reading; at = is.at; stands = is.stands; holds = is.holds };
}

-- a file that was synced is open
abbrev IsSyncedOpen : OpenFile → OpenFile → Type 0
IsSyncedOpen before after = IsSynced before after × IsOpenFile after

synced_keeps : (before after : OpenFile) → IsSyncedOpen before after → Keeps before after
synced_keeps before after (step, is_open) =
    let said = cut_log after.synced (file_bytes after) (file_reading after) is_open.is_reading is_open.synced in record {
      head = step.head;
      more = ([], step.records ∙ sym (append-nil before.records));
      synced = λ time is.
          let begins = says_less before.synced after.synced said.log is.reading step.more said.is_reading is.is_reading in record {
            reading = said.log;
            is_reading = said.is_reading;
            at = is.at;
            stands = subst (λ (rs : List Logged). Contains rs is.at) (sym begins.records) (Contains-append_left is.reading.records begins.lost is.at is.stands);
            holds = is.holds;
          };
    }

synced_running : (acked : List Update) (before after : List (LogOf OpenFile)) (checkpoints : Checkpoints) → AllZip (IsStill IsSynced) before after
    → AreOpen (begin_of checkpoints.base) (those_there after) → IsRunning acked before checkpoints → IsRunning acked after checkpoints
synced_running acked before after checkpoints are opens is =
    let with_opens = still_opens IsSynced before after are opens.each in
    let same = same_history before after (zip_weaker (IsStill IsSynced) (IsStill HasSame) before after (still_weaker IsSynced HasSame (λ x y s. s.records)) are) in
    keeps_running acked before after checkpoints
    (zip_weaker (IsStill IsSyncedOpen) (IsStill Keeps) before after (still_weaker IsSyncedOpen Keeps synced_keeps) with_opens) opens
    (λ u at. inl (subst (λ (h : List (List Logged)). Contains (log_updates h) u) (sym same) at)) is

-- ---- adding, acknowledging, checkpoints, deleting

acknowledged : (acked : List Update) (logs : List (LogOf OpenFile)) (checkpoints : Checkpoints) (u : Update) → Contains (updates_in logs) u
    → AllSyncedAbove u.timestamp (those_there logs) → IsRunning acked logs checkpoints → IsRunning (u ∷ acked) logs checkpoints
acknowledged acked logs checkpoints u at above is = record {
  some = is.some;
  opens = is.opens;
  old = is.old;
  sound = is.sound;
  rise = is.rise;
  base_is = is.base_is;
  safe = λ w among. elim (head_or_tail u w acked among) as (λ _. IsSafe logs w) [
    | inl e ↦ subst (IsSafe logs) e (at, above)
    | inr later ↦ is.safe w later
  ];
}

-- what is synced of the old files, and of the new one
pub above_added : (time : ℕ) (files : List OpenFile) (file : OpenFile) → AllSyncedAbove time files → HasSynced (λ r. time < r.timestamp) file
    → AllSyncedAbove time (files ++ file ∷ [])
above_added time files file above new x at = elim (Contains-push_cases files file x at) as (λ _. IsSyncedAbove time (files ++ file ∷ []) x) [
  | inl old ↦ let is = above x old in record { last = is.last; stands = Contains-append_left files (file ∷ []) is.last is.stands; of_log = is.of_log; above = is.above }
  | inr e ↦ record { last = x; stands = at; of_log = inl refl; above = subst (HasSynced (λ r. time < r.timestamp)) e new }
]

base_with : (logs : List (LogOf OpenFile)) (file : OpenFile) (base : Option CheckpointReading) (written : List CheckpointReading)
    → IfSome base (λ c. HasSynced (λ r. c.end < r.timestamp) file) → IfSome base (IsBase logs written) → IfSome base (IsBase (logs ++ there file ∷ []) written)
base_with logs file None written new is = tt
base_with logs file (Some base) written new is =
    (is.0, subst (AllSyncedAbove base.end) (sym (there_append logs (there file ∷ []))) (above_added base.end (those_there logs) file is.1 new))

added : (acked : List Update) (logs : List (LogOf OpenFile)) (checkpoints : Checkpoints) (file : OpenFile) → IsAdded acked checkpoints logs file
    → IsRunning acked logs checkpoints → IsRunning acked (logs ++ there file ∷ []) checkpoints
added acked logs checkpoints file was is =
    let after = logs ++ there file ∷ [] in
    let files : those_there after ≡ those_there logs ++ file ∷ [] = there_append logs (there file ∷ []) in
    let old = old_append (begin_of checkpoints.base) logs file is.old in record {
      some = omega (arith, is.some, length-append (those_there logs) (file ∷ []), ap length files);
      opens = was.opens;
      old = old;
      sound = still_sound logs after (begin_of checkpoints.base) checkpoints (stay_with_more 0 logs file) was.new was.opens.each old is.sound;
      rise = is.rise;
      base_is = base_with logs file checkpoints.base checkpoints.written was.above_base is.base_is;
      safe = λ u among.
          let safe = is.safe u among in
          (stay_with_more 0 logs file u safe.0, subst (AllSyncedAbove u.timestamp) (sym files) (above_added u.timestamp (those_there logs) file safe.1 (was.above u among)));
    }

base_among : (logs : List (LogOf OpenFile)) (new : CheckpointReading) (base : Option CheckpointReading) (written : List CheckpointReading)
    → IfSome base (IsBase logs written) → IfSome base (IsBase logs (new ∷ written))
base_among logs new None written is = tt
base_among logs new (Some base) written is = (tail_in new base written is.0, is.1)

checkpoint_written : (acked : List Update) (logs : List (LogOf OpenFile)) (checkpoints : Checkpoints) (new : CheckpointReading) → IsSound (updates_in logs) new
    → BeginsRise (new ∷ checkpoints.written) → IsRunning acked logs checkpoints → IsRunning acked logs (record checkpoints { written = new ∷ checkpoints.written })
checkpoint_written acked logs checkpoints new sound rise is = record {
  some = is.some;
  opens = is.opens;
  old = is.old;
  sound = λ c at. elim (head_or_tail new c checkpoints.written at) as (λ _. IsSound (updates_in logs) c) [
    | inl e ↦ subst (IsSound (updates_in logs)) e sound
    | inr later ↦ is.sound c later
  ];
  rise = rise;
  base_is = base_among logs new checkpoints.base checkpoints.written is.base_is;
  safe = is.safe;
}

-- where there is a gap at or after a timestamp, there is one at or after any lesser
some_weaker : {X : Type 0} (P Q : X → Type 0) (xs : List X) (i : ℕ) → ((x : X) → P x → Q x) → IsSomeAnd (slice_get xs i) P → IsSomeAnd (slice_get xs i) Q
some_weaker P Q [] i follows is = absurd is
some_weaker P Q (x ∷ xs) zero follows is = follows x is
some_weaker P Q (x ∷ xs) (suc i) follows is = some_weaker P Q xs i follows is

less_gaps : (low high : ℕ) (files : List LogReading) (i : ℕ) → low ≤ high → IsGap high files i → IsGap low files i
less_gaps low high files i rises gap = some_weaker (HasGap high files) (HasGap low files) files i (λ file has. elim has as (λ _. HasGap low files file) [
  | inl amid ↦ inl amid
  | inr first ↦ let late : high < file.head.from = first.1 in inr (first.0, omega (arith, rises, late))
]) gap

stood : (acked : List Update) (logs : List (LogOf OpenFile)) (checkpoints : Checkpoints) (new : CheckpointReading) → MayStandOn checkpoints logs new
    → IsRunning acked logs checkpoints → IsRunning acked logs (record checkpoints { base = Some new })
stood acked logs checkpoints new may is = record {
  some = is.some;
  opens = record {
    each = is.opens.each;
    once = is.opens.once;
    no_gap = λ i gap. is.opens.no_gap i (less_gaps (begin_of checkpoints.base) new.begin (map file_reading (those_there logs)) i may.begins gap);
    whole = is.opens.whole;
    beyond = is.opens.beyond;
  };
  old = old_rises (begin_of checkpoints.base) new.begin (map as_written logs) may.begins is.old;
  sound = is.sound;
  rise = is.rise;
  base_is = (may.written, may.synced);
  safe = is.safe;
}

were_deleted : (acked : List Update) (before after : List (LogOf OpenFile)) (checkpoints : Checkpoints) → AreDeleted (begin_of checkpoints.base) before after
    → IsRunning acked before checkpoints → IsRunning acked after checkpoints
were_deleted acked before after checkpoints are is =
    let begin = begin_of checkpoints.base in
    let same = history_with_deleted begin before after are.each in record {
      some = are.some;
      opens = are.opens;
      old = old_with_deleted begin before after are.each (λ file at. (limits_of file.head.format, (is.opens.each file at).is_reading.is_log.lawful)) is.old;
      sound = λ c at. subst (λ (h : List (List Logged)). IsSound (log_updates h) c) same (is.sound c at);
      rise = is.rise;
      base_is = base_stays before after checkpoints.base checkpoints.written are.reach is.base_is;
      safe = λ u among.
          let safe = is.safe u among in
          (subst (λ (h : List (List Logged)). Contains (log_updates h) u) same safe.0, are.reach u.timestamp safe.1);
    }

-- ---- a crash

-- sound files have facts, whatever is known of the parts
record FoundSome (left parts : List (List ℕ)) (readings : List LogReading) (known : List KnownPart) : Type 0 where
  facts : Facts left parts
  same : facts.readings ≡ readings
  same_known : facts.known ≡ known

found_some : (left parts : List (List ℕ)) (readings : List LogReading) (known : List KnownPart) → 0 < length readings → AreReadings left readings → AreWriters readings
    → AreKnown parts known → FoundSome left parts readings known
found_some left parts [] known some read writers are = absurd (omega arith)
found_some left parts (r ∷ rs) known some read writers are =
    let cutoff = some_cutoff r rs in
    let choice = some_choice known cutoff.0 in record {
      facts = record { readings = r ∷ rs; read = read; writers = writers; cutoff = cutoff.0; is_cutoff = cutoff.1; known = known; are_known = are; chosen = choice.0; is_chosen = choice.1 };
      same = refl;
      same_known = refl;
    }

-- the chosen checkpoint begins no earlier than the one that the server stood on
begins_no_earlier : (base : Option CheckpointReading) (written : List CheckpointReading) (known : List KnownPart) (cutoff : ℕ) (chosen : Option CheckpointReading)
    → BeginsRise written → ((c : CheckpointReading) → IsValid known c → Contains written c) → IfSome base (IsValid known) → IfSome base (λ c. c.end < cutoff)
    → IsChosenOf known cutoff chosen → begin_of base ≤ begin_of chosen
begins_no_earlier None written known cutoff chosen rise no_other valid ends is = omega arith
begins_no_earlier (Some base) written known cutoff None rise no_other valid ends is = absurd (is base (record { valid = valid; ends_below = ends }))
begins_no_earlier (Some base) written known cutoff (Some chosen) rise no_other valid ends is =
    rise base chosen (no_other base valid) (no_other chosen is.0.valid) (is.1 base (record { valid = valid; ends_below = ends }))

chosen_sound : (written : List CheckpointReading) (known : List KnownPart) (cutoff : ℕ) (chosen : Option CheckpointReading) (us : List Update)
    → ((c : CheckpointReading) → IsValid known c → Contains written c) → ((c : CheckpointReading) → Contains written c → IsSound us c)
    → IsChosenOf known cutoff chosen → IfSome chosen (IsSound us)
chosen_sound written known cutoff None us no_other sound is = tt
chosen_sound written known cutoff (Some chosen) us no_other sound is = sound chosen (no_other chosen is.0.valid)

base_ends : (logs : List (LogOf OpenFile)) (base : Option CheckpointReading) (written : List CheckpointReading) (cutoff : ℕ)
    → ((time : ℕ) → AllSyncedAbove time (those_there logs) → time < cutoff) → IfSome base (IsBase logs written) → IfSome base (λ c. c.end < cutoff)
base_ends logs None written cutoff above is = tt
base_ends logs (Some base) written cutoff above is = above base.end is.1

crashed : (acked : List Update) (logs : List (LogOf OpenFile)) (checkpoints : Checkpoints) (left parts : List (List ℕ)) → AllZip (IsLeftOf (those_there logs)) (those_there logs) left
    → AreLeftOf checkpoints parts → IsRunning acked logs checkpoints → IsDown acked (map as_written logs) left parts
crashed acked logs checkpoints left parts are of_parts is =
    let files = those_there logs in
    let says = all_left files files left is.opens.each are in
    let some = found_some left parts says.0 of_parts.known (omega (arith, is.some, AllZip-long (SaysLeft files) files says.0 says.2)) says.1 (writers_left files says.0 is.opens says.2) of_parts.are_known in
    let facts = some.facts in
    let said = subst (λ (rs : List LogReading). AllZip (SaysLeft files) files rs) (sym some.same) says.2 in
    let valid = subst (λ (ks : List KnownPart). (c : CheckpointReading) → IsValid ks c → Contains checkpoints.written c) (sym some.same_known) of_parts.no_other in
    let base_valid = subst (λ (ks : List KnownPart). IfSome checkpoints.base (IsValid ks)) (sym some.same_known) of_parts.base_is in
    let past = λ (time : ℕ) (above : AllSyncedAbove time files). last_above time files facts.readings facts.cutoff said above facts.is_cutoff.has in
    let rises = begins_no_earlier checkpoints.base checkpoints.written facts.known facts.cutoff facts.chosen is.rise valid base_valid (base_ends logs checkpoints.base checkpoints.written facts.cutoff past is.base_is) facts.is_chosen in record {
      facts = facts;
      found = record {
        no_gap = λ i gap. gaps_stay (begin_of checkpoints.base) (map file_reading files) facts.readings (zip_claims files files facts.readings said) is.opens.no_gap i
            (less_gaps (begin_of checkpoints.base) (begin_of facts.chosen) facts.readings i rises gap);
        ends = λ x y at_x at_y earlier ended. inl (ends_left files facts.readings is.opens said x y at_x at_y earlier ended);
        agree = subst (AllZip (AgreeBelow facts.cutoff) (records_of facts.readings)) (sym (there_written logs))
            (zip_turned (AgreeBelow facts.cutoff) (λ (log : OpenFile). log.records) (λ (log : LogReading). log.records) files facts.readings (all_left_agree files facts.readings facts.cutoff is.opens said facts.is_cutoff));
        old = old_rises (begin_of checkpoints.base) (begin_of facts.chosen) (map as_written logs) rises is.old;
        sound = chosen_sound checkpoints.written facts.known facts.cutoff facts.chosen (updates_in logs) valid is.sound facts.is_chosen;
        safe = λ u at. let safe = is.safe u at in (safe.0, past u.timestamp safe.1);
      };
    }

-- ---- a resume

-- what holds does not depend on how the facts were found
found_by : (acked : List Update) (logs : List (LogOf (List Logged))) (left parts : List (List ℕ)) → IsDown acked logs left parts → (facts : Facts left parts)
    → IsFoundBy acked logs facts
found_by acked logs left parts is facts =
    let same = same_facts left parts is.facts facts in
    subst (λ (x : List LogReading × ℕ × Option CheckpointReading). IsFound acked logs x.0 x.1 x.2) (λ i. (same.0 i, same.1 i, same.3 i)) is.found

-- a resumed file is ended only if the file was, or the cutoff is the greatest timestamp
ended_before : (cutoff : ℕ) (rs : List Logged) → cutoff < 2 ^ 64 → is_ended (below cutoff rs ++ marks_of cutoff rs) ≡ true
    → (is_ended rs ≡ true) ⊎ (cutoff ≡ greatest_timestamp)
ended_before cutoff rs fits ended = elim (cases_lt cutoff greatest_timestamp) as (λ _. (is_ended rs ≡ true) ⊎ (cutoff ≡ greatest_timestamp)) [
  | inl less ↦
      let both = and_from (is_ended (below cutoff rs ++ marks_of cutoff rs)) (ltb cutoff greatest_timestamp) ended (lt-ltb cutoff greatest_timestamp less) in
      inl (and_parts (is_ended rs) (ltb cutoff greatest_timestamp) (sym (ended_alike cutoff rs) ∙ both)).0
  | inr most ↦ inr (omega (arith, fits, most))
]

-- a file that was ended is so when it is resumed, or the cutoff is the greatest timestamp
ended_after : (cutoff : ℕ) (rs : List Logged) → cutoff < 2 ^ 64 → is_ended rs ≡ true
    → (is_ended (below cutoff rs ++ marks_of cutoff rs) ≡ true) ⊎ (cutoff ≡ greatest_timestamp)
ended_after cutoff rs fits ended = elim (cases_lt cutoff greatest_timestamp) as (λ _. (is_ended (below cutoff rs ++ marks_of cutoff rs) ≡ true) ⊎ (cutoff ≡ greatest_timestamp)) [
  | inl less ↦
      let both = and_from (is_ended rs) (ltb cutoff greatest_timestamp) ended (lt-ltb cutoff greatest_timestamp less) in
      inl (and_parts (is_ended (below cutoff rs ++ marks_of cutoff rs)) (ltb cutoff greatest_timestamp) (ended_alike cutoff rs ∙ both)).0
  | inr most ↦ inr (omega (arith, fits, most))
]

ended_was : (cutoff : ℕ) (log now : LogReading) → Became cutoff log now → is_ended now.records ≡ true → (is_ended log.records ≡ true) ⊎ (cutoff ≡ greatest_timestamp)
ended_was cutoff log now became ended = elim became.how as (λ _. (is_ended log.records ≡ true) ⊎ (cutoff ≡ greatest_timestamp)) [
  | inl e ↦ inl (subst (λ (l : LogReading). is_ended l.records ≡ true) e ended)
  | inr e ↦ ended_before cutoff log.records became.fits (subst (λ (l : LogReading). is_ended l.records ≡ true) e ended)
]

ended_is : (cutoff : ℕ) (log now : LogReading) → Became cutoff log now → is_ended log.records ≡ true → (is_ended now.records ≡ true) ⊎ (cutoff ≡ greatest_timestamp)
ended_is cutoff log now became ended = elim became.how as (λ _. (is_ended now.records ≡ true) ⊎ (cutoff ≡ greatest_timestamp)) [
  | inl e ↦ inl (subst (λ (l : LogReading). is_ended l.records ≡ true) (sym e) ended)
  | inr e ↦ elim (ended_after cutoff log.records became.fits ended) as (λ _. (is_ended now.records ≡ true) ⊎ (cutoff ≡ greatest_timestamp)) [
    | inl is ↦ inl (subst (λ (l : LogReading). is_ended l.records ≡ true) (sym e) is)
    | inr greatest ↦ inr greatest
  ]
]

-- files still end together on the way
ends_now : (cutoff : ℕ) (files now : List LogReading) → AllZip (Became cutoff) files now → EndTogether cutoff files → EndTogether cutoff now
ends_now cutoff files now became ends x y at_x at_y earlier ended =
    let a = partner_of (Became cutoff) files now x became at_x in
    let b = partner_of (Became cutoff) files now y became at_y in
    let seg_a = (replaces cutoff a.0 x a.2).claims.segment in
    let seg_b = (replaces cutoff b.0 y b.2).claims.segment in
    let before = subst (λ (s : Option Segment × Option Segment). IsEarlier s.0 s.1) (λ i. (seg_a i, seg_b i)) earlier in
    elim (ended_was cutoff a.0 x a.2 ended) as (λ _. (is_ended y.records ≡ true) ⊎ (cutoff ≡ greatest_timestamp)) [
      | inr greatest ↦ inr greatest
      | inl was ↦ elim (ends a.0 b.0 a.1 b.1 before was) as (λ _. (is_ended y.records ≡ true) ⊎ (cutoff ≡ greatest_timestamp)) [
        | inr greatest ↦ inr greatest
        | inl too ↦ ended_is cutoff b.0 y b.2 too
      ]
    ]

-- lists that agree with the same one agree
zip_agree : (cutoff : ℕ) (logs news others : List (List Logged)) → AllZip (AgreeBelow cutoff) logs news → AllZip (AgreeBelow cutoff) logs others
    → AllZip (AgreeBelow cutoff) news others
zip_agree cutoff logs news others first next =
    zip_weaker (λ b c. (a : List Logged) × AgreeBelow cutoff a b × AgreeBelow cutoff a c) (AgreeBelow cutoff) news others
    (λ b c both. agree_too cutoff b both.0 c (agrees_back cutoff both.0 b both.1) both.2)
    (zip_back (AgreeBelow cutoff) (AgreeBelow cutoff) logs news others first next)

stopped : (acked : List Update) (logs : List (LogOf (List Logged))) (left parts now now_parts : List (List ℕ)) (facts : Facts left parts) → IsOnTheWay facts now now_parts
    → IsDown acked logs left parts → IsDown acked logs now now_parts
stopped acked logs left parts now now_parts facts way was =
    let before = found_by acked logs left parts was facts in
    let new = found_now left parts now now_parts facts way in
    let readings = new.found.readings in
    let claim = all_claim facts.cutoff facts.readings readings (zip_weaker (Became facts.cutoff) (Replaces facts.cutoff) facts.readings readings (replaces facts.cutoff) new.became) in
    let found : IsFound acked logs readings facts.cutoff facts.chosen = record {
      no_gap = gaps_stay (begin_of facts.chosen) facts.readings readings claim before.no_gap;
      ends = ends_now facts.cutoff facts.readings readings new.became before.ends;
      agree = zip_agree facts.cutoff (records_of facts.readings) (records_of readings) (those_there logs) (all_agree facts.cutoff facts.readings readings new.became) before.agree;
      old = before.old;
      sound = before.sound;
      safe = before.safe;
    } in
    record { facts = new.found; found = subst (λ (x : ℕ × Option CheckpointReading). IsFound acked logs readings x.0 x.1) (λ i. (sym new.cutoff i, sym new.chosen i)) found }

-- the open file is what replaces this reading, and all of it is synced
record IsAfresh (cutoff : ℕ) (reading : LogReading) (log : OpenFile) : Type 0 where
  same : file_reading log ≡ resumed cutoff reading
  is_reading : IsReading (file_bytes log) (file_reading log)
  synced : log.synced ≡ file_bytes log
  agrees : AgreeBelow cutoff reading.records log.records

afresh : (cutoff : ℕ) (left : List ℕ) (reading : LogReading) (log : OpenFile) → cutoff < 2 ^ 64 → IsReading left reading → IsResumedAs cutoff left log
    → IsAfresh cutoff reading log
afresh cutoff left reading log fits is as_log =
    let same : file_reading log ≡ resumed cutoff reading = as_log.replaces ∙ ap (resumed cutoff) (one_reading_of left as_log.reading reading as_log.is_reading is) in
    let to : IsResumed cutoff left (file_bytes log) = record { log = reading; is_reading = is; spelled = ap (λ (l : LogReading). log_bytes l.head l.records) same } in record {
      same = same;
      is_reading = subst (IsReading (file_bytes log)) (sym same) (reading_after cutoff left (file_bytes log) reading fits is to);
      synced = as_log.synced;
      agrees = subst (λ (l : LogReading). AgreeBelow cutoff reading.records l.records) (sym same) (resumed_agrees cutoff (limits_of reading.head.format) reading.records fits is.is_log.lawful);
    }

-- each mark of a resumed file is synced
mark_synced : (P : Logged → Type 0) (cutoff : ℕ) (reading : LogReading) (log : OpenFile) → IsAfresh cutoff reading log → (r : Logged)
    → Contains (marks_of cutoff reading.records) r → P r → HasSynced P log
mark_synced P cutoff reading log is r at holds = record {
  reading = file_reading log;
  is_reading = subst (λ (bytes : List ℕ). IsReading bytes (file_reading log)) (sym is.synced) is.is_reading;
  at = r;
  stands = subst (λ (l : LogReading). Contains l.records r) (sym is.same) (Contains-append_right (below cutoff reading.records) (marks_of cutoff reading.records) r at);
  holds = holds;
}

-- a record for which P holds is synced if it holds of the mark at the cutoff
cutoff_synced : (P : Logged → Type 0) (cutoff : ℕ) (reading : LogReading) (log : OpenFile) → IsAfresh cutoff reading log → P (mark_of cutoff) → HasSynced P log
cutoff_synced P cutoff reading log is holds = mark_synced P cutoff reading log is (mark_of cutoff) (head_in (mark_of cutoff) _) holds

-- all of a file is a beginning of it
pub all_of_it : (log : OpenFile) → IsReading (file_bytes log) (file_reading log) → IsCutOf (file_bytes log) (file_bytes log)
all_of_it log is = record {
  lost = [];
  begins = sym (append-nil (file_bytes log));
  header = record { head = log.head; is_head = is.is_log.is_head; more = flat_map spelling log.records; spelled = refl };
}

-- a file that is synced whole may be left as it is
pub left_whole : (logs : List OpenFile) (log : OpenFile) → IsReading (file_bytes log) (file_reading log) → log.synced ≡ file_bytes log → IsLeftOf logs log (file_bytes log)
left_whole logs log is whole = record {
  text = file_bytes log;
  torn = false;
  opens = inl (plain_own (file_bytes log) log.head (flat_map spelling log.records) refl, refl);
  synced = subst (λ (bytes : List ℕ). IsCutOf bytes (file_bytes log)) (sym whole) (all_of_it log is);
  written = all_of_it log is;
  whole = λ later at behind. refl;
}

opens_afresh : (cutoff : ℕ) (reading : LogReading) (log : OpenFile) → IsAfresh cutoff reading log → IsOpenFile log
opens_afresh cutoff reading log is = record {
  is_reading = is.is_reading;
  synced = subst (λ (bytes : List ℕ). IsCutOf bytes (file_bytes log)) (sym is.synced) (all_of_it log is.is_reading);
  claim = cutoff_synced (λ r. log.head.from ≤ r.timestamp) cutoff reading log is (low (ap (λ (l : LogReading). l.head.from) is.same));
}
  where
    low : log.head.from ≡ min reading.head.from cutoff → log.head.from ≤ cutoff
    low e = omega (arith, e)

claims_afresh : (cutoff : ℕ) (reading : LogReading) (log : OpenFile) → IsAfresh cutoff reading log → ClaimsNoMore reading (file_reading log)
claims_afresh cutoff reading log is = subst (ClaimsNoMore reading) (sym is.same) (record { segment = refl; from = omega arith })

zip_afresh : (cutoff : ℕ) (readings : List LogReading) (logs : List OpenFile) → AllZip (IsAfresh cutoff) readings logs
    → AllZip ClaimsNoMore readings (map file_reading logs)
zip_afresh cutoff [] [] are = tt
zip_afresh cutoff [] (l ∷ ls) are = absurd are
zip_afresh cutoff (r ∷ rs) [] are = absurd are
zip_afresh cutoff (r ∷ rs) (l ∷ ls) are = (claims_afresh cutoff r l are.0, zip_afresh cutoff rs ls are.1)

-- the greatest timestamp is marked in a resumed file that was ended
end_synced : (cutoff : ℕ) (reading : LogReading) (log : OpenFile) → cutoff < greatest_timestamp → IsAfresh cutoff reading log → is_ended reading.records ≡ true
    → HasSynced (λ r. (is_mark r ≡ true) × (greatest_timestamp ≤ r.timestamp)) log
end_synced cutoff reading log less is ended =
    let end = mark_of greatest_timestamp in
    let both = and_from (is_ended reading.records) (ltb cutoff greatest_timestamp) ended (lt-ltb cutoff greatest_timestamp less) in
    let at : Contains (marks_of cutoff reading.records) end = subst (λ (b : Bool). Contains (mark_of cutoff ∷ cond b (end ∷ []) []) end) (sym both) (tail_in (mark_of cutoff) end (end ∷ []) (head_in end [])) in
    mark_synced (λ r. (is_mark r ≡ true) × (greatest_timestamp ≤ r.timestamp)) cutoff reading log is end at (refl, omega arith)

-- a resumed file has a mark at or after each timestamp of the earlier segments
beyond_afresh : (cutoff : ℕ) (x y : LogReading) (a b : OpenFile) (time : ℕ) → IsAfresh cutoff x a → IsAfresh cutoff y b
    → (is_ended x.records ≡ true → (is_ended y.records ≡ true) ⊎ (cutoff ≡ greatest_timestamp)) → Contains (times_of (file_reading a)) time
    → HasSynced (λ r. (is_mark r ≡ true) × (time ≤ r.timestamp)) b
beyond_afresh cutoff x y a b time of_x of_y ends at = by (times_bound cutoff x time (subst (λ (l : LogReading). Contains (times_of l) time) of_x.same at))
  where
    Marked : Type 0
    Marked = HasSynced (λ r. (is_mark r ≡ true) × (time ≤ r.timestamp)) b

    at_cutoff : time ≤ cutoff → Marked
    at_cutoff most = cutoff_synced (λ r. (is_mark r ≡ true) × (time ≤ r.timestamp)) cutoff y b of_y (refl, most)

    at_end : time ≡ greatest_timestamp → is_ended y.records ≡ true → Marked
    at_end e ended = elim (cases_lt cutoff greatest_timestamp) as (λ _. Marked) [
      | inl less ↦ subst (λ (t : ℕ). HasSynced (λ r. (is_mark r ≡ true) × (t ≤ r.timestamp)) b) (sym e) (end_synced cutoff y b less of_y ended)
      | inr most ↦ at_cutoff (omega (arith, e, most))
    ]

    by : (time ≤ cutoff) ⊎ ((time ≡ greatest_timestamp) × (is_ended x.records ≡ true)) → Marked
    by (inl most) = at_cutoff most
    by (inr end) = elim (ends end.1) as (λ _. Marked) [ inl too ↦ at_end end.0 too | inr greatest ↦ at_cutoff (let e : time ≡ greatest_timestamp = end.0 in omega (arith, e, greatest)) ]

-- ---- the store

-- the store is that of the history below the cutoff
walk_of_history : (acked : List Update) (logs : List (LogOf (List Logged))) (readings : List LogReading) (known : List KnownPart) (cutoff : ℕ) (chosen : Option CheckpointReading) (pairs : List Pair)
    → IsFound acked logs readings cutoff chosen → IsChosenOf known cutoff chosen → IsWalk (survivors cutoff chosen (records_of readings)) pairs
    → IsWalk (survivors cutoff None (history_of logs)) pairs
walk_of_history acked logs readings known cutoff chosen pairs found is walk =
    let agree : survivors cutoff chosen (records_of readings) ≡ survivors cutoff chosen (those_there logs) = ap (λ (us : List Update). us ++ entry_updates chosen)
    (agreeing_survive (record { begin = begin_of chosen; cutoff = cutoff }) 0 (records_of readings) (those_there logs) found.agree) in
    let over = (same_store_since (those_there logs) (history_of logs) cutoff chosen pairs (same_since (begin_of chosen) logs found.old)).0
    (subst (λ (us : List Update). IsWalk us pairs) agree walk) in
    over_chosen known cutoff chosen (history_of logs) pairs is found.sound over

-- ---- the server after a resume

listed_sound : (chosen : Option CheckpointReading) (us vs : List Update) (known : List KnownPart) (cutoff : ℕ) → IsChosenOf known cutoff chosen
    → ((u : Update) → Contains vs u ↔ Contains us u × (u.timestamp < cutoff)) → IfSome chosen (IsSound us) → (c : CheckpointReading) → Contains (listed chosen) c → IsSound vs c
listed_sound None us vs known cutoff is same sound c at = absurd (no_element c at)
listed_sound (Some chosen) us vs known cutoff is same sound c at = elim (head_or_tail chosen c [] at) as (λ _. IsSound vs c) [
  | inl e ↦ subst (IsSound vs) e (sound_of_fewer us vs chosen cutoff is.0.ends_below same sound)
  | inr none ↦ absurd (no_element c none)
]

pub listed_rise : (chosen : Option CheckpointReading) → BeginsRise (listed chosen)
listed_rise None a b at_a at_b better = absurd (no_element a at_a)
listed_rise (Some chosen) a b at_a at_b better = elim (head_or_tail chosen a [] at_a) as (λ _. a.begin ≤ b.begin) [
  | inr none ↦ absurd (no_element a none)
  | inl e ↦ elim (head_or_tail chosen b [] at_b) as (λ _. a.begin ≤ b.begin) [
    | inr none ↦ absurd (no_element b none)
    | inl f ↦
        let first : chosen.begin ≡ a.begin = ap (λ (c : CheckpointReading). c.begin) e in
        let second : chosen.begin ≡ b.begin = ap (λ (c : CheckpointReading). c.begin) f in
        omega (arith, first, second)
  ]
]

listed_base : (logs : List (LogOf OpenFile)) (chosen : Option CheckpointReading) (known : List KnownPart) (cutoff : ℕ) → IsChosenOf known cutoff chosen
    → ((time : ℕ) → time < cutoff → AllSyncedAbove time (those_there logs)) → IfSome chosen (IsBase logs (listed chosen))
listed_base logs None known cutoff is above = tt
listed_base logs (Some chosen) known cutoff is above = (head_in chosen [], above chosen.end is.0.ends_below)

-- the records of a resumed file are old at the cutoff
afresh_old : (cutoff : ℕ) (reading : LogReading) (file : OpenFile) → IsAfresh cutoff reading file → AreOld cutoff file.records
afresh_old cutoff reading file is r at change =
    no_late_record cutoff reading.records r (subst (λ (l : LogReading). Contains l.records r) is.same at) change

-- which updates are in the history after a resume: those from below the cutoff
record AreResumed (cutoff : ℕ) (us vs : List Update) : Type 0 where
  same : filter (in_window (record { begin = 0; cutoff = cutoff })) us ≡ filter (in_window (record { begin = 0; cutoff = cutoff })) vs
  early : (u : Update) → Contains vs u → u.timestamp < cutoff

same_below : (cutoff : ℕ) (us vs : List Update) → AreResumed cutoff us vs → (u : Update) → Contains vs u ↔ Contains us u × (u.timestamp < cutoff)
same_below cutoff us vs are u = (
  λ at.
      let less = are.early u at in
      let there = in_filter (in_window window) vs u (within window u.timestamp (omega arith) less) at in
      ((of_filter (in_window window) us u (subst (λ (l : List Update). Contains l u) (sym are.same) there)).0, less),
  λ both.
      let there = in_filter (in_window window) us u (within window u.timestamp (omega arith) both.1) both.0 in
      (of_filter (in_window window) vs u (subst (λ (l : List Update). Contains l u) are.same there)).0,
)
  where
    window : Window
    window = record { begin = 0; cutoff = cutoff }

-- what replaces the logs that were left
zip_resumed : (left parts : List (List ℕ)) (after : List (LogOf OpenFile)) (facts : Facts left parts) → AllZip (IsResumedAs facts.cutoff) left (those_there after)
    → AllZip (IsAfresh facts.cutoff) facts.readings (those_there after)
zip_resumed left parts after facts are =
    let files = those_there after in
    let fits = cutoff_fits left facts.readings facts.cutoff facts.read facts.is_cutoff in
    zip_weaker (λ reading log. (bytes : List ℕ) × IsReading bytes reading × IsResumedAs facts.cutoff bytes log) (IsAfresh facts.cutoff) facts.readings files
    (λ reading log both. afresh facts.cutoff both.0 reading log fits both.1 both.2)
    (zip_back IsReading (IsResumedAs facts.cutoff) left facts.readings files facts.read are)

-- the updates of the history after a resume are those from below the cutoff
resumed_updates : (acked : List Update) (before : List (LogOf (List Logged))) (left parts : List (List ℕ)) (after : List (LogOf OpenFile)) (facts : Facts left parts)
    → AllZip (IsStill (λ records file. Unit {0})) before after → AllZip (IsAfresh facts.cutoff) facts.readings (those_there after) → IsFoundBy acked before facts
    → (u : Update) → Contains (updates_in after) u ↔ Contains (log_updates (history_of before)) u × (u.timestamp < facts.cutoff)
resumed_updates acked before left parts after facts places fresh found =
    let files = those_there after in
    let begin = begin_of facts.chosen in
    let begins = begins_below facts.known facts.cutoff facts.chosen facts.is_chosen in
    let agree_now : AllZip (AgreeBelow facts.cutoff) (records_of facts.readings) (map (λ (log : OpenFile). log.records) files) = zip_map (AgreeBelow facts.cutoff) (λ (log : LogReading). log.records) (λ (log : OpenFile). log.records) facts.readings files
    (zip_weaker (IsAfresh facts.cutoff) (λ reading log. AgreeBelow facts.cutoff reading.records log.records) facts.readings files (λ reading log f. f.agrees) fresh) in
    let agree = zip_agree facts.cutoff (records_of facts.readings) (those_there before) (those_there (map as_written after)) found.agree
    (subst (AllZip (AgreeBelow facts.cutoff) (records_of facts.readings)) (sym (there_written after)) agree_now) in
    let window : Window = record { begin = 0; cutoff = facts.cutoff } in
    let old = old_resumed begin before after places found.old in
    same_below facts.cutoff (log_updates (history_of before)) (updates_in after) (record {
      same = agreeing_survive window 0 (history_of before) (history_of (map as_written after)) (history_agrees facts.cutoff begin before after places found.old agree);
      early = λ u at. updates_old facts.cutoff 0 (history_of (map as_written after)) u (λ rs among.
          elim (there_or_old begin (map as_written after) rs old among) as (λ _. AreOld facts.cutoff rs) [
            | inl there_is ↦
                let file = of_map (λ (f : OpenFile). f.records) files rs (subst (λ (l : List (List Logged)). Contains l rs) (there_written after) there_is) in
                let x = partner_of (IsAfresh facts.cutoff) facts.readings files file.0 fresh file.1 in
                subst (AreOld facts.cutoff) file.2 (afresh_old facts.cutoff x.0 file.0 x.2)
            | inr is ↦ λ r at_r change. let less : r.timestamp < begin = is.1 r at_r change in omega (arith, less, begins)
          ]) at;
    })

started : (acked : List Update) (before : List (LogOf (List Logged))) (left parts : List (List ℕ)) (after : List (LogOf OpenFile)) (facts : Facts left parts)
    → AllZip (IsStill (λ records file. Unit {0})) before after → AllZip (IsResumedAs facts.cutoff) left (those_there after) → IsDown acked before left parts
    → IsRunning acked after (only facts.chosen)
started acked before left parts after facts places are was =
    let found = found_by acked before left parts was facts in
    let files = those_there after in
    let begin = begin_of facts.chosen in
    let fresh = zip_resumed left parts after facts are in
    let of = λ (log : OpenFile) (at : Contains files log). partner_of (IsAfresh facts.cutoff) facts.readings files log fresh at in
    let same = resumed_updates acked before left parts after facts places fresh found in
    let above = λ (time : ℕ) (less : time < facts.cutoff) (log : OpenFile) (among : Contains files log).
    let x = of log among in
    let synced : IsSyncedAbove time files log = record { last = log; stands = among; of_log = inl refl; above = cutoff_synced (λ r. time < r.timestamp) facts.cutoff x.0 log x.2 less } in
    synced in record {
      some = omega (arith, some_reading facts, AllZip-long (IsAfresh facts.cutoff) facts.readings files fresh);
      opens = record {
        each = λ log at. let x = of log at in opens_afresh facts.cutoff x.0 log x.2;
        once = once_stays facts.readings (map file_reading files) (zip_afresh facts.cutoff facts.readings files fresh) facts.writers.once;
        no_gap = gaps_stay begin facts.readings (map file_reading files) (zip_afresh facts.cutoff facts.readings files fresh) found.no_gap;
        whole = λ a b at_a at_b behind. (of a at_a).2.synced;
        beyond = λ a b at_a at_b behind time at.
            let x = of a at_a in
            let y = of b at_b in
            let earlier = subst (λ (s : Option Segment × Option Segment). IsEarlier s.0 s.1) (λ i. (ap (λ (l : LogReading). l.head.segment) x.2.same i, ap (λ (l : LogReading). l.head.segment) y.2.same i)) behind in
            beyond_afresh facts.cutoff x.0 y.0 a b time x.2 y.2 (found.ends x.0 y.0 x.1 y.1 earlier) at;
      };
      old = old_resumed begin before after places found.old;
      sound = listed_sound facts.chosen (log_updates (history_of before)) (updates_in after) facts.known facts.cutoff facts.is_chosen same found.sound;
      rise = listed_rise facts.chosen;
      base_is = listed_base after facts.chosen facts.known facts.cutoff facts.is_chosen above;
      safe = λ u at. let safe = found.safe u at in ((same u).1 safe, above u.timestamp safe.1);
    }
  where
    some_of : (readings : List LogReading) (cutoff : ℕ) → IsCutoff readings cutoff → 0 < length readings
    some_of [] cutoff is = absurd (no_element is.has.log is.has.stands)
    some_of (r ∷ rs) cutoff is = omega arith

    some_reading : (facts : Facts left parts) → 0 < length facts.readings
    some_reading facts = some_of facts.readings facts.cutoff facts.is_cutoff

-- ---- a fresh start

-- what is left behind of the logs is old at the cutoff
behind_old : (begin cutoff : ℕ) (logs : List (LogOf (List Logged))) → begin ≤ cutoff → AllOld begin logs
    → ((rs : List Logged) → Contains (those_there logs) rs → NeverFall rs) → AllOld cutoff (map as_written (map (left_behind cutoff) logs))
behind_old begin cutoff [] rises old rise = tt
behind_old begin cutoff (there rs ∷ logs) rises old rise =
    let lawful = rise rs (head_in rs (those_there logs)) in (
      ((lawful.0, below_lawful lawful.0 cutoff 0 rs lawful.1), λ r at change. ltb-true r.timestamp cutoff (of_filter (λ (x : Logged). nat_lt x.timestamp cutoff) rs r at).1),
      behind_old begin cutoff logs rises old.1 (λ ts at. rise ts (tail_in rs ts (those_there logs) at)),
    )
behind_old begin cutoff (deleted rs ∷ logs) rises old rise = (
  (old.0.0, λ r at change. let less : r.timestamp < begin = old.0.1 r at change in omega (arith, less, rises)),
  behind_old begin cutoff logs rises old.1 rise,
)

-- the history that is left behind agrees below the cutoff
behind_agrees : (begin cutoff : ℕ) (logs : List (LogOf (List Logged))) → AllOld begin logs → ((rs : List Logged) → Contains (those_there logs) rs → NeverFall rs)
    → AllZip (AgreeBelow cutoff) (history_of logs) (history_of (map as_written (map (left_behind cutoff) logs)))
behind_agrees begin cutoff [] old rise = tt
behind_agrees begin cutoff (there rs ∷ logs) old rise =
    let lawful = rise rs (head_in rs (those_there logs)) in (
      record { rise = lawful; others_rise = (lawful.0, below_lawful lawful.0 cutoff 0 rs lawful.1); same = sym (below_twice cutoff rs) },
      behind_agrees begin cutoff logs old.1 (λ ts at. rise ts (tail_in rs ts (those_there logs) at)),
    )
behind_agrees begin cutoff (deleted rs ∷ logs) old rise = (record { rise = old.0.0; others_rise = old.0.0; same = refl }, behind_agrees begin cutoff logs old.1 rise)

-- nothing is there of what is left behind
none_there : (cutoff : ℕ) (logs : List (LogOf (List Logged))) → those_there (map (left_behind cutoff) logs) ≡ []
none_there cutoff [] = refl
none_there cutoff (there rs ∷ logs) = none_there cutoff logs
none_there cutoff (deleted rs ∷ logs) = none_there cutoff logs

all_behind : (cutoff : ℕ) (logs : List (LogOf (List Logged))) (begin : ℕ) → begin ≤ cutoff → AllOld begin logs
    → ((rs : List Logged) → Contains (those_there logs) rs → NeverFall rs) → (rs : List Logged) → Contains (history_of (map as_written (map (left_behind cutoff) logs))) rs → AreOld cutoff rs
all_behind cutoff logs begin rises old rise rs at =
    let behind = map as_written (map (left_behind cutoff) logs) in
    elim (there_or_old cutoff behind rs (behind_old begin cutoff logs rises old rise) at) as (λ _. AreOld cutoff rs) [
      | inl among ↦ absurd (no_element rs (subst (λ (l : List (List Logged)). Contains l rs) (there_written (map (left_behind cutoff) logs) ∙ ap (map (λ (file : OpenFile). file.records)) (none_there cutoff logs)) among))
      | inr is ↦ is.1
    ]

-- a file of marks adds no update
pub marks_add_none : (log : ℕ) (logs : List (LogOf OpenFile)) (file : OpenFile) (u : Update) → ((r : Logged) → Contains file.records r → is_mark r ≡ true)
    → Contains (all_updates log (history_of (map as_written (logs ++ there file ∷ [])))) u → Contains (all_updates log (history_of (map as_written logs))) u
marks_add_none log [] file u marks at = elim (Contains-append_cases (updates_from log 0 file.records) [] u at) as (λ _. Contains (all_updates log []) u) [
  | inl here ↦ let found = of_record log 0 file.records u here in absurd (both_ways (is_mark found.0) found.2.1 (marks found.0 found.1))
  | inr none ↦ absurd (no_element u none)
]
marks_add_none log (x ∷ xs) file u marks at =
    let rs = records_in (as_written x) in
    stay_in log rs rs (history_of (map as_written (xs ++ there file ∷ []))) (history_of (map as_written xs)) u (λ here. here) (marks_add_none (suc log) xs file u marks) at

never_fall : {left parts : List (List ℕ)} (acked : List Update) (before : List (LogOf (List Logged))) (facts : Facts left parts) → IsFoundBy acked before facts
    → (rs : List Logged) → Contains (those_there before) rs → NeverFall rs
never_fall acked before facts found rs at = (partner_of (AgreeBelow facts.cutoff) (records_of facts.readings) (those_there before) rs found.agree at).2.others_rise

-- the updates after a fresh start are those that were written below the cutoff
afresh_updates : (acked : List Update) (before : List (LogOf (List Logged))) (left parts : List (List ℕ)) (facts : Facts left parts) (file : OpenFile)
    → ((r : Logged) → Contains file.records r → is_mark r ≡ true) → IsFoundBy acked before facts
    → (u : Update) → Contains (updates_in (map (left_behind facts.cutoff) before ++ there file ∷ [])) u ↔ Contains (log_updates (history_of before)) u × (u.timestamp < facts.cutoff)
afresh_updates acked before left parts facts file marks found =
    let cutoff = facts.cutoff in
    let behind = map (left_behind cutoff) before in
    let us = log_updates (history_of before) in
    let rise = never_fall acked before facts found in
    let same = same_below cutoff us (updates_in behind) (record {
      same = agreeing_survive (record { begin = 0; cutoff = cutoff }) 0 (history_of before) (history_of (map as_written behind)) (behind_agrees (begin_of facts.chosen) cutoff before found.old rise);
      early = λ u at. updates_old cutoff 0 (history_of (map as_written behind)) u
          (all_behind cutoff before (begin_of facts.chosen) (begins_below facts.known cutoff facts.chosen facts.is_chosen) found.old rise) at;
    }) in
    λ u. (
      λ at. (same u).0 (marks_add_none 0 behind file u marks at),
      λ both. stay_with_more 0 behind file u ((same u).1 both),
    )

started_afresh : (acked : List Update) (before : List (LogOf (List Logged))) (left parts : List (List ℕ)) (facts : Facts left parts) (file : OpenFile) (new : CheckpointReading)
    → IsFreshStart facts file new → IsDown acked before left parts → IsRunning acked (map (left_behind facts.cutoff) before ++ there file ∷ []) (only (Some new))
started_afresh acked before left parts facts file new start was =
    let found = found_by acked before left parts was facts in
    let cutoff = facts.cutoff in
    let behind = map (left_behind cutoff) before in
    let after = behind ++ there file ∷ [] in
    let begins = begins_below facts.known cutoff facts.chosen facts.is_chosen in
    let old = old_append cutoff behind file (behind_old (begin_of facts.chosen) cutoff before begins found.old (never_fall acked before facts found)) in
    let us = log_updates (history_of before) in
    let same_after = afresh_updates acked before left parts facts file start.marks found in
    let there_is : those_there after ≡ file ∷ [] = there_append behind (there file ∷ []) ∙ ap (λ (fs : List OpenFile). fs ++ file ∷ []) (none_there cutoff before) in
    let all = survivors cutoff None (history_of before) in
    let covered : AreCovered before facts.readings cutoff facts.chosen start.version = record { agree = found.agree; old = found.old; sound = found.sound; most = start.most } in
    let walk = walk_of_history acked before facts.readings facts.known cutoff facts.chosen start.pairs found facts.is_chosen start.walk in
    let stored : AreStored (updates_in after) start.pairs cutoff start.version = record {
      walk = same_walk all (updates_in after) start.pairs (λ key number bytes. (
        of_same_key all (updates_in after) key number bytes (λ u of_key at. (same_after u).1 (of_history cutoff (history_of before) u at)) (λ u of_key at. let both = (same_after u).0 at in in_history cutoff (history_of before) u both.0 both.1),
        of_same_key (updates_in after) all key number bytes (λ u of_key at. let both = (same_after u).0 at in in_history cutoff (history_of before) u both.0 both.1) (λ u of_key at. (same_after u).1 (of_history cutoff (history_of before) u at)),
      )) walk;
      early = λ u at. ((same_after u).0 at).1;
      most = λ key number bytes column u at of_key.
          let both = (same_after u).0 at in
          let in_all = of_same_key (updates_in after) all key number bytes (λ w of_w among. let is = (same_after w).0 among in in_history cutoff (history_of before) w is.0 is.1) (λ w of_w among. (same_after w).1 (of_history cutoff (history_of before) w among)) column in
          key_most before facts.readings facts.known cutoff facts.chosen start.version facts.is_chosen covered key number bytes in_all u both.0 both.1 of_key;
    } in
    let above : (time : ℕ) → time ≤ cutoff → AllSyncedAbove time (those_there after) = λ time most.
    subst (AllSyncedAbove time) (sym there_is) (λ log at. elim (head_or_tail file log [] at) as (λ _. IsSyncedAbove time (file ∷ []) log) [
      | inl e ↦ record {
        last = log;
        stands = at;
        of_log = inl refl;
        above = subst (HasSynced (λ r. time < r.timestamp)) e (synced_more (λ r. cutoff < r.timestamp) (λ r. time < r.timestamp) file (λ r more. let high : cutoff < r.timestamp = more in omega (arith, high, most)) start.above);
      }
      | inr none ↦ absurd (no_element log none)
    ]) in record {
      some = omega (arith, ap length there_is);
      opens = subst (λ (x : ℕ × List OpenFile). AreOpen x.0 x.1) (λ i. (sym start.begins i, sym there_is i)) start.opens;
      old = subst (λ (begin : ℕ). AllOld begin (map as_written after)) (sym start.begins) old;
      sound = λ c at. elim (head_or_tail new c [] at) as (λ _. IsSound (updates_in after) c) [
        | inl e ↦ subst (IsSound (updates_in after)) e (fresh_sound (updates_in after) start.pairs cutoff start.version new stored start.begins start.ends start.entries)
        | inr none ↦ absurd (no_element c none)
      ];
      rise = listed_rise (Some new);
      base_is = (head_in new [], above new.end (let ends : new.end ≡ cutoff = start.ends in omega (arith, ends)));
      safe = λ u at. let safe = found.safe u at in let less : u.timestamp < cutoff = safe.1 in ((same_after u).1 safe, above u.timestamp (omega (arith, less)));
    }

-- ---- a life

step_holds : (before after : State) → IsStep before after → Holds before → Holds after
step_holds before after (write acked logs now checkpoints are) is =
    keeps_running acked logs now checkpoints (zip_weaker (IsStill IsWritten) (IsStill Keeps) logs now (still_weaker IsWritten Keeps written_keeps) are.each) are.opens are.new is
step_holds before after (sync acked logs now checkpoints are opens) is = synced_running acked logs now checkpoints are opens is
step_holds before after (acknowledge acked logs checkpoints u at above) is = acknowledged acked logs checkpoints u at above is
step_holds before after (add_file acked logs checkpoints file was) is = added acked logs checkpoints file was is
step_holds before after (write_checkpoint acked logs checkpoints new sound rise) is = checkpoint_written acked logs checkpoints new sound rise is
step_holds before after (stand acked logs checkpoints new may) is = stood acked logs checkpoints new may is
step_holds before after (delete acked logs now checkpoints are) is = were_deleted acked logs now checkpoints are is
step_holds before after (crash acked logs checkpoints left parts are of_parts) is = crashed acked logs checkpoints left parts are of_parts is
step_holds before after (stop acked logs left parts now now_parts facts way) is = stopped acked logs left parts now now_parts facts way is
step_holds before after (resume acked logs left parts now facts places are) is = started acked logs left parts now facts places are is
step_holds before after (start_afresh acked logs left parts facts file new start) is = started_afresh acked logs left parts facts file new start is

pub life_holds : (state : State) → Life state → Holds state
life_holds state (begun file files opens) =
    let same = there_of_all (file ∷ files) in record {
      some = omega (arith, ap length same);
      opens = subst (AreOpen 0) (sym same) opens;
      old = old_of_all 0 (file ∷ files);
      sound = λ c none. absurd (no_element c none);
      rise = λ a b none. absurd (no_element a none);
      base_is = tt;
      safe = λ u none. absurd (no_element u none);
    }
life_holds state (then before after life step) = step_holds before after step (life_holds before life)

-- ---- the law

pub life_has_store : (acked : List Update) (logs : List (LogOf (List Logged))) (left parts : List (List ℕ)) → Life (down acked logs left parts)
    → (pairs : List Pair) × IsStoreOf left parts pairs
life_has_store acked logs left parts life =
    let is : IsDown acked logs left parts = life_holds (down acked logs left parts) life in
    store_of left parts is.facts is.found.no_gap

pub life_store : (acked : List Update) (logs : List (LogOf (List Logged))) (left parts : List (List ℕ)) (pairs : List Pair) → Life (down acked logs left parts)
    → (store : IsStoreOf left parts pairs) → IsWalk (survivors store.basis.facts.cutoff None (history_of logs)) pairs
life_store acked logs left parts pairs life store =
    let is : IsDown acked logs left parts = life_holds (down acked logs left parts) life in
    let facts = store.basis.facts in
    walk_of_history acked logs facts.readings facts.known facts.cutoff facts.chosen pairs (found_by acked logs left parts is facts) facts.is_chosen store.walk

pub life_keeps : (acked : List Update) (logs : List (LogOf (List Logged))) (left parts : List (List ℕ)) (pairs : List Pair) → Life (down acked logs left parts)
    → (store : IsStoreOf left parts pairs) → (u : Update) → Contains acked u → Contains (survivors store.basis.facts.cutoff None (history_of logs)) u
life_keeps acked logs left parts pairs life store u among =
    let is : IsDown acked logs left parts = life_holds (down acked logs left parts) life in
    let safe = (found_by acked logs left parts is store.basis.facts).safe u among in
    in_history store.basis.facts.cutoff (history_of logs) u safe.0 safe.1

-- the file that replaces what was left
abbrev resumed_as : ℕ → LogReading → OpenFile
resumed_as cutoff reading =
    record { head = (resumed cutoff reading).head; records = (resumed cutoff reading).records; synced = log_bytes (resumed cutoff reading).head (resumed cutoff reading).records }

-- the logs after a resume
pub record AreAfter (cutoff : ℕ) (logs : List (LogOf (List Logged))) (left : List (List ℕ)) : Type 0 where
  pub after : List (LogOf OpenFile)
  pub places : AllZip (IsStill (λ (records : List Logged) (file : OpenFile). Unit {0})) logs after
  pub resumed : AllZip (IsResumedAs cutoff) left (those_there after)

all_after : (R : List Logged → List Logged → Type 0) (cutoff : ℕ) (logs : List (LogOf (List Logged))) (left : List (List ℕ)) (readings : List LogReading) → AreReadings left readings
    → AllZip R (records_of readings) (those_there logs) → AreAfter cutoff logs left
all_after R cutoff [] [] [] read agree = record { after = []; places = tt; resumed = tt }
all_after R cutoff [] [] (r ∷ rs) read agree = absurd read
all_after R cutoff [] (l ∷ ls) [] read agree = absurd read
all_after R cutoff [] (l ∷ ls) (r ∷ rs) read agree = absurd agree
all_after R cutoff (deleted ts ∷ logs) left readings read agree =
    let rest = all_after R cutoff logs left readings read agree in
    record { after = deleted ts ∷ rest.after; places = (refl, rest.places); resumed = rest.resumed }
all_after R cutoff (there ts ∷ logs) [] [] read agree = absurd agree
all_after R cutoff (there ts ∷ logs) [] (r ∷ rs) read agree = absurd read
all_after R cutoff (there ts ∷ logs) (l ∷ ls) [] read agree = absurd read
all_after R cutoff (there ts ∷ logs) (l ∷ ls) (r ∷ rs) read agree =
    let rest = all_after R cutoff logs ls rs read.1 agree.1 in record {
      after = there (resumed_as cutoff r) ∷ rest.after;
      places = (tt, rest.places);
      resumed = (record { reading = r; is_reading = read.0; replaces = refl; synced = refl }, rest.resumed);
    }

pub life_after : (acked : List Update) (logs : List (LogOf (List Logged))) (left parts : List (List ℕ)) → Life (down acked logs left parts) → (facts : Facts left parts)
    → AreAfter facts.cutoff logs left
life_after acked logs left parts life facts =
    let is : IsDown acked logs left parts = life_holds (down acked logs left parts) life in
    all_after (AgreeBelow facts.cutoff) facts.cutoff logs left facts.readings facts.read (found_by acked logs left parts is facts).agree

pub life_afresh : (acked : List Update) (before : List (LogOf (List Logged))) (left parts : List (List ℕ)) (facts : Facts left parts) (file : OpenFile)
    → ((r : Logged) → Contains file.records r → is_mark r ≡ true) → Life (down acked before left parts)
    → (u : Update) → Contains (updates_in (map (left_behind facts.cutoff) before ++ there file ∷ [])) u ↔ Contains (log_updates (history_of before)) u × (u.timestamp < facts.cutoff)
life_afresh acked before left parts facts file marks life =
    let is : IsDown acked before left parts = life_holds (down acked before left parts) life in
    afresh_updates acked before left parts facts file marks (found_by acked before left parts is facts)

-- the updates after a resume are those that were written below the cutoff
pub life_resumes : (acked : List Update) (before : List (LogOf (List Logged))) (left parts : List (List ℕ)) (after : List (LogOf OpenFile)) (facts : Facts left parts)
    → Life (down acked before left parts) → AllZip (IsStill (λ records file. Unit {0})) before after → AllZip (IsResumedAs facts.cutoff) left (those_there after)
    → (u : Update) → Contains (updates_in after) u ↔ Contains (log_updates (history_of before)) u × (u.timestamp < facts.cutoff)
life_resumes acked before left parts after facts life places are =
    let is : IsDown acked before left parts = life_holds (down acked before left parts) life in
    resumed_updates acked before left parts after facts places (zip_resumed left parts after facts are) (found_by acked before left parts is facts)

pub life_goes_on : (acked : List Update) (logs : List (LogOf (List Logged))) (left parts : List (List ℕ)) (pairs : List Pair) → Life (down acked logs left parts)
    → (store : IsStoreOf left parts pairs) → (after : List (LogOf OpenFile)) × Life (running acked after (only store.basis.facts.chosen))
    × ((u : Update) → Contains (updates_in after) u ↔ Contains (survivors store.basis.facts.cutoff None (history_of logs)) u)
life_goes_on acked logs left parts pairs life store =
    let facts = store.basis.facts in
    let all = life_after acked logs left parts life facts in
    let updates = life_resumes acked logs left parts all.after facts life all.places all.resumed in (
      all.after,
      then (down acked logs left parts) (running acked all.after (only facts.chosen)) life (resume acked logs left parts all.after facts all.places all.resumed),
      λ u. (
        λ at. let both = (updates u).0 at in in_history facts.cutoff (history_of logs) u both.0 both.1,
        λ at. (updates u).1 (of_history facts.cutoff (history_of logs) u at),
      ),
    )
