-- What is below the cutoff after a crash of a server with one clock has versions below it, so a fresh start from that goes on.
use Rattle.std.proofs.Common.{◌≡◌, inl, inr, ◌<◌, ◌≤◌, ℕ, suc, Option, Some, None, List, [], ◌∷◌, ◌++◌, map, Contains, refl, sym, ap, subst, arith}
use Rattle.std.specs.Prelude.{nat_le, nat_lt}
use Rattle.std.specs.List.{AllZip, filter}
use Rattle.std.proofs.lemmas.Bool.{lt-ltb, ltb-true, and_parts}
use Rattle.std.proofs.lemmas.List.Elements.{Contains-append_cases, Contains-append_left, Contains-append_right}
use Rattle.mt_words.specs.declared.record.Change.{Change}
use Rattle.mt_words.specs.declared.update.Origin.{Origin}
use Rattle.mt_words.specs.declared.update.Origin.TheVariants as origins
use Rattle.mt_words.specs.declared.update.Update.{Update}
use Rattle.mt_words.specs.Changes.{Logged}
use Rattle.mt_words.specs.Walks.{Pair}
use Rattle.mt_words.specs.Built.{entry_of}
use Rattle.mt_words.specs.Updates.{update_at, update_by, update_of, updates_from}
use Rattle.mt_words.proofs.Elements.{no_element, head_or_tail, head_in, tail_in}
use Rattle.mt_record.specs.Logs.{LogReading}
use Rattle.mt_checkpoint.specs.Checkpoints.{entries_with}
use Rattle.mt_scan.specs.PartScans.{KnownPart}
use Rattle.mt_scan.specs.Choice.{CheckpointReading, IsValid, IsChosenOf}
use Rattle.mt_replay.specs.declared.window.Window.{Window}
use Rattle.mt_replay.specs.Survivors.{all_updates, log_updates, in_window, log_survivors}
use Rattle.mt_replay.proofs.Members.{of_map, of_filter, in_filter}
use Rattle.mt_recover.specs.Recovery.{AreKnown, Facts, begin_of, entry_updates, survivors, records_of}
use Rattle.mt_recover.specs.Report.{logged_updates, is_below, versions, Outcome, IsRecoveredOf}
use Rattle.mt_recover.proofs.OneVerdict.{same_facts}
use Rattle.mt_writer.specs.Files.{OpenFile}
use Rattle.mt_laws.specs.Lives.{LogOf, there, deleted, those_there, as_written, records_in, history_of, IsFreshStart, down, stop, Life, then}
use Rattle.mt_laws.specs.Writing.{Slot, coming, writing, sealed, going, gone, log_of, logs_of, IsNameLeft, Server, Stands, IsCrashOf, AreStops, none, more, IsWithin, Called}
use Rattle.mt_laws.proofs.Agreeing.{AgreeBelow}
use Rattle.mt_laws.proofs.Living.{IsDown, life_holds}
use Rattle.mt_laws.proofs.Paired.{partner}
use Rattle.mt_laws.proofs.ServerCrashes.{known_is, crash_of, stands_of}

-- ---- records and updates

-- a record with this change, of which the update is
record IsOf (u : Update) (rs : List Logged) : Type 0 where
  at : Logged
  change : Change
  stands : Contains rs at
  is : at.change ≡ Some change
  time : u.timestamp ≡ at.timestamp
  version : u.stamp.version ≡ change.version

of_one : (origin : Origin) (r : Logged) (rs : List Logged) (o : Option Change) (u : Update) → r.change ≡ o → Contains rs r → Contains (update_by origin r.timestamp o) u → IsOf u rs
of_one origin r rs None u e stands at = absurd (no_element u at)
of_one origin r rs (Some change) u e stands at = elim (head_or_tail (update_at origin r.timestamp change) u [] at) as (λ _. IsOf u rs) [
  | inl same ↦ record {
    at = r;
    change = change;
    stands = stands;
    is = e;
    time = sym (ap (λ (x : Update). x.timestamp) same);
    version = sym (ap (λ (x : Update). x.stamp.version) same);
  }
  | inr later ↦ absurd (no_element u later)
]

of_records : (log nth : ℕ) (rs : List Logged) (u : Update) → Contains (updates_from log nth rs) u → IsOf u rs
of_records log nth [] u at = absurd (no_element u at)
of_records log nth (r ∷ rs) u at = elim (Contains-append_cases (update_of log nth r) (updates_from log (suc nth) rs) u at) as (λ _. IsOf u (r ∷ rs)) [
  | inl here ↦ of_one (origins.Log log nth) r (r ∷ rs) r.change u refl (head_in r rs) here
  | inr later ↦ let is = of_records log (suc nth) rs u later in
      record { at = is.at; change = is.change; stands = tail_in r is.at rs is.stands; is = is.is; time = is.time; version = is.version }
]

of_logs : (log : ℕ) (logs : List (List Logged)) (u : Update) → Contains (all_updates log logs) u → (rs : List Logged) × Contains logs rs × IsOf u rs
of_logs log [] u at = absurd (no_element u at)
of_logs log (rs ∷ logs) u at = elim (Contains-append_cases (updates_from log 0 rs) (all_updates (suc log) logs) u at) as (λ _. (ts : List Logged) × Contains (rs ∷ logs) ts × IsOf u ts) [
  | inl here ↦ (rs, head_in rs logs, of_records log 0 rs u here)
  | inr later ↦ let is = of_logs (suc log) logs u later in (is.0, tail_in rs is.0 logs is.1, is.2)
]

-- each record with a change has an update
in_records : (log nth : ℕ) (rs : List Logged) (r : Logged) (change : Change) → Contains rs r → r.change ≡ Some change
    → (origin : Origin) × Contains (updates_from log nth rs) (update_at origin r.timestamp change)
in_records log nth [] r change at is = absurd (no_element r at)
in_records log nth (x ∷ rs) r change at is = elim (head_or_tail x r rs at) as (λ _. (origin : Origin) × Contains (update_of log nth x ++ updates_from log (suc nth) rs) (update_at origin r.timestamp change)) [
  | inl e ↦
      let here : Contains (update_by (origins.Log log nth) r.timestamp r.change) (update_at (origins.Log log nth) r.timestamp change) =
      subst (λ (o : Option Change). Contains (update_by (origins.Log log nth) r.timestamp o) (update_at (origins.Log log nth) r.timestamp change)) (sym is)
      (head_in (update_at (origins.Log log nth) r.timestamp change) []) in (
        origins.Log log nth,
        Contains-append_left (update_of log nth x) (updates_from log (suc nth) rs) (update_at (origins.Log log nth) r.timestamp change)
            (subst (λ (y : Logged). Contains (update_of log nth y) (update_at (origins.Log log nth) r.timestamp change)) (sym e) here),
      )
  | inr later ↦
      let rest = in_records log (suc nth) rs r change later is in
      (rest.0, Contains-append_right (update_of log nth x) (updates_from log (suc nth) rs) (update_at rest.0 r.timestamp change) rest.1)
]

in_logs : (log : ℕ) (logs : List (List Logged)) (rs : List Logged) (r : Logged) (change : Change) → Contains logs rs → Contains rs r → r.change ≡ Some change
    → (origin : Origin) × Contains (all_updates log logs) (update_at origin r.timestamp change)
in_logs log [] rs r change among at is = absurd (no_element rs among)
in_logs log (ts ∷ logs) rs r change among at is = elim (head_or_tail ts rs logs among) as (λ _. (origin : Origin) × Contains (updates_from log 0 ts ++ all_updates (suc log) logs) (update_at origin r.timestamp change)) [
  | inl e ↦
      let here = in_records log 0 ts r change (subst (λ (x : List Logged). Contains x r) (sym e) at) is in
      (here.0, Contains-append_left (updates_from log 0 ts) (all_updates (suc log) logs) (update_at here.0 r.timestamp change) here.1)
  | inr later ↦
      let rest = in_logs (suc log) logs rs r change later at is in
      (rest.0, Contains-append_right (updates_from log 0 ts) (all_updates (suc log) logs) (update_at rest.0 r.timestamp change) rest.1)
]

-- ---- the history

in_history : (logs : List (LogOf (List Logged))) (rs : List Logged) → Contains (those_there logs) rs → Contains (history_of logs) rs
in_history [] rs at = absurd (no_element rs at)
in_history (there ts ∷ logs) rs at = elim (head_or_tail ts rs (those_there logs) at) as (λ _. Contains (ts ∷ history_of logs) rs) [
  | inl e ↦ subst (Contains (ts ∷ history_of logs)) e (head_in ts (history_of logs))
  | inr later ↦ tail_in ts rs (history_of logs) (in_history logs rs later)
]
in_history (deleted ts ∷ logs) rs at = tail_in ts rs (history_of logs) (in_history logs rs at)

one_name : (slot : Slot) (name : LogOf OpenFile) → IsNameLeft slot name → records_in (as_written name) ≡ records_in (as_written (log_of slot))
one_name (coming j) name (inl e) = ap (λ (n : LogOf OpenFile). records_in (as_written n)) e
one_name (coming j) name (inr e) = ap (λ (n : LogOf OpenFile). records_in (as_written n)) e
one_name (writing j) name e = ap (λ (n : LogOf OpenFile). records_in (as_written n)) e
one_name (sealed j) name e = ap (λ (n : LogOf OpenFile). records_in (as_written n)) e
one_name (going j) name (inl e) = ap (λ (n : LogOf OpenFile). records_in (as_written n)) e
one_name (going j) name (inr e) = ap (λ (n : LogOf OpenFile). records_in (as_written n)) e
one_name (gone rs) name e = ap (λ (n : LogOf OpenFile). records_in (as_written n)) e

-- the names that a crash leaves have the same history
same_history : (slots : List Slot) (names : List (LogOf OpenFile)) → AllZip IsNameLeft slots names → history_of (map as_written names) ≡ history_of (map as_written (logs_of slots))
same_history [] [] are = refl
same_history [] (n ∷ ns) are = absurd are
same_history (s ∷ ss) [] are = absurd are
same_history (s ∷ ss) (n ∷ ns) are =
    let first = one_name s n are.0 in
    let rest = same_history ss ns are.1 in
    λ i. first i ∷ rest i

-- ---- what survives

stopped_life : (acked : List Update) (logs : List (LogOf (List Logged))) (left parts now now_parts : List (List ℕ)) → AreStops left parts now now_parts
    → Life (down acked logs left parts) → Life (down acked logs now now_parts)
stopped_life acked logs left parts now now_parts (none same same_parts) life = life
stopped_life acked logs left parts now now_parts (more first first_parts next next_parts last last_parts facts way stops) life =
    stopped_life acked logs next next_parts now now_parts stops
    (then (down acked logs left parts) (down acked logs next next_parts) life (stop acked logs left parts next next_parts facts way))

was_valid : (left parts now now_parts : List (List ℕ)) (known : List KnownPart) (last : Facts now now_parts) (c : CheckpointReading) → AreStops left parts now now_parts
    → AreKnown parts known → IsValid last.known c → IsValid known c
was_valid left parts now now_parts known last c (none same same_parts) are valid = subst (λ (ks : List KnownPart). IsValid ks c) (known_is now now_parts last known are) valid
was_valid left parts now now_parts known last c (more first first_parts next next_parts end end_parts facts way stops) are valid =
    subst (λ (ks : List KnownPart). IsValid ks c) (known_is left parts facts known are)
    (way.checkpoints.none_new c (was_valid next next_parts now now_parts way.known last c stops way.are_known valid))

of_entries : (s : Server) (parts : List KnownPart) (cutoff : ℕ) (chosen : Option CheckpointReading) (u : Update) → Stands s → IsChosenOf parts cutoff chosen
    → ((c : CheckpointReading) → IsValid parts c → Contains s.checkpoints.written c) → Contains (entry_updates chosen) u → u.stamp.version < cutoff
of_entries s parts cutoff None u stands is written at = absurd (no_element u at)
of_entries s parts cutoff (Some c) u stands is written at =
    let entry = of_map (update_at origins.Checkpoint 0) c.entries u at in
    let within = (stands.written c (written c is.0.valid)).0 in
    let low : entry.0.version ≤ c.end = within.entries entry.0 entry.1 in
    let ends : c.end < cutoff = is.0.ends_below in
    let same : entry.0.version ≡ u.stamp.version = ap (λ (x : Update). x.stamp.version) entry.2 in
    omega (arith, low, ends, same)

-- after a crash, and any stops, each update of a log below the cutoff has a version below it
of_logs_below : (s : Server) (names : List (LogOf OpenFile)) (left parts now now_parts : List (List ℕ)) (facts : Facts now now_parts) → Called s
    → IsCrashOf s names left parts → AreStops left parts now now_parts → (u : Update) → Contains (logged_updates facts.readings) u → u.timestamp < facts.cutoff
    → u.stamp.version < facts.cutoff
of_logs_below s names left parts now now_parts facts so_far crash stops u at early = omega (arith, early, time, stamped, version)
  where
    logs : List (LogOf (List Logged))
    logs = map as_written names

    is_down : IsDown s.acked logs now now_parts
    is_down = life_holds (down s.acked logs now now_parts) (stopped_life s.acked logs left parts now now_parts stops (crash_of s names left parts so_far crash))

    agree : AllZip (AgreeBelow facts.cutoff) (records_of facts.readings) (those_there logs)
    agree =
        let same = same_facts now now_parts is_down.facts facts in
        subst (λ (c : ℕ). AllZip (AgreeBelow c) (records_of facts.readings) (those_there logs)) same.1
        (subst (λ (rs : List LogReading). AllZip (AgreeBelow is_down.facts.cutoff) (records_of rs) (those_there logs)) same.0 is_down.found.agree)

    of_it : (rs : List Logged) × Contains (records_of facts.readings) rs × IsOf u rs
    of_it = of_logs 0 (records_of facts.readings) u at

    r : Logged
    r = of_it.2.at

    time : u.timestamp ≡ r.timestamp
    time = of_it.2.time

    version : u.stamp.version ≡ of_it.2.change.version
    version = of_it.2.version

    stamped : of_it.2.change.version ≡ r.timestamp
    stamped =
        let other = partner (AgreeBelow facts.cutoff) (records_of facts.readings) (those_there logs) of_it.0 agree of_it.1 in
        let kept = in_filter (λ (x : Logged). nat_lt x.timestamp facts.cutoff) of_it.0 r (lt-ltb r.timestamp facts.cutoff (omega (arith, early, time))) of_it.2.stands in
        let there_too = of_filter (λ (x : Logged). nat_lt x.timestamp facts.cutoff) other.0 r (subst (λ (rs : List Logged). Contains rs r) other.2.same kept) in
        let written = in_logs 0 (history_of logs) other.0 r of_it.2.change (in_history logs other.0 other.1) there_too.0 of_it.2.is in
        let among = subst (λ (h : List (List Logged)). Contains (log_updates h) (update_at written.0 r.timestamp of_it.2.change)) (same_history s.slots names crash.each) written.1 in
        ((stands_of s so_far).stamped (update_at written.0 r.timestamp of_it.2.change) among).0

-- the same for all that counts below the cutoff, entries too
pub versions_are_below : (s : Server) (names : List (LogOf OpenFile)) (left parts now now_parts : List (List ℕ)) (facts : Facts now now_parts) → Called s
    → IsCrashOf s names left parts → AreStops left parts now now_parts → (u : Update)
    → Contains (filter (is_below facts.cutoff) (logged_updates facts.readings) ++ entry_updates facts.chosen) u → u.stamp.version < facts.cutoff
versions_are_below s names left parts now now_parts facts so_far crash stops u at =
    elim (Contains-append_cases (filter (is_below facts.cutoff) (logged_updates facts.readings)) (entry_updates facts.chosen) u at) as (λ _. u.stamp.version < facts.cutoff) [
      | inl of_log ↦
          let found = of_filter (is_below facts.cutoff) (logged_updates facts.readings) u of_log in
          of_logs_below s names left parts now now_parts facts so_far crash stops u found.0 (ltb-true u.timestamp facts.cutoff found.1)
      | inr of_entry ↦ of_entries s facts.known facts.cutoff facts.chosen u (stands_of s so_far) facts.is_chosen
          (λ c valid. crash.of_parts.no_other c (was_valid left parts now now_parts crash.of_parts.known facts c stops crash.of_parts.are_known valid)) of_entry
    ]

-- and so has each update that survives
pub survivors_are_below : (s : Server) (names : List (LogOf OpenFile)) (left parts now now_parts : List (List ℕ)) (facts : Facts now now_parts) → Called s
    → IsCrashOf s names left parts → AreStops left parts now now_parts → (u : Update) → Contains (survivors facts.cutoff facts.chosen (records_of facts.readings)) u
    → u.stamp.version < facts.cutoff
survivors_are_below s names left parts now now_parts facts so_far crash stops u at =
    let window : Window = record { begin = begin_of facts.chosen; cutoff = facts.cutoff } in
    let all = logged_updates facts.readings in
    let below = filter (is_below facts.cutoff) all in
    let entries = entry_updates facts.chosen in
    versions_are_below s names left parts now now_parts facts so_far crash stops u
    (elim (Contains-append_cases (log_survivors window (records_of facts.readings)) entries u at) as (λ _. Contains (below ++ entries) u) [
      | inl of_log ↦
          let found = of_filter (in_window window) all u of_log in
          Contains-append_left below entries u (in_filter (is_below facts.cutoff) all u (and_parts (nat_le window.begin u.timestamp) (nat_lt u.timestamp facts.cutoff) found.1).1 found.0)
      | inr of_entry ↦ Contains-append_right below entries u of_entry
    ])

-- the greatest of them is no greater than the cutoff
pub report_is_below : (s : Server) (names : List (LogOf OpenFile)) (left parts now now_parts : List (List ℕ)) (outcome : Outcome) → Called s
    → IsCrashOf s names left parts → AreStops left parts now now_parts → IsRecoveredOf now now_parts outcome → outcome.report.version_below_cutoff ≤ outcome.report.cutoff
report_is_below s names left parts now now_parts outcome so_far crash stops is =
    let facts = is.store.basis.facts in
    let updates = filter (is_below facts.cutoff) (logged_updates facts.readings) ++ entry_updates facts.chosen in
    let most = outcome.report.version_below_cutoff in
    elim (head_or_tail 0 most (versions updates) is.report.found.version_below_cutoff.0) as (λ _. most ≤ outcome.report.cutoff) [
      | inl nothing ↦ omega (arith, nothing)
      | inr some ↦
          let u = of_map (λ (u : Update). u.stamp.version) updates most some in
          let low = versions_are_below s names left parts now now_parts facts so_far crash stops u.0 u.1 in
          omega (arith, low, u.2, is.report.found.cutoff)
    ]

-- ---- a fresh start

of_version : (version : ℕ) (pairs : List Pair) (entry : Change) → Contains (entries_with version pairs) entry → version ≡ entry.version
of_version version pairs entry at = ap (λ (e : Change). e.version) (of_map (λ (pair : Pair). entry_of version pair.0 pair.1) pairs entry at).2

pub is_within : (left parts : List (List ℕ)) (facts : Facts left parts) (file : OpenFile) (new : CheckpointReading) (start : IsFreshStart facts file new)
    → start.version ≤ facts.cutoff → IsWithin new
is_within left parts facts file new start low =
    let begins : new.begin ≡ facts.cutoff = start.begins in
    let ends : new.end ≡ facts.cutoff = start.ends in record {
      begins = omega (arith, begins, ends);
      entries = λ entry at.
          let is = of_version start.version start.pairs entry (subst (λ (es : List Change). Contains es entry) start.entries at) in
          omega (arith, is, ends, low);
    }
