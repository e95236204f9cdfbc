-- What recovery finds after a whole resume and further records.
use Rattle.std.proofs.Common.{◌≡◌, ◌⊎◌, ◌↔◌, inl, inr, ℕ, suc, ◌^◌, ◌<◌, ◌≤◌, Bool, true, false, true≢false, Option, Some, None, List, [], ◌∷◌, ◌++◌, drop, map, filter, Contains, refl, sym, ap, ◌∙◌, subst, append_assoc, arith}
use Rattle.std.specs.Prelude.{nat_lt, IfSome}
use Rattle.std.specs.List.{AllZip, AllByRecursion, flat_map}
use Rattle.std.proofs.lemmas.Bool.{cases_lt, ltb-true}
use Rattle.std.proofs.lemmas.List.{append-nil}
use Rattle.std.proofs.lemmas.List.Elements.{filter-append, Contains-append_left, Contains-append_right, Contains-append_cases, All-contains}
use Rattle.mt_words.specs.declared.record.Change.{Change}
use Rattle.mt_words.specs.declared.update.Origin.{Origin}
use Rattle.mt_words.specs.declared.update.Origin.TheVariants as origins
use Rattle.mt_words.specs.declared.update.Update.{Update}
use Rattle.mt_words.specs.declared.limits.Limits.{Limits}
use Rattle.mt_words.specs.Limits.{limits_of}
use Rattle.mt_words.specs.Changes.{Logged, is_mark}
use Rattle.mt_words.specs.Updates.{update_at, update_by, update_of, updates_from}
use Rattle.mt_words.specs.Walks.{Pair}
use Rattle.mt_words.proofs.Elements.{no_element, head_or_tail, head_in, tail_in}
use Rattle.mt_record.specs.Logs.{AreRecords, LogReading, IsReading, times_of}
use Rattle.mt_record.proofs.Records.{latest_push}
use Rattle.mt_record.proofs.OneReading.{one_reading_of}
use Rattle.mt_scan.specs.PartScans.{KnownPart}
use Rattle.mt_scan.specs.Cutoff.{files_of, HasLast}
use Rattle.mt_scan.specs.Choice.{CheckpointReading, IsValid, IsNoBetter, IsChosenOf}
use Rattle.mt_replay.specs.declared.window.Window.{Window}
use Rattle.mt_replay.specs.Survivors.{all_updates, log_updates, is_within, in_window, log_survivors}
use Rattle.mt_replay.proofs.Members.{of_each, all_from, in_map, in_flat_map, of_filter, in_filter}
use Rattle.mt_scan.specs.Segments.{IsGap}
use Rattle.mt_recover.specs.Recovery.{AreReadings, Facts, begin_of, entry_updates, survivors, records_of, IsStoreOf}
use Rattle.mt_recover.proofs.OneVerdict.{same_facts}
use Rattle.mt_words.specs.Built.{mark_of}
use Rattle.mt_record.specs.Resuming.{below, marks_of, resumed}
use Rattle.mt_laws.specs.Resuming.{IsReplaced, IsResume, IsContinued, IsUpdateWithin, GoesOnFrom}
use Rattle.mt_laws.proofs.Lost.{behind_latest}
use Rattle.mt_laws.proofs.Windows.{within, not_early, not_late}
use Rattle.mt_laws.proofs.Agreeing.{AgreeBelow, agreeing_survive}
use Rattle.mt_laws.proofs.Resumed.{time_of, all_late, only_marks, below_resumed, replaced_reading}
use Rattle.mt_laws.proofs.Paired.{partner_of, zip_weaker, zip_map, zip_through, zip_back}
use Rattle.mt_laws.proofs.ResumedLogs.{ClaimsNoMore, gaps_stay}
use Rattle.mt_laws.proofs.ResumedStores.{cutoff_fits}
use Rattle.mt_laws.proofs.SomeCutoff.{own_file}

-- ---- one log

-- what follows the mark of a resumed log is at or past the cutoff
new_late : (limits : Limits) (cutoff : ℕ) (rs new : List Logged) → AreRecords limits 0 ((below cutoff rs ++ marks_of cutoff rs) ++ new)
    → AllByRecursion (λ (r : Logged). cutoff ≤ r.timestamp) new
new_late limits cutoff rs new are =
    let IsLate = λ (r : Logged). cutoff ≤ r.timestamp in
    let front = below cutoff rs ++ mark_of cutoff ∷ [] in
    let end = drop 1 (marks_of cutoff rs) in
    let apart : (below cutoff rs ++ marks_of cutoff rs) ++ new ≡ front ++ (end ++ new) =
    append_assoc (below cutoff rs) (marks_of cutoff rs) new ∙ sym (append_assoc (below cutoff rs) (mark_of cutoff ∷ []) (end ++ new)) in
    let late = subst (λ (time : ℕ). AllByRecursion (λ (r : Logged). time ≤ r.timestamp) (end ++ new)) (latest_push 0 (below cutoff rs) (mark_of cutoff)) (behind_latest limits 0 front (end ++ new) (subst (AreRecords limits 0) apart are)) in
    all_from IsLate new (λ r at. of_each IsLate (end ++ new) r late (Contains-append_right end new r at))

-- the log goes on from what it was: the same segment, the same records below the cutoff, and a mark at it
record LogGoesOn (cutoff : ℕ) (log now : LogReading) : Type 0 where
  claims : ClaimsNoMore log now
  agrees : AgreeBelow cutoff log.records now.records
  reaches : Contains (times_of now) cutoff

continued : (cutoff : ℕ) (bytes after : List ℕ) (log : LogReading) (new : List Logged) (torn : Bool) → cutoff < 2 ^ 64 → IsReading bytes log
    → IsReading after (record (resumed cutoff log) { records = (resumed cutoff log).records ++ new; torn = torn }) → LogGoesOn cutoff log (record (resumed cutoff log) { records = (resumed cutoff log).records ++ new; torn = torn })
continued cutoff bytes after log new torn fits is is_after =
    let limits = limits_of log.head.format in
    let front = (resumed cutoff log).records in
    let mark = Contains-append_left front new (mark_of cutoff) (Contains-append_right (below cutoff log.records) (marks_of cutoff log.records) (mark_of cutoff) (head_in (mark_of cutoff) _)) in
    let late = new_late limits cutoff log.records new is_after.is_log.lawful in
    let same = filter-append (λ (r : Logged). nat_lt r.timestamp cutoff) front new ∙ (λ i. below_resumed cutoff log.records i ++ all_late cutoff new late i) ∙ append-nil (below cutoff log.records) in
    record {
      claims = record { segment = refl; from = omega arith };
      agrees = record { rise = (limits, is.is_log.lawful); others_rise = (limits, is_after.is_log.lawful); same = sym same };
      reaches = tail_in (resumed cutoff log).head.from cutoff (map time_of (front ++ new)) (in_map time_of (front ++ new) (mark_of cutoff) mark);
    }

-- the bytes of a log, what replaced it, and what came of that
abbrev Follows : ℕ → LogReading → LogReading → Type 0
Follows cutoff log now = (after : List ℕ) × ((between : List ℕ) × ((before : List ℕ) × IsReading before log × IsReplaced cutoff before between) × IsContinued between after) × IsReading after now

one_goes_on : (cutoff : ℕ) → cutoff < 2 ^ 64 → (log now : LogReading) → Follows cutoff log now → LogGoesOn cutoff log now
one_goes_on cutoff fits log now (after, (between, (before, is, to), on), is_now) =
    let new = replaced_reading cutoff before between log is to in
    let same : on.log ≡ resumed cutoff log = one_reading_of between on.log (resumed cutoff log) on.is_reading new in
    let made : record on.log { records = on.log.records ++ on.new; torn = on.torn } ≡ now = one_reading_of after _ now on.is_after is_now in
    let goes = ap (λ (l : LogReading). record l { records = l.records ++ on.new; torn = on.torn }) (sym same) ∙ made in
    subst (LogGoesOn cutoff log) goes (continued cutoff before after log on.new on.torn fits is (subst (IsReading after) (sym goes) is_now))

all_go_on : (cutoff : ℕ) (logs between later : List (List ℕ)) (readings nows : List LogReading) → cutoff < 2 ^ 64 → AreReadings logs readings
    → AllZip (IsReplaced cutoff) logs between → AllZip IsContinued between later → AreReadings later nows → AllZip (LogGoesOn cutoff) readings nows
all_go_on cutoff logs between later readings nows fits read to on read_now =
    zip_weaker (Follows cutoff) (LogGoesOn cutoff) readings nows (one_goes_on cutoff fits)
    (zip_through _ IsReading readings later nows (zip_through _ IsContinued readings between later (zip_back IsReading (IsReplaced cutoff) logs readings between read to) on) read_now)

-- ---- all logs

reach : (cutoff : ℕ) (logs : List LogReading) (last : ℕ) → ((log : LogReading) → Contains logs log → Contains (times_of log) cutoff) → HasLast logs last
    → cutoff ≤ last
reach cutoff logs last each has =
    All-contains (λ (time : ℕ). time ≤ last) (flat_map times_of (files_of has.log.head.segment has.log logs)) cutoff has.is_last.1
    (in_flat_map times_of (files_of has.log.head.segment has.log logs) has.log cutoff (own_file logs has.log has.stands) (each has.log has.stands))

-- the chosen checkpoint stays chosen if it is the only valid one
chosen_still : (before known : List KnownPart) (cutoff higher : ℕ) (chosen : Option CheckpointReading) → cutoff ≤ higher → IsChosenOf before cutoff chosen
    → IfSome chosen (IsValid known) → ((checkpoint : CheckpointReading) → IsValid known checkpoint → chosen ≡ Some checkpoint) → IsChosenOf known higher chosen
chosen_still before known cutoff higher None rises is stays no_other = λ other may. let same : None ≡ Some other = no_other other may.valid in absurd cc
chosen_still before known cutoff higher (Some checkpoint) rises is stays no_other =
    let ends : checkpoint.end < cutoff = is.0.ends_below in (
      record { valid = stays; ends_below = omega (arith, ends, rises) },
      λ other may.
          let found : Some checkpoint ≡ Some other = no_other other may.valid in
          let same : checkpoint ≡ other = cc in
          subst (λ (x : CheckpointReading). IsNoBetter x checkpoint) same (inr (refl, omega arith)),
    )

-- a chosen checkpoint begins below the cutoff
pub begins_below : (known : List KnownPart) (cutoff : ℕ) (chosen : Option CheckpointReading) → IsChosenOf known cutoff chosen → begin_of chosen ≤ cutoff
begins_below known cutoff None is = omega arith
begins_below known cutoff (Some checkpoint) is = omega (arith, is.0.valid.make_up.begins, is.0.ends_below)

-- ---- the survivors

-- an update of logs that survives up to the higher cutoff survives up to the lower one, or is between them
survive_higher : (low high : ℕ) (chosen : Option CheckpointReading) (logs nows : List LogReading) → low ≤ high → begin_of chosen ≤ low
    → AllZip (AgreeBelow low) (records_of logs) (records_of nows) → (u : Update)
    → Contains (survivors high chosen (records_of nows)) u ↔ Contains (survivors low chosen (records_of logs)) u ⊎ IsUpdateWithin low high nows u
survive_higher low high chosen logs nows rises begins agree u = (to, from)
  where
    all : List Update
    all = log_updates (records_of nows)

    wide : Window
    wide = record { begin = begin_of chosen; cutoff = high }

    narrow : Window
    narrow = record { begin = begin_of chosen; cutoff = low }

    entries : List Update
    entries = entry_updates chosen

    old : List Update
    old = log_survivors narrow (records_of logs)

    same : old ≡ filter (in_window narrow) all
    same = agreeing_survive narrow 0 (records_of logs) (records_of nows) agree

    Result : Type 0
    Result = Contains (old ++ entries) u ⊎ IsUpdateWithin low high nows u

    of_log : Contains all u → is_within wide u.timestamp ≡ true → Result
    of_log at is = elim (cases_lt u.timestamp low) as (λ _. Result) [
      | inl early ↦ inl (Contains-append_left old entries u (subst (λ (us : List Update). Contains us u) (sym same) (in_filter (in_window narrow) all u (within narrow u.timestamp (not_early wide u.timestamp is) early) at)))
      | inr late ↦ inr (at, late, not_late wide u.timestamp is)
    ]

    to : Contains (log_survivors wide (records_of nows) ++ entries) u → Result
    to at = elim (Contains-append_cases (log_survivors wide (records_of nows)) entries u at) as (λ _. Result) [
      | inl log ↦ let found = of_filter (in_window wide) all u log in of_log found.0 found.1
      | inr entry ↦ inl (Contains-append_right old entries u entry)
    ]

    log_in : Contains all u → begin_of chosen ≤ u.timestamp → u.timestamp < high → Contains (log_survivors wide (records_of nows) ++ entries) u
    log_in at late early = Contains-append_left (log_survivors wide (records_of nows)) entries u (in_filter (in_window wide) all u (within wide u.timestamp late early) at)

    from : Result → Contains (log_survivors wide (records_of nows) ++ entries) u
    from (inl before) = elim (Contains-append_cases old entries u before) as (λ _. Contains (log_survivors wide (records_of nows) ++ entries) u) [
      | inl log ↦
          let found = of_filter (in_window narrow) all u (subst (λ (us : List Update). Contains us u) same log) in
          let early : u.timestamp < low = not_late narrow u.timestamp found.1 in
          log_in found.0 (not_early narrow u.timestamp found.1) (omega (arith, early, rises))
      | inr entry ↦ Contains-append_right (log_survivors wide (records_of nows)) entries u entry
    ]
    from (inr new) = let late : low ≤ u.timestamp = new.1 in log_in new.0 (omega (arith, begins, late)) new.2

-- ---- the law

pub goes_on : (logs parts between later left : List (List ℕ)) (pairs : List Pair) (store : IsStoreOf logs parts pairs) → IsResume store.basis.facts between left
    → AllZip IsContinued between later → (now : Facts later left) → GoesOnFrom store.basis.facts now
goes_on logs parts between later left pairs store resume on now =
    let facts = store.basis.facts in
    let go = all_go_on facts.cutoff logs between later facts.readings now.readings (cutoff_fits logs facts.readings facts.cutoff facts.read facts.is_cutoff) facts.read resume.each on now.read in
    let rises = reach facts.cutoff now.readings now.cutoff (λ log at. (partner_of (LogGoesOn facts.cutoff) facts.readings now.readings log go at).2.reaches) now.is_cutoff.has in
    let is_chosen = chosen_still facts.known resume.known facts.cutoff now.cutoff facts.chosen rises facts.is_chosen resume.stays resume.no_other in
    let chosen : now.chosen ≡ facts.chosen = (same_facts later left now (record now { known = resume.known; are_known = resume.are_known; chosen = facts.chosen; is_chosen = is_chosen })).3 in
    let none = gaps_stay (begin_of facts.chosen) facts.readings now.readings (zip_weaker (LogGoesOn facts.cutoff) ClaimsNoMore facts.readings now.readings (λ x y r. r.claims) go) store.basis.no_gap in
    let survive = survive_higher facts.cutoff now.cutoff facts.chosen facts.readings now.readings rises (begins_below facts.known facts.cutoff facts.chosen facts.is_chosen)
    (zip_map (AgreeBelow facts.cutoff) (λ (log : LogReading). log.records) (λ (log : LogReading). log.records) facts.readings now.readings
    (zip_weaker (LogGoesOn facts.cutoff) (λ log later. AgreeBelow facts.cutoff log.records later.records) facts.readings now.readings (λ x y r. r.agrees) go)) in record {
      cutoff = rises;
      chosen = chosen;
      no_gap = subst (λ (c : Option CheckpointReading). (i : ℕ) → IsGap (begin_of c) now.readings i → ⊥) (sym chosen) none;
      survivors = subst (λ (c : Option CheckpointReading). (u : Update) → Contains (survivors now.cutoff c (records_of now.readings)) u
          ↔ Contains (survivors facts.cutoff facts.chosen (records_of facts.readings)) u ⊎ IsUpdateWithin facts.cutoff now.cutoff now.readings u) (sym chosen) survive;
    }

-- ---- what was dropped

-- an update is of a record with its timestamp, which is no mark
abbrev pub IsOfRecord : Update → Logged → Type 0
IsOfRecord u r = (r.timestamp ≡ u.timestamp) × (is_mark r ≡ false)

of_change : (origin : Origin) (time : ℕ) (change : Option Change) (u : Update) → Contains (update_by origin time change) u → IsOfRecord u (record { timestamp = time; change = change })
of_change origin time None u at = absurd (no_element u at)
of_change origin time (Some change) u at = elim (head_or_tail (update_at origin time change) u [] at) as (λ _. IsOfRecord u (record { timestamp = time; change = Some change })) [
  | inl e ↦ (ap (λ (x : Update). x.timestamp) e, refl)
  | inr none ↦ absurd (no_element u none)
]

pub of_record : (log nth : ℕ) (rs : List Logged) (u : Update) → Contains (updates_from log nth rs) u → (r : Logged) × Contains rs r × IsOfRecord u r
of_record log nth [] u at = absurd (no_element u at)
of_record log nth (r ∷ rs) u at = elim (Contains-append_cases (update_of log nth r) (updates_from log (suc nth) rs) u at) as (λ _. (x : Logged) × Contains (r ∷ rs) x × IsOfRecord u x) [
  | inl here ↦ (r, head_in r rs, of_change (origins.Log log nth) r.timestamp r.change u here)
  | inr later ↦ let rest = of_record log (suc nth) rs u later in (rest.0, tail_in r rest.0 rs rest.1, rest.2)
]

of_log_record : (log : ℕ) (logs : List LogReading) (u : Update) → Contains (all_updates log (records_of logs)) u
    → (reading : LogReading) × Contains logs reading × ((r : Logged) × Contains reading.records r × IsOfRecord u r)
of_log_record log [] u at = absurd (no_element u at)
of_log_record log (l ∷ ls) u at =
    elim (Contains-append_cases (updates_from log 0 l.records) (all_updates (suc log) (records_of ls)) u at) as (λ _. (reading : LogReading) × Contains (l ∷ ls) reading × ((r : Logged) × Contains reading.records r × IsOfRecord u r)) [
      | inl here ↦ (l, head_in l ls, of_record log 0 l.records u here)
      | inr later ↦ let rest = of_log_record (suc log) ls u later in (rest.0, tail_in l rest.0 ls rest.1, rest.2)
    ]

-- the records of a resumed log that are no marks are below the cutoff
pub no_late_record : (cutoff : ℕ) (rs : List Logged) (r : Logged) → Contains (below cutoff rs ++ marks_of cutoff rs) r → is_mark r ≡ false → r.timestamp < cutoff
no_late_record cutoff rs r at change = elim (Contains-append_cases (below cutoff rs) (marks_of cutoff rs) r at) as (λ _. r.timestamp < cutoff) [
  | inl early ↦ ltb-true r.timestamp cutoff (of_filter (λ (x : Logged). nat_lt x.timestamp cutoff) rs r early).1
  | inr mark ↦ absurd (true≢false (sym (only_marks cutoff rs r mark) ∙ change))
]

pub none_comes_back : (logs parts between left : List (List ℕ)) (readings : List LogReading) (pairs : List Pair) (store : IsStoreOf logs parts pairs)
    → IsResume store.basis.facts between left → AreReadings between readings → (u : Update) → Contains (log_updates (records_of readings)) u
    → u.timestamp < store.basis.facts.cutoff
none_comes_back logs parts between left readings pairs store resume read u at =
    let facts = store.basis.facts in
    let found = of_log_record 0 readings u at in
    let bytes = partner_of IsReading between readings found.0 read found.1 in
    let before = partner_of (IsReplaced facts.cutoff) logs between bytes.0 resume.each bytes.1 in
    let to = before.2 in
    let same : found.0 ≡ resumed facts.cutoff to.log = one_reading_of bytes.0 found.0 (resumed facts.cutoff to.log) bytes.2 to.says in
    let r = found.2.0 in
    let early = no_late_record facts.cutoff to.log.records r (subst (λ (l : LogReading). Contains l.records r) same found.2.1) found.2.2.1 in
    subst (λ (time : ℕ). time < facts.cutoff) found.2.2.0 early
