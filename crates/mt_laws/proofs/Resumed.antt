-- What replaces a log when it is resumed at a cutoff: which bytes are it, which times it has, and that resuming it again changes nothing.
use Rattle.std.proofs.Common.{◌≡◌, ◌⊎◌, inl, inr, ℕ, ◌^◌, ◌<◌, ◌≤◌, ltb, eqb, Bool, true, false, cond, min, List, [], ◌∷◌, ◌++◌, map, Contains, refl, sym, ap, ◌∙◌, subst, arith}
use Rattle.std.specs.Prelude.{◌&&◌, ◌||◌, ◌==◌, not, nat_lt}
use Rattle.std.specs.List.{AllByRecursion, list_any}
use Rattle.std.proofs.lemmas.Bool.{cases_Bool, cases_lt, lt-ltb, le-ltb, ltb-true, ltb-false, eqb-true, ne_eqb, both_ways, and_from, and_parts, and_right, or_cases, or_from, false≢true}
use Rattle.std.proofs.lemmas.List.{append-nil}
use Rattle.std.proofs.lemmas.List.Elements.{filter-append, All-contains, Contains-append_right, Contains-append_cases}
use Rattle.std.proofs.lemmas.List.Folds.{list_any-append}
use Rattle.mt_words.specs.declared.limits.Limits.{Limits}
use Rattle.mt_words.specs.Limits.{limits_of}
use Rattle.mt_words.specs.Changes.{Logged, is_mark}
use Rattle.mt_words.proofs.Elements.{no_element, head_or_tail, head_in, tail_in}
use Rattle.mt_record.specs.Opening.{text_head, joined, text_of, is_torn, Opens}
use Rattle.mt_record.specs.Logs.{AreRecords, log_bytes, LogReading, IsReading, times_of}
use Rattle.mt_record.specs.LogTexts.{IsLast}
use Rattle.mt_record.proofs.Opened.{whole_reading}
use Rattle.mt_record.proofs.OneReading.{one_reading_of}
use Rattle.mt_replay.proofs.Members.{of_map, in_map, of_filter}
use Rattle.mt_words.specs.Built.{mark_of}
use Rattle.mt_record.specs.Resuming.{greatest_timestamp, is_end, is_ended, below, marks_of, resumed, IsResumed, resumed_header, Replaces}
use Rattle.mt_writer.specs.Files.{HasHeader}
use Rattle.mt_laws.specs.Resuming.{IsReplaced}
use Rattle.mt_laws.proofs.CutLogs.{file_says, text_says}
use Rattle.mt_record.proofs.FileFeeds.{text_is_head}

-- ---- records below a timestamp

-- lawful records rise from any lower timestamp on
lower : (limits : Limits) (low less : ℕ) (rs : List Logged) → less ≤ low → AreRecords limits low rs → AreRecords limits less rs
lower limits low less [] most are = tt
lower limits low less (r ∷ rs) most are = let rises : low ≤ r.timestamp = are.1 in (are.0, omega (arith, most, rises), are.2)

-- lawful records that follow others
records_join : (limits : Limits) (low middle : ℕ) (rs others : List Logged) → AreRecords limits low rs → AllByRecursion (λ (r : Logged). r.timestamp ≤ middle) rs
    → low ≤ middle → AreRecords limits middle others → AreRecords limits low (rs ++ others)
records_join limits low middle [] others are most le too = lower limits middle low others le too
records_join limits low middle (r ∷ rs) others are most le too = (are.0, are.1, records_join limits r.timestamp middle rs others are.2 most.1 most.0 too)

-- the records below a timestamp are lawful, and none is above it
pub below_lawful : (limits : Limits) (cutoff low : ℕ) (rs : List Logged) → AreRecords limits low rs → AreRecords limits low (below cutoff rs)
below_lawful limits cutoff low [] are = tt
below_lawful limits cutoff low (r ∷ rs) are =
    let rest = below_lawful limits cutoff r.timestamp rs are.2 in
    elim (cases_Bool (ltb r.timestamp cutoff)) as (λ _. AreRecords limits low (below cutoff (r ∷ rs))) [
      | inl is ↦ rw is (are.0, are.1, rest)
      | inr not ↦ rw not (lower limits r.timestamp low (below cutoff rs) are.1 rest)
    ]

below_most : (cutoff : ℕ) (rs : List Logged) → AllByRecursion (λ (r : Logged). r.timestamp ≤ cutoff) (below cutoff rs)
below_most cutoff [] = tt
below_most cutoff (r ∷ rs) = elim (cases_Bool (ltb r.timestamp cutoff)) as (λ _. AllByRecursion (λ (r : Logged). r.timestamp ≤ cutoff) (below cutoff (r ∷ rs))) [
  | inl is ↦ let less : r.timestamp < cutoff = ltb-true r.timestamp cutoff is in rw is (omega (arith, less), below_most cutoff rs)
  | inr not ↦ rw not (below_most cutoff rs)
]

-- records from a timestamp on are not below it
none_below : (limits : Limits) (cutoff low : ℕ) (rs : List Logged) → cutoff ≤ low → AreRecords limits low rs
    → (below cutoff rs ≡ []) × AllByRecursion (λ (r : Logged). cutoff ≤ r.timestamp) rs
none_below limits cutoff low [] most are = (refl, tt)
none_below limits cutoff low (r ∷ rs) most are =
    let rises : low ≤ r.timestamp = are.1 in
    let late : cutoff ≤ r.timestamp = omega (arith, most, rises) in
    let rest = none_below limits cutoff r.timestamp rs late are.2 in
    (rw (le-ltb r.timestamp cutoff late) rest.0, (late, rest.1))

-- records at or past a timestamp are not below it
pub all_late : (cutoff : ℕ) (rs : List Logged) → AllByRecursion (λ (r : Logged). cutoff ≤ r.timestamp) rs → below cutoff rs ≡ []
all_late cutoff [] late = refl
all_late cutoff (r ∷ rs) late = rw (le-ltb r.timestamp cutoff late.0) (all_late cutoff rs late.1)

-- the records below a timestamp are the first, and the others are from it on
pub record AreSplit (cutoff : ℕ) (records : List Logged) : Type 0 where
  pub late : List Logged
  pub all : records ≡ below cutoff records ++ late
  pub are_late : AllByRecursion (λ (r : Logged). cutoff ≤ r.timestamp) late

pub split : (limits : Limits) (cutoff low : ℕ) (rs : List Logged) → AreRecords limits low rs → AreSplit cutoff rs
split limits cutoff low [] are = record { late = []; all = refl; are_late = tt }
split limits cutoff low (r ∷ rs) are = elim (cases_Bool (ltb r.timestamp cutoff)) as (λ _. AreSplit cutoff (r ∷ rs)) [
  | inl is ↦
      let rest = split limits cutoff r.timestamp rs are.2 in
      record { late = rest.late; all = rw is (ap (λ (l : List Logged). r ∷ l) rest.all); are_late = rest.are_late }
  | inr not ↦
      let late : cutoff ≤ r.timestamp = ltb-false r.timestamp cutoff not in
      let rest = none_below limits cutoff r.timestamp rs late are.2 in
      record { late = r ∷ rs; all = rw (not, rest.0) refl; are_late = (late, rest.1) }
]

-- ---- the marks

marks_lawful : (limits : Limits) (cutoff : ℕ) (rs : List Logged) → cutoff < 2 ^ 64 → AreRecords limits cutoff (marks_of cutoff rs)
marks_lawful limits cutoff rs fits = elim (cases_Bool (list_any is_end rs && ltb cutoff greatest_timestamp)) as (λ _. AreRecords limits cutoff (marks_of cutoff rs)) [
  | inl both ↦ rw both ((fits, tt), omega arith, ((omega arith, tt), omega (arith, fits), tt))
  | inr not ↦ rw not ((fits, tt), omega arith, tt)
]

-- the marks of a resumed log are marks
pub only_marks : (cutoff : ℕ) (rs : List Logged) (r : Logged) → Contains (marks_of cutoff rs) r → is_mark r ≡ true
only_marks cutoff rs r at = by (list_any is_end rs && ltb cutoff greatest_timestamp) at
  where
    by : (ended : Bool) → Contains (mark_of cutoff ∷ cond ended (mark_of greatest_timestamp ∷ []) []) r → is_mark r ≡ true
    by true at = elim (head_or_tail (mark_of cutoff) r (mark_of greatest_timestamp ∷ []) at) as (λ _. is_mark r ≡ true) [
      | inl e ↦ sym (ap is_mark e)
      | inr later ↦ elim (head_or_tail (mark_of greatest_timestamp) r [] later) as (λ _. is_mark r ≡ true) [ inl e ↦ sym (ap is_mark e) | inr none ↦ absurd (no_element r none) ]
    ]
    by false at = elim (head_or_tail (mark_of cutoff) r [] at) as (λ _. is_mark r ≡ true) [ inl e ↦ sym (ap is_mark e) | inr none ↦ absurd (no_element r none) ]

-- the records of a resumed log are lawful
pub resumed_rise : (limits : Limits) (cutoff : ℕ) (rs : List Logged) → cutoff < 2 ^ 64 → AreRecords limits 0 rs
    → AreRecords limits 0 (below cutoff rs ++ marks_of cutoff rs)
resumed_rise limits cutoff rs fits are =
    records_join limits 0 cutoff (below cutoff rs) (marks_of cutoff rs) (below_lawful limits cutoff 0 rs are) (below_most cutoff rs) (omega arith) (marks_lawful limits cutoff rs fits)

-- ---- the bytes

-- the encoding of what replaces a log is read as it
pub resumed_reading : (cutoff : ℕ) (bytes : List ℕ) (log : LogReading) → cutoff < 2 ^ 64 → IsReading bytes log
    → IsReading (log_bytes (resumed cutoff log).head (resumed cutoff log).records) (resumed cutoff log)
resumed_reading cutoff bytes log fits is =
    let from : log.head.from < 2 ^ 64 = is.is_log.is_head.from in
    whole_reading (resumed cutoff log).head (resumed cutoff log).records (record { from = omega (arith, from); segment = is.is_log.is_head.segment })
    (resumed_rise (limits_of log.head.format) cutoff log.records fits is.is_log.lawful)

-- bytes that are resumed are read as what replaces the log
pub reading_after : (cutoff : ℕ) (before after : List ℕ) (log : LogReading) → cutoff < 2 ^ 64 → IsReading before log → IsResumed cutoff before after
    → IsReading after (resumed cutoff log)
reading_after cutoff before after log fits is to =
    let same : to.log ≡ log = one_reading_of before to.log log to.is_reading is in
    let said = resumed_reading cutoff before to.log fits to.is_reading in
    subst (λ (l : LogReading). IsReading after (resumed cutoff l)) same (subst (λ (bytes : List ℕ). IsReading bytes (resumed cutoff to.log)) (sym to.spelled) said)

-- so is what replaces a file
pub replaced_reading : (cutoff : ℕ) (before after : List ℕ) (log : LogReading) → IsReading before log → IsReplaced cutoff before after → IsReading after (resumed cutoff log)
replaced_reading cutoff before after log is to =
    subst (λ (l : LogReading). IsReading after (resumed cutoff l)) (one_reading_of before to.log log to.is_reading is) to.says

-- a file is replaced by what replaces its text
text_replaced : (before text after : List ℕ) (torn : Bool) (cutoff : ℕ) → cutoff < 2 ^ 64 → Opens before text torn → IsResumed cutoff text after → IsReplaced cutoff before after
text_replaced before text after torn cutoff fits opens to = by opens
  where
    says : IsReading after (resumed cutoff to.log)
    says = reading_after cutoff text after to.log fits to.is_reading to

    by : Opens before text torn → IsReplaced cutoff before after
    by (inl own) = record { log = to.log; is_reading = subst (λ (bytes : List ℕ). IsReading bytes to.log) own.0.1 to.is_reading; says = says }
    by (inr is) =
        let header : HasHeader text = record { head = text_head is.header; is_head = text_is_head is.header is.is_file.begins.is_header; more = joined is.bodies; spelled = is.is_text } in record {
          log = record to.log { torn = torn || to.log.torn };
          is_reading = file_says before text torn to.log opens (text_says text to.log header to.is_reading);
          says = says;
        }

-- a file of any format may replace it, if its text does
any_format : (before text after : List ℕ) (cutoff : ℕ) → Opens after text false → IsReplaced cutoff before text → IsReplaced cutoff before after
any_format before text after cutoff opens to = by opens
  where
    by : Opens after text false → IsReplaced cutoff before after
    by (inl own) = record { log = to.log; is_reading = to.is_reading; says = subst (λ (bytes : List ℕ). IsReading bytes (resumed cutoff to.log)) own.0.1 to.says }
    by (inr is) =
        let header : HasHeader text = record { head = text_head is.header; is_head = text_is_head is.header is.is_file.begins.is_header; more = joined is.bodies; spelled = is.is_text } in record {
          log = to.log;
          is_reading = to.is_reading;
          says = file_says after text false (resumed cutoff to.log) opens (text_says text (resumed cutoff to.log) header to.says);
        }

-- a file that replaces a log says what replaces it
pub file_replaced : (before after : List ℕ) (cutoff salt workers : ℕ) → cutoff < 2 ^ 64 → Replaces cutoff salt workers before after → IsReplaced cutoff before after
file_replaced before after cutoff salt workers fits (inl (plain, to)) = text_replaced before before after false cutoff fits (inl ((plain, refl), refl)) to
file_replaced before after cutoff salt workers fits (inr again) =
    let header = resumed_header cutoff salt workers again.header in
    let opens : Opens before (text_of again.header again.bodies) (is_torn again.end) = inr (record { header = again.header; bodies = again.bodies; end = again.end; is_file = again.is_file; is_text = refl; ends = refl }) in
    let reads : Opens after (text_of header again.new) false = inr (record { header = header; bodies = again.new; end = []; is_file = again.replaces; is_text = refl; ends = refl }) in
    any_format before (text_of header again.new) after cutoff reads (text_replaced before (text_of again.header again.bodies) (text_of header again.new) (is_torn again.end) cutoff fits opens again.is_resumed)

-- ---- the times

abbrev pub time_of : Logged → ℕ
time_of r = r.timestamp

-- what replaces a log reaches the cutoff
pub reaches_cutoff : (cutoff : ℕ) (log : LogReading) → Contains (times_of (resumed cutoff log)) cutoff
reaches_cutoff cutoff log =
    let front = below cutoff log.records in
    let marks = marks_of cutoff log.records in
    let among : Contains (map time_of (front ++ marks)) cutoff =
    in_map time_of (front ++ marks) (mark_of cutoff) (Contains-append_right front marks (mark_of cutoff) (head_in (mark_of cutoff) _)) in
    tail_in (resumed cutoff log).head.from cutoff (map time_of (front ++ marks)) among

-- a log that was ended has the greatest timestamp
pub ended_time : (rs : List Logged) → list_any is_end rs ≡ true → Contains (map time_of rs) greatest_timestamp
ended_time [] is = absurd (false≢true is)
ended_time (r ∷ rs) is = elim (or_cases (is_end r) (list_any is_end rs) is) as (λ _. Contains (map time_of (r ∷ rs)) greatest_timestamp) [
  | inl here ↦ subst (λ (t : ℕ). Contains (map time_of (r ∷ rs)) t) (eqb-true r.timestamp greatest_timestamp (and_parts (is_mark r) (r.timestamp == greatest_timestamp) here).1) (head_in r.timestamp (map time_of rs))
  | inr later ↦ tail_in r.timestamp greatest_timestamp (map time_of rs) (ended_time rs later)
]

-- the time is that of the mark that ends these records
abbrev pub IsEnd : List Logged → ℕ → Type 0
IsEnd rs time = (time ≡ greatest_timestamp) × (is_ended rs ≡ true)

mark_times : (cutoff : ℕ) (rs : List Logged) (r : Logged) → Contains (marks_of cutoff rs) r → (r.timestamp ≤ cutoff) ⊎ IsEnd rs r.timestamp
mark_times cutoff rs r at = by (is_ended rs && ltb cutoff greatest_timestamp) refl at
  where
    Found : Type 0
    Found = (r.timestamp ≤ cutoff) ⊎ IsEnd rs r.timestamp

    at_cutoff : (more : List Logged) → (Contains more r → Found) → Contains (mark_of cutoff ∷ more) r → Found
    at_cutoff more further among = elim (head_or_tail (mark_of cutoff) r more among) as (λ _. Found) [
      | inl same ↦ let time : cutoff ≡ r.timestamp = ap time_of same in inl (omega (arith, time))
      | inr later ↦ further later
    ]

    by : (ended : Bool) → ended ≡ (is_ended rs && ltb cutoff greatest_timestamp) → Contains (mark_of cutoff ∷ cond ended (mark_of greatest_timestamp ∷ []) []) r
        → Found
    by true ended at = at_cutoff (mark_of greatest_timestamp ∷ []) (λ later. elim (head_or_tail (mark_of greatest_timestamp) r [] later) as (λ _. Found) [
      | inl same ↦ inr (sym (ap time_of same), (and_parts (is_ended rs) (ltb cutoff greatest_timestamp) (sym ended)).0)
      | inr none ↦ absurd (no_element r none)
    ]) at
    by false ended at = at_cutoff [] (λ none. absurd (no_element r none)) at

-- its other times are not above the cutoff, but for the mark that ends it
pub times_bound : (cutoff : ℕ) (log : LogReading) (time : ℕ) → Contains (times_of (resumed cutoff log)) time → (time ≤ cutoff) ⊎ IsEnd log.records time
times_bound cutoff log time at =
    let front = below cutoff log.records in
    let marks = marks_of cutoff log.records in
    let from = (resumed cutoff log).head.from in
    elim (head_or_tail from time (map time_of (front ++ marks)) at) as (λ _. (time ≤ cutoff) ⊎ IsEnd log.records time) [
      | inl same ↦ let e : from ≡ time = same in inl (omega (arith, e))
      | inr among ↦
          let found = of_map time_of (front ++ marks) time among in
          elim (Contains-append_cases front marks found.0 found.1) as (λ _. (time ≤ cutoff) ⊎ IsEnd log.records time) [
            | inl kept ↦
                let time_is : found.0.timestamp ≡ time = found.2 in
                let less : found.0.timestamp < cutoff = ltb-true found.0.timestamp cutoff (of_filter (λ (r : Logged). nat_lt r.timestamp cutoff) log.records found.0 kept).1 in
                inl (omega (arith, time_is, less))
            | inr mark ↦ subst (λ (t : ℕ). (t ≤ cutoff) ⊎ IsEnd log.records t) found.2 (mark_times cutoff log.records found.0 mark)
          ]
    ]

-- its other times are not above the cutoff, or are times of the log
pub times_after : (cutoff : ℕ) (log : LogReading) (time : ℕ) → Contains (times_of (resumed cutoff log)) time → (time ≤ cutoff) ⊎ Contains (times_of log) time
times_after cutoff log time at = elim (times_bound cutoff log time at) as (λ _. (time ≤ cutoff) ⊎ Contains (times_of log) time) [
  | inl most ↦ inl most
  | inr end ↦ inr (tail_in log.head.from time (map time_of log.records) (subst (Contains (map time_of log.records)) (sym end.0) (ended_time log.records end.1)))
]

-- what replaces a log that was ended reaches the greatest timestamp
reaches_end : (cutoff : ℕ) (log : LogReading) → cutoff < 2 ^ 64 → is_ended log.records ≡ true → Contains (times_of (resumed cutoff log)) greatest_timestamp
reaches_end cutoff log fits ended = elim (cases_lt cutoff greatest_timestamp) as (λ _. Contains (times_of (resumed cutoff log)) greatest_timestamp) [
  | inl less ↦
      let front = below cutoff log.records in
      let both : list_any is_end log.records && ltb cutoff greatest_timestamp ≡ true = and_from (is_ended log.records) (ltb cutoff greatest_timestamp) ended (lt-ltb cutoff greatest_timestamp less) in
      let end = mark_of greatest_timestamp in
      let marks : Contains (marks_of cutoff log.records) end = subst (λ (b : Bool). Contains (mark_of cutoff ∷ cond b (end ∷ []) []) end) (sym both) (tail_in (mark_of cutoff) end (end ∷ []) (head_in end [])) in
      tail_in (resumed cutoff log).head.from greatest_timestamp (map time_of (front ++ marks_of cutoff log.records))
      (in_map time_of (front ++ marks_of cutoff log.records) end (Contains-append_right front (marks_of cutoff log.records) end marks))
  | inr most ↦ let same : cutoff ≡ greatest_timestamp = omega (arith, fits, most) in subst (Contains (times_of (resumed cutoff log))) same (reaches_cutoff cutoff log)
]

-- the last timestamp of what replaces a log
pub last_after : (log : LogReading) (cutoff last : ℕ) → cutoff < 2 ^ 64 → IsLast (resumed cutoff log) last
    → last ≡ cond (is_ended log.records) greatest_timestamp cutoff
last_after log cutoff last fits is = by (cases_Bool (is_ended log.records)) (times_bound cutoff log last is.0)
  where
    above : (time : ℕ) → Contains (times_of (resumed cutoff log)) time → time ≤ last
    above time at = All-contains (λ (t : ℕ). t ≤ last) (times_of (resumed cutoff log)) time is.1 at

    by : (is_ended log.records ≡ true) ⊎ (is_ended log.records ≡ false) → (last ≤ cutoff) ⊎ IsEnd log.records last
        → last ≡ cond (is_ended log.records) greatest_timestamp cutoff
    by (inl ended) (inl most) = rw ended (let least : greatest_timestamp ≤ last = above greatest_timestamp (reaches_end cutoff log fits ended) in omega (arith, fits, most, least))
    by (inl ended) (inr end) = rw ended end.0
    by (inr fails) (inl most) = rw fails (let least : cutoff ≤ last = above cutoff (reaches_cutoff cutoff log) in omega (arith, most, least))
    by (inr fails) (inr end) = absurd (both_ways (is_ended log.records) fails end.1)

-- ---- twice

pub below_twice : (cutoff : ℕ) (rs : List Logged) → below cutoff (below cutoff rs) ≡ below cutoff rs
below_twice cutoff [] = refl
below_twice cutoff (r ∷ rs) = elim (cases_Bool (ltb r.timestamp cutoff)) as (λ _. below cutoff (below cutoff (r ∷ rs)) ≡ below cutoff (r ∷ rs)) [
  | inl is ↦ rw (is, is) (ap (λ (l : List Logged). r ∷ l) (below_twice cutoff rs))
  | inr not ↦ rw not (below_twice cutoff rs)
]

no_mark_below : (cutoff : ℕ) (rs : List Logged) → below cutoff (marks_of cutoff rs) ≡ []
no_mark_below cutoff rs = elim (cases_Bool (list_any is_end rs && ltb cutoff greatest_timestamp)) as (λ _. below cutoff (marks_of cutoff rs) ≡ []) [
  | inl both ↦
      let less : cutoff < greatest_timestamp = ltb-true cutoff greatest_timestamp (and_parts (list_any is_end rs) (ltb cutoff greatest_timestamp) both).1 in
      rw (both, le-ltb cutoff cutoff (omega arith), le-ltb greatest_timestamp cutoff (omega (arith, less))) refl
  | inr not ↦ rw (not, le-ltb cutoff cutoff (omega arith)) refl
]

-- a resumed log has the same records below the cutoff
pub below_resumed : (cutoff : ℕ) (rs : List Logged) → below cutoff (below cutoff rs ++ marks_of cutoff rs) ≡ below cutoff rs
below_resumed cutoff rs =
    filter-append (λ (r : Logged). nat_lt r.timestamp cutoff) (below cutoff rs) (marks_of cutoff rs) ∙ (λ i. below_twice cutoff rs i ++ no_mark_below cutoff rs i) ∙ append-nil (below cutoff rs)

none_ended_below : (cutoff : ℕ) (rs : List Logged) → cutoff < greatest_timestamp → list_any is_end (below cutoff rs) ≡ false
none_ended_below cutoff [] less = refl
none_ended_below cutoff (r ∷ rs) less = elim (cases_Bool (ltb r.timestamp cutoff)) as (λ _. list_any is_end (below cutoff (r ∷ rs)) ≡ false) [
  | inl is ↦
      let early : r.timestamp < cutoff = ltb-true r.timestamp cutoff is in
      let apart : (r.timestamp ≡ greatest_timestamp) → ⊥ = λ e. omega (arith, early, less, e) in
      rw is (or_from (is_end r) (list_any is_end (below cutoff rs)) (and_right (is_mark r) (r.timestamp == greatest_timestamp) (ne_eqb r.timestamp greatest_timestamp apart)) (none_ended_below cutoff rs less))
  | inr not ↦ rw not (none_ended_below cutoff rs less)
]

-- what replaces a log is ended if the log is, unless the cutoff is the greatest timestamp
pub ended_alike : (cutoff : ℕ) (rs : List Logged)
    → (list_any is_end (below cutoff rs ++ marks_of cutoff rs) && ltb cutoff greatest_timestamp) ≡ (list_any is_end rs && ltb cutoff greatest_timestamp)
ended_alike cutoff rs = by (cases_Bool (ltb cutoff greatest_timestamp)) (cases_Bool (list_any is_end rs))
  where
    front : List Logged
    front = below cutoff rs

    Alike : Type 0
    Alike = (list_any is_end (front ++ marks_of cutoff rs) && ltb cutoff greatest_timestamp) ≡ (list_any is_end rs && ltb cutoff greatest_timestamp)

    in_marks : ltb cutoff greatest_timestamp ≡ true → list_any is_end (front ++ marks_of cutoff rs) ≡ list_any is_end (marks_of cutoff rs)
    in_marks less = list_any-append is_end front (marks_of cutoff rs) ∙ ap (λ (b : Bool). b || list_any is_end (marks_of cutoff rs)) (none_ended_below cutoff rs (ltb-true cutoff greatest_timestamp less))

    not_first : ltb cutoff greatest_timestamp ≡ true → eqb cutoff greatest_timestamp ≡ false
    not_first less = let lt : cutoff < greatest_timestamp = ltb-true cutoff greatest_timestamp less in ne_eqb cutoff greatest_timestamp (λ e. omega (arith, lt, e))

    by : (ltb cutoff greatest_timestamp ≡ true) ⊎ (ltb cutoff greatest_timestamp ≡ false) → (list_any is_end rs ≡ true) ⊎ (list_any is_end rs ≡ false) → Alike
    by (inr most) ended = and_right (list_any is_end (front ++ marks_of cutoff rs)) (ltb cutoff greatest_timestamp) most ∙ sym (and_right (list_any is_end rs) (ltb cutoff greatest_timestamp) most)
    by (inl less) (inl ended) = rw (in_marks less) (rw (ended, less, not_first less) refl)
    by (inl less) (inr fails) = rw (in_marks less) (rw (fails, less, not_first less) refl)

-- resuming again at the same cutoff changes nothing
pub resumed_twice : (cutoff : ℕ) (log : LogReading) → resumed cutoff (resumed cutoff log) ≡ resumed cutoff log
resumed_twice cutoff log =
    let from : min (min log.head.from cutoff) cutoff ≡ min log.head.from cutoff = omega arith in
    let kept = below_resumed cutoff log.records in
    let ended = ended_alike cutoff log.records in
    λ i. record {
      head = record log.head { from = from i };
      records = kept i ++ (mark_of cutoff ∷ cond (ended i) (mark_of greatest_timestamp ∷ []) []);
      torn = false;
    }
