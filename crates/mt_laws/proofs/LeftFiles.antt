-- What a crash leaves of open files: sound segments, which agree with what was written below the cutoff.
use Rattle.std.proofs.Common.{◌≡◌, ◌⊎◌, inl, inr, ℕ, zero, suc, ◌+◌, ◌<◌, ◌≤◌, Bool, true, IsTrue, Option, Some, None, IsSomeAnd, List, [], ◌∷◌, ◌++◌, length, take, map, Contains, refl, sym, ap, ◌∙◌, subst, arith}
use Rattle.std.specs.Prelude.{◌==◌, ◌||◌, false, slice_get, nat_lt}
use Rattle.std.specs.List.{AllZip, AllByRecursion, list_any, flat_map}
use Rattle.std.proofs.lemmas.Bool.{cases_order, cases_eq, cases_lt, eq-eqb, eqb-true, and_from, or_left, or_right, false≢true}
use Rattle.std.proofs.lemmas.List.{append-nil, length-append, nil_from_length}
use Rattle.std.proofs.lemmas.List.Elements.{filter-append, Contains-append_left, All-contains}
use Rattle.mt_words.specs.declared.limits.Limits.{Limits}
use Rattle.mt_words.specs.Limits.{limits_of}
use Rattle.mt_words.specs.Changes.{Logged, is_mark}
use Rattle.mt_words.proofs.Elements.{no_element, head_or_tail, head_in, tail_in}
use Rattle.mt_record.specs.declared.feed.head.Head.{Head}
use Rattle.mt_record.specs.declared.feed.head.Segment.{Segment}
use Rattle.mt_record.specs.Opening.{Opens}
use Rattle.mt_record.specs.Logs.{AreRecords, latest, LogReading, IsReading, times_of}
use Rattle.mt_record.specs.Resuming.{greatest_timestamp, is_end, is_ended, below}
use Rattle.mt_record.proofs.OneReading.{one_reading_of}
use Rattle.mt_scan.specs.Cutoff.{is_segment_of, files_of, IsLastOf, HasLast, IsCutoff}
use Rattle.mt_scan.specs.Segments.{IsEarlier, IsSame, HasFile, IsDoubled, AreWriters}
use Rattle.mt_replay.proofs.Members.{of_map, in_map, of_flat_map, in_flat_map, of_filter, in_filter}
use Rattle.mt_recover.specs.Recovery.{AreReadings}
use Rattle.mt_writer.specs.Files.{IsCutOf, OpenFile, file_bytes, file_reading, HasSynced, IsOpenFile}
use Rattle.mt_laws.specs.Crashes.{IsBeginningOf}
use Rattle.mt_laws.specs.Lives.{IsBehind, AreOpen, IsLeftOf, IsSyncedAbove}
use Rattle.mt_laws.proofs.CutLogs.{cut_log, file_says, text_says}
use Rattle.mt_laws.proofs.Lost.{behind_latest}
use Rattle.mt_laws.proofs.SomeCutoff.{some_last, own_file}
use Rattle.mt_laws.proofs.Agreeing.{AgreeBelow}
use Rattle.mt_laws.proofs.Resumed.{time_of, all_late, ended_time}
use Rattle.mt_laws.proofs.Paired.{partner, partner_of, zip_weaker, zip_members}
use Rattle.mt_laws.proofs.ResumedLogs.{ClaimsNoMore, once_stays}
use Rattle.mt_laws.proofs.ResumedStores.{time_fits}

-- ---- what is left of a file

-- what is left of one of these files says a beginning of it
pub record SaysLeft (logs : List OpenFile) (log : OpenFile) (left : LogReading) : Type 0 where
  pub bytes : List ℕ
  pub is_left : IsLeftOf logs log bytes
  pub is_reading : IsReading bytes left
  pub torn : Bool
  pub is_text : IsReading is_left.text (record left { torn = torn })
  pub begins : IsBeginningOf left (file_reading log)
  pub is_open : IsOpenFile log

one_left : (logs : List OpenFile) (log : OpenFile) (left : List ℕ) → IsOpenFile log → IsLeftOf logs log left → (reading : LogReading) × IsReading left reading × SaysLeft logs log reading
one_left logs log left is_open is =
    let said = cut_log is.text (file_bytes log) (file_reading log) is_open.is_reading is.written in
    let reading = record said.log { torn = is.torn || said.log.torn } in
    let is_reading = file_says left is.text is.torn said.log is.opens (text_says is.text said.log is.written.header said.is_reading) in (
      reading,
      is_reading,
      record {
        bytes = left;
        is_left = is;
        is_reading = is_reading;
        torn = said.log.torn;
        is_text = said.is_reading;
        begins = record { head = said.begins.head; lost = said.begins.lost; records = said.begins.records };
        is_open = is_open;
      },
    )

pub all_left : (files logs : List OpenFile) (left : List (List ℕ)) → ((log : OpenFile) → Contains logs log → IsOpenFile log) → AllZip (IsLeftOf files) logs left
    → (readings : List LogReading) × AreReadings left readings × AllZip (SaysLeft files) logs readings
all_left files [] [] opens are = ([], tt, tt)
all_left files [] (l ∷ ls) opens are = absurd are
all_left files (log ∷ logs) [] opens are = absurd are
all_left files (log ∷ logs) (l ∷ ls) opens are =
    let first = one_left files log l (opens log (head_in log logs)) are.0 in
    let rest = all_left files logs ls (λ x at. opens x (tail_in log x logs at)) are.1 in
    (first.0 ∷ rest.0, (first.1, rest.1), (first.2, rest.2))

-- what bytes say as a log is a beginning of what further bytes say
pub says_less : (bytes more : List ℕ) (log less : LogReading) → IsCutOf bytes more → IsReading more log → IsReading bytes less → IsBeginningOf less log
says_less bytes more log less cut is is_less =
    let said = cut_log bytes more log is cut in
    subst (λ (x : LogReading). IsBeginningOf x log) (one_reading_of bytes said.log less said.is_reading is_less) said.begins

-- a record that is synced is left
pub synced_left : {all : List OpenFile} (P : Logged → Type 0) (log : OpenFile) (left : LogReading) → SaysLeft all log left → HasSynced P log → (r : Logged) × Contains left.records r × P r
synced_left P log left says has =
    let begins = says_less log.synced says.is_left.text (record left { torn = says.torn }) has.reading says.is_left.synced says.is_text has.is_reading in
    (has.at, subst (λ (rs : List Logged). Contains rs has.at) (sym begins.records) (Contains-append_left has.reading.records begins.lost has.at has.stands), has.holds)

-- the times of what is left are times of the file
left_times : {all : List OpenFile} (log : OpenFile) (left : LogReading) (time : ℕ) → SaysLeft all log left → Contains (times_of left) time → Contains (times_of (file_reading log)) time
left_times log left time says at = elim (head_or_tail left.head.from time (map time_of left.records) at) as (λ _. Contains (times_of (file_reading log)) time) [
  | inl e ↦ subst (Contains (times_of (file_reading log))) (ap (λ (head : Head). head.from) (sym says.begins.head) ∙ e) (head_in log.head.from (map time_of log.records))
  | inr later ↦
      let found = of_map time_of left.records time later in
      let among = subst (λ (rs : List Logged). Contains rs found.0) (sym says.begins.records) (Contains-append_left left.records says.begins.lost found.0 found.1) in
      tail_in log.head.from time (map time_of log.records) (subst (Contains (map time_of log.records)) found.2 (in_map time_of log.records found.0 among))
]

-- a file that is synced whole, and that a later segment follows, is left whole
whole_left : {all : List OpenFile} (log : OpenFile) (left : LogReading) → (says : SaysLeft all log left) → log.synced ≡ file_bytes log → says.is_left.torn ≡ false → left ≡ file_reading log
whole_left log left says whole not_torn =
    let is = says.is_left in
    let all : length (file_bytes log) ≡ length is.text + length is.written.lost = ap length is.written.begins ∙ length-append is.text is.written.lost in
    let part : length is.text ≡ length log.synced + length is.synced.lost = ap length is.synced.begins ∙ length-append log.synced is.synced.lost in
    let same : length log.synced ≡ length (file_bytes log) = ap length whole in
    let none : is.written.lost ≡ [] = nil_from_length is.written.lost (omega (arith, all, part, same)) in
    let text : file_bytes log ≡ is.text = is.written.begins ∙ ap (λ (l : List ℕ). is.text ++ l) none ∙ append-nil is.text in
    let reading = subst (λ (l : List ℕ). IsReading l (file_reading log)) text says.is_open.is_reading in
    let of_file = file_says says.bytes is.text false (file_reading log) (subst (Opens says.bytes is.text) not_torn is.opens) (text_says is.text (file_reading log) is.written.header reading) in
    one_reading_of says.bytes left (file_reading log) says.is_reading of_file

pub claims_left : {all : List OpenFile} (log : OpenFile) (left : LogReading) → SaysLeft all log left → ClaimsNoMore (file_reading log) left
claims_left log left says =
    let from : left.head.from ≡ log.head.from = ap (λ (head : Head). head.from) says.begins.head in
    record { segment = ap (λ (head : Head). head.segment) says.begins.head; from = omega (arith, from) }

segment_left : {all : List OpenFile} (log : OpenFile) (left : LogReading) → SaysLeft all log left → left.head.segment ≡ log.head.segment
segment_left log left says = ap (λ (head : Head). head.segment) says.begins.head

-- the earlier segments of what is left were earlier segments of the file
behind_left : {all : List OpenFile} (a b : OpenFile) (x y : LogReading) → SaysLeft all a x → SaysLeft all b y → IsEarlier x.head.segment y.head.segment → IsBehind a b
behind_left a b x y of_a of_b earlier = subst (λ (s : Option Segment × Option Segment). IsEarlier s.0 s.1) (λ i. (segment_left a x of_a i, segment_left b y of_b i)) earlier

-- ---- sound segments

pub none_at : {X : Type 0} (Q : X → Type 0) (xs : List X) (i : ℕ) → ((x : X) → Contains xs x → Q x → ⊥) → IsSomeAnd (slice_get xs i) Q → ⊥
none_at Q [] i none is = is
none_at Q (x ∷ xs) zero none is = none x (head_in x xs) is
none_at Q (x ∷ xs) (suc i) none is = none_at Q xs i (λ y at. none y (tail_in x y xs at)) is

pub zip_claims : (all logs : List OpenFile) (left : List LogReading) → AllZip (SaysLeft all) logs left → AllZip ClaimsNoMore (map file_reading logs) left
zip_claims all [] [] are = tt
zip_claims all [] (l ∷ ls) are = absurd are
zip_claims all (log ∷ logs) [] are = absurd are
zip_claims all (log ∷ logs) (l ∷ ls) are = (claims_left log l are.0, zip_claims all logs ls are.1)

pub writers_left : {begin : ℕ} (logs : List OpenFile) (left : List LogReading) → AreOpen begin logs → AllZip (SaysLeft logs) logs left → AreWriters left
writers_left logs left open_logs are = record {
  once = once_stays (map file_reading logs) left (zip_claims logs logs left are) open_logs.once;
  sound = λ i. none_at (λ file. IsTrue file.torn × HasFile left (IsEarlier file.head.segment)) left i (λ file at amid.
      let log = partner_of (SaysLeft logs) logs left file are at in
      let has = amid.1 in
      let later = partner_of (SaysLeft logs) logs left has.1 are (has.0, has.2, has.3) in
      let behind = behind_left log.0 later.0 file has.1 log.2 later.2 has.4 in
      let whole = open_logs.whole log.0 later.0 log.1 later.1 behind in
      false≢true (sym (ap (λ (l : LogReading). l.torn) (whole_left log.0 file log.2 whole (log.2.is_left.whole later.0 later.1 behind))) ∙ amid.0));
}

-- ---- one file for one segment

-- an element before another stands among the first ones
among_first : {X : Type 0} (xs : List X) (i j : ℕ) (x y : X) → i < j → IsSomeAnd (slice_get xs i) (λ z. z ≡ x) → IsSomeAnd (slice_get xs j) (λ z. z ≡ y)
    → Contains (take j xs) x
among_first [] i j x y lt at other = absurd at
among_first (z ∷ zs) i zero x y lt at other = absurd (omega arith)
among_first (z ∷ zs) zero (suc j) x y lt at other = subst (Contains (z ∷ take j zs)) at (head_in z (take j zs))
among_first (z ∷ zs) (suc i) (suc j) x y lt at other = tail_in z x (take j zs) (among_first zs i j x y (omega (arith, lt)) at other)

pub place_of : {X : Type 0} (xs : List X) (x : X) → Contains xs x → (i : ℕ) × IsSomeAnd (slice_get xs i) (λ z. z ≡ x)
place_of [] x at = absurd (no_element x at)
place_of (y ∷ ys) x at = elim (head_or_tail y x ys at) as (λ _. (i : ℕ) × IsSomeAnd (slice_get (y ∷ ys) i) (λ z. z ≡ x)) [
  | inl e ↦ (zero, e)
  | inr later ↦ let rest = place_of ys x later in (suc rest.0, rest.1)
]

pub some_at : {X : Type 0} (P Q : X → Type 0) (o : Option X) → ((x : X) → P x → Q x) → IsSomeAnd o P → IsSomeAnd o Q
some_at P Q None follows is = absurd is
some_at P Q (Some x) follows is = follows x is

one_at : {X : Type 0} (x y : X) (o : Option X) → IsSomeAnd o (λ z. z ≡ x) → IsSomeAnd o (λ z. z ≡ y) → x ≡ y
one_at x y None is too = absurd is
one_at x y (Some z) is too = sym is ∙ too

pub same_back : (a b : Option Segment) → IsSame a b → IsSame b a
same_back (Some a) (Some b) is = (sym is.0, sym is.1)
same_back (Some a) None is = absurd is
same_back None b is = absurd is

pub doubled_by : (files : List LogReading) (i j : ℕ) (x y : LogReading) → i < j → IsSomeAnd (slice_get files i) (λ z. z ≡ x) → IsSomeAnd (slice_get files j) (λ z. z ≡ y)
    → IsSame y.head.segment x.head.segment → IsDoubled files j
doubled_by files i j x y lt at other same =
    let among = among_first files i j x y lt at other in
    some_at (λ z. z ≡ y) (λ file. HasFile (take j files) (IsSame file.head.segment)) (slice_get files j) (λ z e.
    (among.0, x, among.1, among.2, subst (λ (l : LogReading). IsSame l.head.segment x.head.segment) (sym e) same)) other

one_file : (files : List LogReading) (x y : LogReading) → ((i : ℕ) → IsDoubled files i → ⊥) → Contains files x → Contains files y
    → IsSame x.head.segment y.head.segment → x ≡ y
one_file files x y once at other same =
    let i = place_of files x at in
    let j = place_of files y other in
    elim (cases_order i.0 j.0) as (λ _. x ≡ y) [
      | inl e ↦ one_at x y (slice_get files i.0) i.1 (subst (λ (k : ℕ). IsSomeAnd (slice_get files k) (λ z. z ≡ y)) (sym e) j.1)
      | inr apart ↦ elim apart as (λ _. x ≡ y) [
        | inl lt ↦ absurd (once j.0 (doubled_by files i.0 j.0 x y lt i.1 j.1 (same_back x.head.segment y.head.segment same)))
        | inr gt ↦ absurd (once i.0 (doubled_by files j.0 i.0 y x gt j.1 i.1 same))
      ]
    ]

-- ---- how far a file reaches

at_most_latest : (limits : Limits) (low : ℕ) (rs : List Logged) (r : Logged) → AreRecords limits low rs → Contains rs r → r.timestamp ≤ latest low rs
at_most_latest limits low [] r are at = absurd (no_element r at)
at_most_latest limits low (x ∷ xs) r are at = elim (head_or_tail x r xs at) as (λ _. r.timestamp ≤ latest low (x ∷ xs)) [
  | inl e ↦ subst (λ (l : Logged). l.timestamp ≤ latest x.timestamp xs) e (latest_least limits x.timestamp xs are.2)
  | inr later ↦ at_most_latest limits x.timestamp xs r are.2 later
]
  where
    latest_least : (limits : Limits) (low : ℕ) (rs : List Logged) → AreRecords limits low rs → low ≤ latest low rs
    latest_least limits low [] are = omega arith
    latest_least limits low (y ∷ ys) are = let rises : low ≤ y.timestamp = are.1 in let rest : y.timestamp ≤ latest y.timestamp ys = latest_least limits y.timestamp ys are.2 in omega (arith, rises, rest)

-- a timestamp is not above the last record that is left, if a record at or past it is synced
reached : {all : List OpenFile} (time : ℕ) (P : Logged → Type 0) (log : OpenFile) (left : LogReading) → ((r : Logged) → P r → time ≤ r.timestamp) → SaysLeft all log left → HasSynced P log
    → time ≤ latest 0 left.records
reached time P log left at_least says has =
    let found = synced_left P log left says has in
    let low : time ≤ found.0.timestamp = at_least found.0 found.2 in
    let high : found.0.timestamp ≤ latest 0 left.records = at_most_latest (limits_of left.head.format) 0 left.records found.0 says.is_reading.is_log.lawful found.1 in
    omega (arith, low, high)

-- no file behind which this one is
abbrev pub IsLastFile : List LogReading → LogReading → Type 0
IsLastFile files file = (x : LogReading) → Contains files x → IsEarlier file.head.segment x.head.segment → ⊥

-- the last file of a log reaches as far as the log
reaches_last : {begin : ℕ} (logs : List OpenFile) (files : List LogReading) (log : OpenFile) (file : LogReading) (last : ℕ) → AreOpen begin logs → AllZip (SaysLeft logs) logs files
    → AreWriters files → Contains logs log → Contains files file → SaysLeft logs log file → IsLastFile files file → IsLastOf files file last
    → last ≤ latest 0 file.records
reaches_last logs files log file last open_logs are writers at_log at says is_last is =
    let found = of_flat_map times_of (files_of file.head.segment file files) last is.0 in
    by file.head.segment refl found.0 found.1 found.2
  where
    L : ℕ
    L = latest 0 file.records

    own : Contains (times_of file) last → last ≤ L
    own at = elim (head_or_tail file.head.from last (map time_of file.records) at) as (λ _. last ≤ L) [
      | inl e ↦
          let from : file.head.from ≡ log.head.from = ap (λ (head : Head). head.from) says.begins.head in
          let claim : log.head.from ≤ L = reached log.head.from (λ (r : Logged). log.head.from ≤ r.timestamp) log file (λ r most. most) says says.is_open.claim in
          let same : file.head.from ≡ last = e in
          omega (arith, from, claim, same)
      | inr later ↦
          let found = of_map time_of file.records last later in
          let same : found.0.timestamp ≡ last = found.2 in
          let most : found.0.timestamp ≤ L = at_most_latest (limits_of file.head.format) 0 file.records found.0 says.is_reading.is_log.lawful found.1 in
          omega (arith, same, most)
    ]

    behind : (x : LogReading) → Contains files x → IsEarlier x.head.segment file.head.segment → Contains (times_of x) last → last ≤ L
    behind x there earlier at =
        let a = partner_of (SaysLeft logs) logs files x are there in
        let mark = open_logs.beyond a.0 log a.1 at_log (behind_left a.0 log x file a.2 says earlier) last (left_times a.0 x last a.2 at) in
        reached last (λ (r : Logged). (is_mark r ≡ true) × (last ≤ r.timestamp)) log file (λ r both. both.1) says mark

    at_of_file : Contains files file
    at_of_file = at

    of_segment : (s t : Segment) → file.head.segment ≡ Some s → (x : LogReading) → x.head.segment ≡ Some t → Contains files x → t.worker ≡ s.worker
        → Contains (times_of x) last → last ≤ L
    of_segment s t is_s x is_t there worker at = elim (cases_order t.number s.number) as (λ _. last ≤ L) [
      | inl same ↦
          let one : x ≡ file = one_file files x file writers.once there at_of_file (subst (λ (p : Option Segment × Option Segment). IsSame p.0 p.1) (λ i. (sym is_t i, sym is_s i)) (worker, same)) in
          own (subst (λ (f : LogReading). Contains (times_of f) last) one at)
      | inr apart ↦ elim apart as (λ _. last ≤ L) [
        | inl lt ↦ behind x there (subst (λ (p : Option Segment × Option Segment). IsEarlier p.0 p.1) (λ i. (sym is_t i, sym is_s i)) (worker, lt)) at
        | inr gt ↦ absurd (is_last x there (subst (λ (p : Option Segment × Option Segment). IsEarlier p.0 p.1) (λ i. (sym is_s i, sym is_t i)) (sym worker, gt)))
      ]
    ]

    in_log : (s : Segment) → file.head.segment ≡ Some s → (x : LogReading) → (t : Option Segment) → x.head.segment ≡ t → Contains files x
        → is_segment_of s.worker t ≡ true → Contains (times_of x) last → last ≤ L
    in_log s is_s x None is_t there test at = absurd (false≢true test)
    in_log s is_s x (Some t) is_t there test at = of_segment s t is_s x is_t there (eqb-true t.worker s.worker test) at

    by : (segment : Option Segment) → file.head.segment ≡ segment → (x : LogReading) → Contains (files_of file.head.segment file files) x
        → Contains (times_of x) last → last ≤ L
    by None is_none x among at = elim (head_or_tail file x [] (subst (λ (s : Option Segment). Contains (files_of s file files) x) is_none among)) as (λ _. last ≤ L) [
      | inl e ↦ own (subst (λ (f : LogReading). Contains (times_of f) last) (sym e) at)
      | inr none ↦ absurd (no_element x none)
    ]
    by (Some s) is_s x among at =
        let found = of_filter (λ (other : LogReading). is_segment_of s.worker other.head.segment) files x (subst (λ (o : Option Segment). Contains (files_of o file files) x) is_s among) in
        in_log s is_s x x.head.segment refl found.0 found.1 at

-- ---- agreement

pub earlier_or_not : (a b : Option Segment) → IsEarlier a b ⊎ (IsEarlier a b → ⊥)
earlier_or_not (Some a) (Some b) = elim (cases_eq a.worker b.worker) as (λ _. IsEarlier (Some a) (Some b) ⊎ (IsEarlier (Some a) (Some b) → ⊥)) [
  | inl same ↦ elim (cases_lt a.number b.number) as (λ _. IsEarlier (Some a) (Some b) ⊎ (IsEarlier (Some a) (Some b) → ⊥)) [
    | inl lt ↦ inl (same, lt)
    | inr most ↦ inr (λ is. let lt : a.number < b.number = is.1 in omega (arith, most, lt))
  ]
  | inr differ ↦ inr (λ is. differ is.0)
]
earlier_or_not (Some a) None = inr (λ none. none)
earlier_or_not None b = inr (λ none. none)

-- a later segment of the file's log is there, or the file is the last of its log
pub later_or_last : (files : List LogReading) (file : LogReading)
    → ((x : LogReading) × Contains files x × IsEarlier file.head.segment x.head.segment) ⊎ IsLastFile files file
later_or_last [] file = inr (λ x at earlier. no_element x at)
later_or_last (f ∷ fs) file = by (earlier_or_not file.head.segment f.head.segment) (later_or_last fs file)
  where
    Found : Type 0
    Found = ((x : LogReading) × Contains (f ∷ fs) x × IsEarlier file.head.segment x.head.segment) ⊎ IsLastFile (f ∷ fs) file

    by : IsEarlier file.head.segment f.head.segment ⊎ (IsEarlier file.head.segment f.head.segment → ⊥)
        → ((x : LogReading) × Contains fs x × IsEarlier file.head.segment x.head.segment) ⊎ IsLastFile fs file → Found
    by (inl earlier) rest = inl (f, head_in f fs, earlier)
    by (inr not) (inl found) = inl (found.0, tail_in f found.0 fs found.1, found.2)
    by (inr not) (inr none) = inr (λ x at earlier. elim (head_or_tail f x fs at) as (λ _. ⊥) [
      | inl e ↦ not (subst (λ (l : LogReading). IsEarlier file.head.segment l.head.segment) (sym e) earlier)
      | inr later ↦ none x later earlier
    ])

all_weaker : {A : Type 0} (P Q : A → Type 0) (xs : List A) → ((x : A) → P x → Q x) → AllByRecursion P xs → AllByRecursion Q xs
all_weaker P Q [] follows are = tt
all_weaker P Q (x ∷ xs) follows are = (follows x are.0, all_weaker P Q xs follows are.1)

-- a file that reaches the cutoff agrees with what was written below it
reaching_agrees : {all : List OpenFile} (cutoff : ℕ) (log : OpenFile) (file : LogReading) → SaysLeft all log file → cutoff ≤ latest 0 file.records → AgreeBelow cutoff file.records log.records
reaching_agrees cutoff log file says reaches =
    let limits = limits_of log.head.format in
    let lost = says.begins.lost in
    let lawful = says.is_open.is_reading.is_log.lawful in
    let behind = behind_latest limits 0 file.records lost (subst (AreRecords limits 0) says.begins.records lawful) in
    let late = all_late cutoff lost (all_weaker (λ (r : Logged). latest 0 file.records ≤ r.timestamp) (λ (r : Logged). cutoff ≤ r.timestamp) lost (λ r above. omega (arith, reaches, above)) behind) in
    let same = filter-append (λ (r : Logged). nat_lt r.timestamp cutoff) file.records lost ∙ (λ i. below cutoff file.records ++ late i) ∙ append-nil (below cutoff file.records) in record {
      rise = (limits_of file.head.format, says.is_reading.is_log.lawful);
      others_rise = (limits, lawful);
      same = sym (ap (below cutoff) says.begins.records ∙ same);
    }

left_agrees : {begin : ℕ} (logs : List OpenFile) (files : List LogReading) (cutoff : ℕ) → AreOpen begin logs → AllZip (SaysLeft logs) logs files → IsCutoff files cutoff
    → (log : OpenFile) (file : LogReading) → Contains logs log × Contains files file × SaysLeft logs log file → AgreeBelow cutoff file.records log.records
left_agrees logs files cutoff open_logs are is log file (at_log, at, says) = elim (later_or_last files file) as (λ _. AgreeBelow cutoff file.records log.records) [
  | inl later ↦
      let b = partner_of (SaysLeft logs) logs files later.0 are later.1 in
      let behind = behind_left log b.0 file later.0 says b.2 later.2 in
      let whole = whole_left log file says (open_logs.whole log b.0 at_log b.1 behind) (says.is_left.whole b.0 b.1 behind) in
      record { rise = (limits_of file.head.format, says.is_reading.is_log.lawful); others_rise = (limits_of log.head.format, says.is_open.is_reading.is_log.lawful); same = ap (λ (l : LogReading). below cutoff l.records) whole }
  | inr is_last ↦
      let own = some_last files file at in
      let low : cutoff ≤ own.0 = is.least own.0 (record { log = file; stands = at; is_last = own.1 }) in
      let high = reaches_last logs files log file own.0 open_logs are (writers_left logs files open_logs are) at_log at says is_last own.1 in
      reaching_agrees cutoff log file says (omega (arith, low, high))
]

pub all_left_agree : {begin : ℕ} (logs : List OpenFile) (files : List LogReading) (cutoff : ℕ) → AreOpen begin logs → AllZip (SaysLeft logs) logs files → IsCutoff files cutoff
    → AllZip (λ log file. AgreeBelow cutoff file.records log.records) logs files
all_left_agree logs files cutoff open_logs are is =
    zip_weaker (λ log file. Contains logs log × Contains files file × SaysLeft logs log file) (λ log file. AgreeBelow cutoff file.records log.records) logs files
    (left_agrees logs files cutoff open_logs are is) (zip_members (SaysLeft logs) logs files are)

-- ---- what is synced above a timestamp

-- a later segment of a file's log is a file of it
later_in_log : (files : List LogReading) (file x : LogReading) → Contains files x → IsEarlier file.head.segment x.head.segment
    → Contains (files_of file.head.segment file files) x
later_in_log files file x at earlier = by file.head.segment x.head.segment refl earlier
  where
    by : (s t : Option Segment) → x.head.segment ≡ t → IsEarlier s t → Contains (files_of s file files) x
    by None t is_t earlier = absurd earlier
    by (Some s) None is_t earlier = absurd earlier
    by (Some s) (Some t) is_t earlier =
        in_filter (λ (other : LogReading). is_segment_of s.worker other.head.segment) files x (ap (is_segment_of s.worker) is_t ∙ eq-eqb t.worker s.worker (sym earlier.0)) at

pub last_above : (time : ℕ) (logs : List OpenFile) (files : List LogReading) (last : ℕ) → AllZip (SaysLeft logs) logs files
    → ((log : OpenFile) → Contains logs log → IsSyncedAbove time logs log) → HasLast files last → time < last
last_above time logs files last are above has =
    let log = partner_of (SaysLeft logs) logs files has.log are has.stands in
    by log.0 log.2 (above log.0 log.1)
  where
    of_log : List LogReading
    of_log = files_of has.log.head.segment has.log files

    reached_by : (file : LogReading) → Contains of_log file → (r : Logged) × Contains file.records r × (time < r.timestamp) → time < last
    reached_by file at found =
        let among = in_flat_map times_of of_log file found.0.timestamp at (tail_in file.head.from found.0.timestamp (map time_of file.records) (in_map time_of file.records found.0 found.1)) in
        let most : found.0.timestamp ≤ last = All-contains (λ (t : ℕ). t ≤ last) (flat_map times_of of_log) found.0.timestamp has.is_last.1 among in
        let less : time < found.0.timestamp = found.2 in
        omega (arith, most, less)

    by : (log : OpenFile) → SaysLeft logs log has.log → IsSyncedAbove time logs log → time < last
    by log says synced = elim synced.of_log as (λ _. time < last) [
      | inl e ↦ reached_by has.log (own_file files has.log has.stands) (synced_left (λ (r : Logged). time < r.timestamp) log has.log says (subst (HasSynced (λ (r : Logged). time < r.timestamp)) (sym e) synced.above))
      | inr behind ↦
          let z = partner (SaysLeft logs) logs files synced.last are synced.stands in
          let earlier = subst (λ (s : Option Segment × Option Segment). IsEarlier s.0 s.1) (λ i. (sym (segment_left log has.log says) i, sym (segment_left synced.last z.0 z.2) i)) behind in
          reached_by z.0 (later_in_log files has.log z.0 z.1 earlier) (synced_left (λ (r : Logged). time < r.timestamp) synced.last z.0 z.2 synced.above)
    ]

-- ---- ended logs

any_in : {A : Type 0} (p : A → Bool) (xs : List A) (x : A) → Contains xs x → p x ≡ true → list_any p xs ≡ true
any_in p [] x at is = absurd (no_element x at)
any_in p (y ∷ ys) x at is = elim (head_or_tail y x ys at) as (λ _. list_any p (y ∷ ys) ≡ true) [
  | inl e ↦ or_left (p y) (list_any p ys) (ap p e ∙ is)
  | inr later ↦ or_right (p y) (list_any p ys) (any_in p ys x later is)
]

-- what is behind an ended file is not ended, unless that is
pub ends_left : {begin : ℕ} (logs : List OpenFile) (files : List LogReading) → AreOpen begin logs → AllZip (SaysLeft logs) logs files → (x y : LogReading) → Contains files x
    → Contains files y → IsEarlier x.head.segment y.head.segment → is_ended x.records ≡ true → is_ended y.records ≡ true
ends_left logs files open_logs are x y at_x at_y earlier ended =
    let a = partner_of (SaysLeft logs) logs files x are at_x in
    let b = partner_of (SaysLeft logs) logs files y are at_y in
    let time = left_times a.0 x greatest_timestamp a.2 (tail_in x.head.from greatest_timestamp (map time_of x.records) (ended_time x.records ended)) in
    let mark = open_logs.beyond a.0 b.0 a.1 b.1 (behind_left a.0 b.0 x y a.2 b.2 earlier) greatest_timestamp time in
    let found = synced_left (λ (r : Logged). (is_mark r ≡ true) × (greatest_timestamp ≤ r.timestamp)) b.0 y b.2 mark in
    let fits = time_fits b.2.bytes y found.0.timestamp b.2.is_reading (tail_in y.head.from found.0.timestamp (map time_of y.records) (in_map time_of y.records found.0 found.1)) in
    let high : greatest_timestamp ≤ found.0.timestamp = found.2.1 in
    let same : found.0.timestamp ≡ greatest_timestamp = omega (arith, fits, high) in
    any_in is_end y.records found.0 found.1 (and_from (is_mark found.0) (found.0.timestamp == greatest_timestamp) found.2.0 (eq-eqb found.0.timestamp greatest_timestamp same))
