-- The greatest version of the logs and of the chosen checkpoint.
use Rattle.std.proofs.Common.{◌≡◌, ◌⊎◌, ◌∙◌, inl, inr, ℕ, suc, ◌+◌, ◌<◌, ◌≤◌, max, Bool, false, cond, Option, Some, None, List, [], ◌∷◌, ◌++◌, length, get_or, take, map, All, Contains, refl, sym, ap, subst, arith}
use Rattle.std.specs.Prelude.{nat_le, nat_lt, if◌then◌else◌}
use Rattle.std.specs.List.{filter}
use Rattle.std.proofs.lemmas.Bool.{cases_lt, cases_Bool, or_parts, leb-false, ltb-false, lt-ltb, le-ltb}
use Rattle.std.proofs.lemmas.List.{append-nil, map_push, take_more}
use Rattle.std.proofs.lemmas.List.Elements.{All-nil, All-cons, All-weaker, Contains-append_cases, filter-append}
use Rattle.mt_words.specs.declared.record.Change.{Change}
use Rattle.mt_words.specs.declared.update.Origin.{Origin}
use Rattle.mt_words.specs.declared.update.Origin.TheVariants as origins
use Rattle.mt_words.specs.declared.update.Update.{Update}
use Rattle.mt_words.specs.declared.limits.Limits.{Limits}
use Rattle.mt_words.specs.Limits.{limits_of}
use Rattle.mt_words.specs.Changes.{Logged}
use Rattle.mt_words.specs.Updates.{update_at, update_by, update_of, updates_from}
use Rattle.mt_words.proofs.Elements.{no_element, head_or_tail, head_in, tail_in}
use Rattle.mt_record.specs.Logs.{AreRecords, LogReading, IsReading, IsGreatestOf}
use Rattle.mt_record.specs.LogTexts.{version_of, versions_of, greatest}
use Rattle.mt_record.specs.declared.front.LogFront.{LogFront}
use Rattle.mt_scan.specs.declared.log_scan.LogScan.{LogScan}
use Rattle.mt_scan.specs.Scans.{HaveNumbersOf}
use Rattle.mt_scan.specs.Dropping.{ShowsAllBelow}
use Rattle.mt_scan.proofs.Drops.{same_kept}
use Rattle.mt_scan.specs.PartsShown.{KeptPart, shown_by_all}
use Rattle.mt_scan.specs.Steps.Checkpoints.{entries_of}
use Rattle.mt_replay.specs.Survivors.{all_updates, wholes}
use Rattle.mt_recover.specs.Recovery.{AreReadings, records_of}
use Rattle.mt_recover.specs.Report.{versions, is_below}
use Rattle.mt_recover.specs.Steps.LogScans.{ShowAll, kept_by, last_is_late, has_late, version_in}
use Rattle.mt_recover.specs.Steps.Preparing.{entry_versions}

-- ---- the greatest of numbers

-- a number that is 0 or in a list is 0 or in a longer list
behind : (n m : ℕ) (ns : List ℕ) → Contains (0 ∷ ns) m → Contains (0 ∷ n ∷ ns) m
behind n m ns at = elim (head_or_tail 0 m ns at) as (λ _. Contains (0 ∷ n ∷ ns) m) [
  | inl e ↦ subst (Contains (0 ∷ n ∷ ns)) e (head_in 0 (n ∷ ns))
  | inr later ↦ tail_in 0 m (n ∷ ns) (tail_in n m ns later)
]

greatest_in : (ns : List ℕ) → Contains (0 ∷ ns) (greatest ns)
greatest_in [] = head_in 0 []
greatest_in (n ∷ ns) = elim (cases_lt (greatest ns) n) as (λ _. Contains (0 ∷ n ∷ ns) (max n (greatest ns))) [
  | inl less ↦ let same : max n (greatest ns) ≡ n = omega (arith, less) in rw same (tail_in 0 n (n ∷ ns) (head_in n ns))
  | inr least ↦ let same : max n (greatest ns) ≡ greatest ns = omega (arith, least) in rw same (behind n (greatest ns) ns (greatest_in ns))
]

pub none_above : (ns : List ℕ) → All (λ n. n ≤ greatest ns) ns
none_above [] = All-nil (λ n. n ≤ 0)
none_above (n ∷ ns) =
    let top = max n (greatest ns) in
    All-cons (λ k. k ≤ top) n ns (omega arith) (All-weaker (λ k. k ≤ greatest ns) (λ k. k ≤ top) (λ k least. omega (arith, least)) ns (none_above ns))

-- the greatest of some numbers is one of them
pub greatest_among : (n : ℕ) (ns : List ℕ) → Contains (n ∷ ns) (greatest (n ∷ ns))
greatest_among n ns = elim (cases_lt (greatest ns) n) as (λ _. Contains (n ∷ ns) (max n (greatest ns))) [
  | inl less ↦ let same : max n (greatest ns) ≡ n = omega (arith, less) in rw same (head_in n ns)
  | inr least ↦
      let same : max n (greatest ns) ≡ greatest ns = omega (arith, least) in
      rw same (elim (head_or_tail 0 (greatest ns) ns (greatest_in ns)) as (λ _. Contains (n ∷ ns) (greatest ns)) [
        | inl e ↦ let zero : n ≡ greatest ns = omega (arith, least, e) in subst (Contains (n ∷ ns)) zero (head_in n ns)
        | inr later ↦ tail_in n (greatest ns) ns later
      ])
]

pub greatest_is : (ns : List ℕ) → IsGreatestOf (0 ∷ ns) (greatest ns)
greatest_is ns = (greatest_in ns, All-cons (λ k. k ≤ greatest ns) 0 ns (omega arith) (none_above ns))

greatest_last : (ns : List ℕ) (n : ℕ) → greatest (ns ++ n ∷ []) ≡ max n (greatest ns)
greatest_last [] n = refl
greatest_last (m ∷ ns) n = omega (arith, greatest_last ns n)

-- the greatest of the numbers of one more item
pub greatest_more : {A : Type 0} (of : A → ℕ) (items : List A) (i : ℕ) (d : A) (n : ℕ) → i < length items → n ≡ of (get_or items i d)
    → greatest (map of (take (i + 1) items)) ≡ max n (greatest (map of (take i items)))
greatest_more of items i d n fits at =
    ap (λ (xs : List _). greatest (map of xs)) (take_more items i d fits)
    ∙ ap greatest (map_push of (take i items) (get_or items i d))
    ∙ greatest_last (map of (take i items)) (of (get_or items i d))
    ∙ ap (λ (m : ℕ). max m (greatest (map of (take i items)))) (sym at)

-- ---- the versions of logs

pub greatest_both : (us ws : List Update) → greatest (versions (us ++ ws)) ≡ max (greatest (versions us)) (greatest (versions ws))
greatest_both [] ws = omega arith
greatest_both (u ∷ us) ws = omega (arith, greatest_both us ws)

of_change : (origin : Origin) (time : ℕ) (change : Option Change) (us : List Update) → greatest (versions (update_by origin time change ++ us)) ≡ max (version_of change) (greatest (versions us))
of_change origin time None us = omega arith
of_change origin time (Some change) us = refl

-- the greatest version of a log's updates is that of its records
of_records : (log nth : ℕ) (rs : List Logged) → greatest (versions (updates_from log nth rs)) ≡ greatest (versions_of rs)
of_records log nth [] = refl
of_records log nth (r ∷ rs) =
    of_change (origins.Log log nth) r.timestamp r.change (updates_from log (suc nth) rs) ∙ ap (max (version_of r.change)) (of_records log (suc nth) rs)

-- the greatest version of scans is that of the updates of their logs
pub of_scans : (number : ℕ) (scans : List LogScan) (readings : List LogReading) → HaveNumbersOf scans readings
    → greatest (map (λ (scan : LogScan). scan.front.version) scans) ≡ greatest (versions (all_updates number (records_of readings)))
of_scans number [] [] numbers = refl
of_scans number [] (l ∷ ls) numbers = absurd numbers
of_scans number (s ∷ ss) [] numbers = absurd numbers
of_scans number (s ∷ ss) (l ∷ ls) numbers =
    omega (arith, ap (λ (front : LogFront). front.version) numbers.0.front.is, of_records number 0 l.records, of_scans (suc number) ss ls numbers.1, greatest_both (updates_from number 0 l.records) (all_updates (suc number) (records_of ls)))

-- ---- versions below a cutoff

time_of : (origin : Origin) (time : ℕ) (o : Option Change) (u : Update) → Contains (update_by origin time o) u → time ≡ u.timestamp
time_of origin time None u at = absurd (no_element u at)
time_of origin time (Some change) u at = elim (head_or_tail (update_at origin time change) u [] at) as (λ _. time ≡ u.timestamp) [
  | inl same ↦ ap (λ (x : Update). x.timestamp) same
  | inr later ↦ absurd (no_element u later)
]

-- no update is earlier than the records from `low` on
at_least : (limits : Limits) (low log nth : ℕ) (rs : List Logged) (u : Update) → AreRecords limits low rs → Contains (updates_from log nth rs) u → low ≤ u.timestamp
at_least limits low log nth [] u are at = absurd (no_element u at)
at_least limits low log nth (r ∷ rs) u are at = elim (Contains-append_cases (update_of log nth r) (updates_from log (suc nth) rs) u at) as (λ _. low ≤ u.timestamp) [
  | inl here ↦ omega (arith, are.1, time_of (origins.Log log nth) r.timestamp r.change u here)
  | inr later ↦ omega (arith, are.1, at_least limits r.timestamp log (suc nth) rs u are.2 later)
]

-- if the last update is below the cutoff, some update is, or there is none
some_below : (cutoff : ℕ) (without : Bool) (us : List Update) → last_is_late cutoff without us ≡ false → (without ≡ false) ⊎ ((u : Update) × Contains us u × (u.timestamp < cutoff))
some_below cutoff without [] is = inl is
some_below cutoff without (u ∷ us) is = elim (some_below cutoff (nat_le cutoff u.timestamp) us is) as (λ _. (without ≡ false) ⊎ ((v : Update) × Contains (u ∷ us) v × (v.timestamp < cutoff))) [
  | inl low ↦ inr (u, head_in u us, leb-false cutoff u.timestamp low)
  | inr later ↦ inr (later.0, tail_in u later.0 us later.1, later.2)
]

-- the last of the updates is the one that was put behind the others
pub late_end : (cutoff : ℕ) (without : Bool) (us : List Update) (u : Update) → last_is_late cutoff without (us ++ u ∷ []) ≡ nat_le cutoff u.timestamp
late_end cutoff without [] u = refl
late_end cutoff without (v ∷ us) u = late_end cutoff (nat_le cutoff v.timestamp) us u

-- if the last update is below the cutoff, all are, since timestamps never fall
all_below : (limits : Limits) (cutoff low log nth : ℕ) (without : Bool) (rs : List Logged) → AreRecords limits low rs → last_is_late cutoff without (updates_from log nth rs) ≡ false
    → filter (is_below cutoff) (updates_from log nth rs) ≡ updates_from log nth rs
all_below limits cutoff low log nth without [] are is = refl
all_below limits cutoff low log nth without (r ∷ rs) are is = by (λ b later. all_below limits cutoff r.timestamp log (suc nth) b rs are.2 later) r.change is
  where
    rest : List Update
    rest = updates_from log (suc nth) rs

    by : ((b : Bool) → last_is_late cutoff b rest ≡ false → filter (is_below cutoff) rest ≡ rest) → (o : Option Change) → last_is_late cutoff without (update_by (origins.Log log nth) r.timestamp o ++ rest) ≡ false
        → filter (is_below cutoff) (update_by (origins.Log log nth) r.timestamp o ++ rest) ≡ update_by (origins.Log log nth) r.timestamp o ++ rest
    by rests None is = rests without is
    by rests (Some change) is =
        let u = update_at (origins.Log log nth) r.timestamp change in
        let later = rests (nat_le cutoff r.timestamp) is in
        let low : r.timestamp < cutoff = elim (some_below cutoff (nat_le cutoff r.timestamp) rest is) as (λ _. r.timestamp < cutoff) [
          | inl none ↦ leb-false cutoff r.timestamp none
          | inr some ↦ omega (arith, some.2, at_least limits r.timestamp log (suc nth) rs some.0 are.2 some.1)
        ] in
        ap (λ (b : Bool). cond b (u ∷ filter (is_below cutoff) rest) (filter (is_below cutoff) rest)) (lt-ltb r.timestamp cutoff low) ∙ ap (λ (us : List Update). u ∷ us) later

none_lost : (kept lost all : List Update) → kept ++ lost ≡ all → length lost ≡ 0 → kept ≡ all
none_lost kept [] all is none = sym (append-nil kept) ∙ is
none_lost kept (u ∷ us) all is none = absurd (omega (arith, none))

-- nothing at or after the cutoff is below it
late_is_not : (cutoff : ℕ) (u : Update) → cutoff ≤ u.timestamp → is_below cutoff u ≡ false
late_is_not cutoff u late = le-ltb u.timestamp cutoff late

-- the version that a scan shows is that of its log
of_scan_below : (cutoff number : ℕ) (bytes : List ℕ) (scan : LogScan) (log : LogReading) → IsReading bytes log → ShowsAllBelow cutoff number scan log
    → version_in cutoff scan ≡ greatest (versions (filter (is_below cutoff) (updates_from number 0 log.records)))
of_scan_below cutoff number bytes scan log read shows = elim (cases_Bool (has_late cutoff scan)) as (λ _. version_in cutoff scan ≡ greatest (versions (filter (is_below cutoff) all))) [
  | inl late ↦
      ap (λ (b : Bool). if b then greatest (versions (filter (is_below cutoff) (kept_by scan))) else scan.front.version) late
      ∙ ap (λ (us : List Update). greatest (versions us)) (same_kept (is_below cutoff) number cutoff scan log (late_is_not cutoff) shows)
  | inr none ↦
      let both = or_parts (nat_lt 0 scan.dropped) (last_is_late cutoff false (kept_by scan)) none in
      let dropped : scan.dropped ≤ 0 = ltb-false 0 scan.dropped both.0 in
      let whole : kept_by scan ≡ all = none_lost (kept_by scan) shows.lost all shows.updates (omega (arith, dropped, shows.dropped)) in
      ap (λ (b : Bool). if b then greatest (versions (filter (is_below cutoff) (kept_by scan))) else scan.front.version) none
      ∙ ap (λ (front : LogFront). front.version) shows.numbers.front.is
      ∙ sym (of_records number 0 log.records)
      ∙ ap (λ (us : List Update). greatest (versions us))
      (sym (all_below (limits_of log.head.format) cutoff 0 number 0 false log.records read.is_log.lawful (ap (last_is_late cutoff false) (sym whole) ∙ both.1)))
]
  where
    all : List Update
    all = updates_from number 0 log.records

pub of_scans_below : (cutoff number : ℕ) (bytes : List (List ℕ)) (scans : List LogScan) (readings : List LogReading) → AreReadings bytes readings → ShowAll cutoff number scans readings
    → greatest (map (version_in cutoff) scans) ≡ greatest (versions (filter (is_below cutoff) (all_updates number (records_of readings))))
of_scans_below cutoff number [] [] [] read show = refl
of_scans_below cutoff number bytes [] (l ∷ ls) read show = absurd show
of_scans_below cutoff number bytes (s ∷ ss) [] read show = absurd show
of_scans_below cutoff number (b ∷ bs) [] [] read show = absurd read
of_scans_below cutoff number [] (s ∷ ss) (l ∷ ls) read show = absurd read
of_scans_below cutoff number (b ∷ bs) (s ∷ ss) (l ∷ ls) read show =
    let first = updates_from number 0 l.records in
    let rest = all_updates (suc number) (records_of ls) in
    omega (
      arith,
      of_scan_below cutoff number b s l read.0 show.0,
      of_scans_below cutoff (suc number) bs ss ls read.1 show.1,
      greatest_both (filter (is_below cutoff) first) (filter (is_below cutoff) rest),
      ap (λ (us : List Update). greatest (versions us)) (filter-append (is_below cutoff) first rest),
    )

-- ---- the versions of entries

entries_both : (es fs : List Change) → greatest (entry_versions (es ++ fs)) ≡ max (greatest (entry_versions es)) (greatest (entry_versions fs))
entries_both [] fs = omega arith
entries_both (e ∷ es) fs = omega (arith, entries_both es fs)

-- the greatest version of parts is that of all their entries
pub of_parts : (parts : List KeptPart) → greatest (map (λ (part : KeptPart). greatest (entry_versions part.entries)) parts) ≡ greatest (entry_versions (entries_of (shown_by_all parts)))
of_parts [] = refl
of_parts (p ∷ ps) = omega (arith, entries_both p.entries (entries_of (shown_by_all ps)), of_parts ps)

-- the greatest version of entries is that of their updates
pub of_entries : (es : List Change) → greatest (versions (wholes es)) ≡ greatest (entry_versions es)
of_entries [] = refl
of_entries (e ∷ es) = ap (max e.version) (of_entries es)
