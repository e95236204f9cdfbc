-- A server that runs can acknowledge a new update: it marks and syncs its logs, and writes the update to a new one.
use Rattle.std.proofs.Common.{◌≡◌, ◌⊎◌, inl, inr, ℕ, suc, ◌+◌, ◌<◌, ◌≤◌, true, Option, Some, None, List, [], ◌∷◌, ◌++◌, map, Contains, refl, sym, ap, ◌∙◌, subst, append_assoc, arith}
use Rattle.std.specs.Prelude.{IfSome}
use Rattle.std.specs.List.{AllZip, flat_map}
use Rattle.std.proofs.lemmas.Bool.{cases_lt}
use Rattle.std.proofs.lemmas.List.{append-nil}
use Rattle.std.proofs.lemmas.List.Concat.{flat_map-append}
use Rattle.std.proofs.lemmas.List.Elements.{Contains-append_left, Contains-append_right, Contains-append_cases}
use Rattle.mt_words.specs.declared.limits.Format.TheVariants.{Two}
use Rattle.mt_words.specs.declared.record.Change.{Change}
use Rattle.mt_words.specs.declared.update.Origin.{Origin}
use Rattle.mt_words.specs.declared.update.Origin.TheVariants as origins
use Rattle.mt_words.specs.declared.update.Update.{Update}
use Rattle.mt_words.specs.Built.{mark_of}
use Rattle.mt_words.specs.Changes.{Logged, changed, is_mark, IsLoggedChange}
use Rattle.mt_words.specs.Limits.{limits_of, widest}
use Rattle.mt_words.specs.Updates.{update_at, update_of, updates_from}
use Rattle.mt_words.proofs.Elements.{no_element, head_or_tail, head_in, tail_in}
use Rattle.mt_record.specs.declared.feed.head.Head.{Head}
use Rattle.mt_record.specs.Encoding.{head_of}
use Rattle.mt_record.specs.Heads.{head_bytes}
use Rattle.mt_record.specs.Logs.{AreRecords, latest, LogReading, IsReading}
use Rattle.mt_record.specs.Resuming.{greatest_timestamp}
use Rattle.mt_record.specs.Spelling.{spelling}
use Rattle.mt_record.proofs.Records.{records_push}
use Rattle.mt_scan.specs.Choice.{CheckpointReading}
use Rattle.mt_scan.specs.Segments.{IsEarlier}
use Rattle.mt_replay.specs.Survivors.{all_updates}
use Rattle.mt_replay.proofs.Members.{of_map, in_map}
use Rattle.mt_recover.specs.Recovery.{begin_of}
use Rattle.mt_writer.specs.Files.{OpenFile, file_bytes, file_reading, HasSynced, IsOpenFile, IsWritten, IsSynced}
use Rattle.mt_record.proofs.Opened.{whole_reading}
use Rattle.mt_laws.specs.Lives.{IsBehind, AreOpen, IsSyncedAbove, AllSyncedAbove, LogOf, there, deleted, those_there, IsStill, as_written, records_in, history_of, updates_in, Checkpoints, IsNewOver, MayComeNext, running, write, sync, add_file, acknowledge, Life, then}
use Rattle.mt_laws.proofs.LeftFiles.{says_less, earlier_or_not, later_or_last}
use Rattle.mt_laws.proofs.ResumedLogs.{ClaimsNoMore, once_stays, gaps_stay}
use Rattle.mt_laws.proofs.Paired.{partner, partner_of, zip_weaker, zip_map, zip_through}
use Rattle.mt_laws.proofs.KeptLogs.{zip_there, still_weaker, there_append, HasSame, same_history}
use Rattle.mt_laws.proofs.Living.{all_of_it, above_added, life_holds}
use Rattle.mt_laws.proofs.SomeLife.{only_one}
use Rattle.mt_laws.proofs.Successors.{earlier_too, not_earlier}
use Rattle.mt_laws.proofs.Added.{MayBeAdded, opens_with, not_alone, fresh_added}

-- ---- the last file of a log

-- the file, or one of these that is later in its log; none of these is later still
record IsLastIn (files : List OpenFile) (file last : OpenFile) : Type 0 where
  of_log : (file ≡ last) ⊎ (IsBehind file last × Contains files last)
  none_later : (x : OpenFile) → Contains files x → IsBehind last x → ⊥

one_more : (f : OpenFile) (fs : List OpenFile) (file : OpenFile) → IsBehind file f ⊎ (IsBehind file f → ⊥) → (last : OpenFile) × IsLastIn fs f last
    → (last : OpenFile) × IsLastIn fs file last → (last : OpenFile) × IsLastIn (f ∷ fs) file last
one_more f fs file (inl earlier) rest _ = (
  rest.0,
  record {
    of_log = inr (elim rest.1.of_log as (λ _. IsBehind file rest.0 × Contains (f ∷ fs) rest.0) [
      | inl e ↦ (subst (IsBehind file) e earlier, subst (Contains (f ∷ fs)) e (head_in f fs))
      | inr both ↦ (earlier_too file.head.segment f.head.segment rest.0.head.segment earlier both.0, tail_in f rest.0 fs both.1)
    ]);
    none_later = λ x at later. elim (head_or_tail f x fs at) as (λ _. ⊥) [
      | inl e ↦
          let again = subst (IsBehind rest.0) (sym e) later in
          elim rest.1.of_log as (λ _. ⊥) [
            | inl same ↦ not_earlier f.head.segment (subst (λ (y : OpenFile). IsBehind y f) (sym same) again)
            | inr both ↦ not_earlier f.head.segment (earlier_too f.head.segment rest.0.head.segment f.head.segment both.0 again)
          ]
      | inr among ↦ rest.1.none_later x among later
    ];
  },
)
one_more f fs file (inr not) _ rest = (
  rest.0,
  record {
    of_log = elim rest.1.of_log as (λ _. (file ≡ rest.0) ⊎ (IsBehind file rest.0 × Contains (f ∷ fs) rest.0)) [ inl e ↦ inl e | inr both ↦ inr (both.0, tail_in f rest.0 fs both.1) ];
    none_later = λ x at later. elim (head_or_tail f x fs at) as (λ _. ⊥) [
      | inl e ↦
          let first = subst (IsBehind rest.0) (sym e) later in
          elim rest.1.of_log as (λ _. ⊥) [
            | inl same ↦ not (subst (λ (y : OpenFile). IsBehind y f) (sym same) first)
            | inr both ↦ not (earlier_too file.head.segment rest.0.head.segment f.head.segment both.0 first)
          ]
      | inr among ↦ rest.1.none_later x among later
    ];
  },
)

last_in : (files : List OpenFile) (file : OpenFile) → (last : OpenFile) × IsLastIn files file last
last_in [] file = (file, record { of_log = inl refl; none_later = λ x at later. no_element x at })
last_in (f ∷ fs) file = one_more f fs file (earlier_or_not file.head.segment f.head.segment) (last_in fs f) (last_in fs file)

-- ---- files that stay open

-- The file has the header that it had, and is open. If it is behind another, it is synced whole, and nothing was appended.
pub record StaysOpen (files : List OpenFile) (before after : OpenFile) : Type 0 where
  pub head : after.head ≡ before.head
  pub is_open : IsOpenFile after
  pub whole : (other : OpenFile) → Contains files other → IsBehind before other → after.synced ≡ file_bytes after
  pub same : (other : OpenFile) → Contains files other → IsBehind before other → after.records ≡ before.records
  pub synced : (time : ℕ) → HasSynced (λ r. (is_mark r ≡ true) × (time ≤ r.timestamp)) before → HasSynced (λ r. (is_mark r ≡ true) × (time ≤ r.timestamp)) after

pub all_stay_open : (begin : ℕ) (files now : List OpenFile) → AllZip (StaysOpen files) files now → AreOpen begin files → AreOpen begin now
all_stay_open begin files now are opens = record {
  each = λ file at. (of file at).2.is_open;
  once = once_stays (map file_reading files) (map file_reading now) claims opens.once;
  no_gap = gaps_stay begin (map file_reading files) (map file_reading now) claims opens.no_gap;
  whole = λ a b at_a at_b behind. let x = of a at_a in let y = of b at_b in x.2.whole y.0 y.1 (was_behind a b x.0 y.0 x.2 y.2 behind);
  beyond = λ a b at_a at_b behind time at.
      let x = of a at_a in
      let y = of b at_b in
      let earlier = was_behind a b x.0 y.0 x.2 y.2 behind in
      let same = x.2.same y.0 y.1 earlier in
      y.2.synced time (opens.beyond x.0 y.0 x.1 y.1 earlier time
      (subst (λ (f : Head × List Logged). Contains (f.0.from ∷ map (λ (r : Logged). r.timestamp) f.1) time) (λ i. (x.2.head i, same i)) at));
}
  where
    of : (file : OpenFile) → Contains now file → (x : OpenFile) × Contains files x × StaysOpen files x file
    of file at = partner_of (StaysOpen files) files now file are at

    was_behind : (a b x y : OpenFile) → StaysOpen files x a → StaysOpen files y b → IsBehind a b → IsBehind x y
    was_behind a b x y of_a of_b behind = subst (λ (h : Head × Head). IsEarlier h.0.segment h.1.segment) (λ i. (of_a.head i, of_b.head i)) behind

    claim : (a b : OpenFile) → StaysOpen files a b → ClaimsNoMore (file_reading a) (file_reading b)
    claim a b is =
        let from : b.head.from ≡ a.head.from = ap (λ (h : Head). h.from) is.head in
        record { segment = ap (λ (h : Head). h.segment) is.head; from = omega (arith, from) }

    claims : AllZip ClaimsNoMore (map file_reading files) (map file_reading now)
    claims = zip_map ClaimsNoMore file_reading file_reading files now (zip_weaker (StaysOpen files) (λ a b. ClaimsNoMore (file_reading a) (file_reading b)) files now claim are)

-- ---- marks

-- A file that is open still, with the updates that it had. It has a record above the timestamp, or is behind another.
record IsMarked (time : ℕ) (files : List OpenFile) (before after : OpenFile) : Type 0 where
  written : IsWritten before after
  stays : StaysOpen files before after
  updates : (log : ℕ) → updates_from log 0 after.records ≡ updates_from log 0 before.records
  above : ((r : Logged) × Contains after.records r × (time < r.timestamp)) ⊎ ((other : OpenFile) × Contains files other × IsBehind before other)

as_it_was : (begin time : ℕ) (files : List OpenFile) (file : OpenFile) → AreOpen begin files → Contains files file
    → ((r : Logged) × Contains file.records r × (time < r.timestamp)) ⊎ ((other : OpenFile) × Contains files other × IsBehind file other) → IsMarked time files file file
as_it_was begin time files file opens at above = record {
  written = record { new = []; head = refl; records = sym (append-nil file.records); synced = refl };
  stays = record {
    head = refl;
    is_open = opens.each file at;
    whole = λ other among behind. opens.whole file other at among behind;
    same = λ other among behind. refl;
    synced = λ t has. has;
  };
  updates = λ log. refl;
  above = above;
}

-- the file with a mark above the timestamp
abbrev with_mark : ℕ → OpenFile → OpenFile
with_mark time file = record file { records = file.records ++ mark_of (time + 1) ∷ [] }

mark_adds_none : (time log nth : ℕ) (rs : List Logged) → updates_from log nth (rs ++ mark_of time ∷ []) ≡ updates_from log nth rs
mark_adds_none time log nth [] = refl
mark_adds_none time log nth (r ∷ rs) = ap (λ (us : List Update). update_of log nth r ++ us) (mark_adds_none time log (suc nth) rs)

marked : (time : ℕ) (files : List OpenFile) (file : OpenFile) → time < greatest_timestamp → IsOpenFile file → latest 0 file.records ≤ time
    → ((other : OpenFile) → Contains files other → IsBehind file other → ⊥) → IsMarked time files file (with_mark time file)
marked time files file fits is most last = record {
  written = record { new = mark_of (time + 1) ∷ []; head = refl; records = refl; synced = refl };
  stays = record {
    head = refl;
    is_open = record {
      is_reading = whole_reading (with_mark time file).head (with_mark time file).records is.is_reading.is_log.is_head lawful;
      synced = record { lost = is.synced.lost ++ flat_map spelling (mark_of (time + 1) ∷ []); begins = begins; header = is.synced.header };
      claim = still (λ r. file.head.from ≤ r.timestamp) is.claim;
    };
    whole = λ other among behind. absurd (last other among behind);
    same = λ other among behind. absurd (last other among behind);
    synced = λ t has. still (λ r. (is_mark r ≡ true) × (t ≤ r.timestamp)) has;
  };
  updates = λ log. mark_adds_none (time + 1) log 0 file.records;
  above = inl (mark_of (time + 1), Contains-append_right file.records (mark_of (time + 1) ∷ []) (mark_of (time + 1)) (head_in (mark_of (time + 1)) []), omega arith);
}
  where
    still : (P : Logged → Type 0) → HasSynced P file → HasSynced P (with_mark time file)
    still P has = record { reading = has.reading; is_reading = has.is_reading; at = has.at; stands = has.stands; holds = has.holds }

    lawful : AreRecords (limits_of file.head.format) 0 (file.records ++ mark_of (time + 1) ∷ [])
    lawful = records_push (limits_of file.head.format) 0 file.records (mark_of (time + 1)) is.is_reading.is_log.lawful (omega (arith, fits), tt) (omega (arith, most))

    begins : file_bytes (with_mark time file) ≡ file.synced ++ (is.synced.lost ++ flat_map spelling (mark_of (time + 1) ∷ []))
    begins =
        let new = flat_map spelling (mark_of (time + 1) ∷ []) in
        ap (λ (l : List ℕ). head_bytes file.head ++ l) (flat_map-append spelling file.records (mark_of (time + 1) ∷ []))
        ∙ sym (append_assoc (head_bytes file.head) (flat_map spelling file.records) new)
        ∙ ap (λ (l : List ℕ). l ++ new) is.synced.begins
        ∙ append_assoc file.synced is.synced.lost new

-- a record above the timestamp, if the last one is
late_record : (low time : ℕ) (rs : List Logged) → low ≤ time → time < latest low rs → (r : Logged) × Contains rs r × (time < r.timestamp)
late_record low time [] most less = absurd (omega (arith, most, less))
late_record low time (r ∷ rs) most less = elim (cases_lt time r.timestamp) as (λ _. (x : Logged) × Contains (r ∷ rs) x × (time < x.timestamp)) [
  | inl own ↦ (r, head_in r rs, own)
  | inr early ↦ let rest = late_record r.timestamp time rs early less in (rest.0, tail_in r rest.0 rs rest.1, rest.2)
]

mark_file : (begin time : ℕ) (files : List OpenFile) (file : OpenFile) → time < greatest_timestamp → AreOpen begin files → Contains files file
    → (after : OpenFile) × IsMarked time files file after
mark_file begin time files file fits opens at = elim (later_or_last (map file_reading files) (file_reading file)) as (λ _. (after : OpenFile) × IsMarked time files file after) [
  | inl later ↦
      let other = of_map file_reading files later.0 later.1 in
      let behind = subst (λ (f : LogReading). IsEarlier file.head.segment f.head.segment) (sym other.2) later.2 in
      (file, as_it_was begin time files file opens at (inr (other.0, other.1, behind)))
  | inr last ↦ elim (cases_lt time (latest 0 file.records)) as (λ _. (after : OpenFile) × IsMarked time files file after) [
    | inl less ↦ (file, as_it_was begin time files file opens at (inl (late_record 0 time file.records (omega arith) less)))
    | inr most ↦ (with_mark time file, marked time files file fits (opens.each file at) most (λ other among. last (file_reading other) (in_map file_reading files other among)))
  ]
]

mark_all : (begin time : ℕ) (files : List OpenFile) (logs : List (LogOf OpenFile)) → time < greatest_timestamp → AreOpen begin files
    → ((file : OpenFile) → Contains (those_there logs) file → Contains files file) → (after : List (LogOf OpenFile)) × AllZip (IsStill (IsMarked time files)) logs after
mark_all begin time files [] fits opens among = ([], tt)
mark_all begin time files (there file ∷ logs) fits opens among =
    let one = mark_file begin time files file fits opens (among file (head_in file (those_there logs))) in
    let rest = mark_all begin time files logs fits opens (λ x at. among x (tail_in file x (those_there logs) at)) in
    (there one.0 ∷ rest.0, (one.1, rest.1))
mark_all begin time files (deleted rs ∷ logs) fits opens among =
    let rest = mark_all begin time files logs fits opens among in
    (deleted rs ∷ rest.0, (refl, rest.1))

same_updates : (time log : ℕ) (files : List OpenFile) (xs ys : List (LogOf OpenFile)) → AllZip (IsStill (IsMarked time files)) xs ys
    → all_updates log (history_of (map as_written ys)) ≡ all_updates log (history_of (map as_written xs))
same_updates time log files [] [] are = refl
same_updates time log files [] (y ∷ ys) are = absurd are
same_updates time log files (x ∷ xs) [] are = absurd are
same_updates time log files (there a ∷ xs) (there b ∷ ys) are = λ i. are.0.updates log i ++ same_updates time (suc log) files xs ys are.1 i
same_updates time log files (there a ∷ xs) (deleted rs ∷ ys) are = absurd are.0
same_updates time log files (deleted rs ∷ xs) (there b ∷ ys) are = absurd are.0
same_updates time log files (deleted rs ∷ xs) (deleted ts ∷ ys) are = λ i. updates_from log 0 (are.0 i) ++ same_updates time (suc log) files xs ys are.1 i

-- ---- syncs

-- the file, synced whole
abbrev wholly : OpenFile → OpenFile
wholly file = record file { synced = file_bytes file }

abbrev sync_all : List (LogOf OpenFile) → List (LogOf OpenFile)
sync_all [] = []
sync_all (there file ∷ logs) = there (wholly file) ∷ sync_all logs
sync_all (deleted rs ∷ logs) = deleted rs ∷ sync_all logs

zip_synced : (R : OpenFile → OpenFile → Type 0) (logs : List (LogOf OpenFile)) → ((file : OpenFile) → Contains (those_there logs) file → R file (wholly file))
    → AllZip (IsStill R) logs (sync_all logs)
zip_synced R [] holds = tt
zip_synced R (there file ∷ logs) holds =
    (holds file (head_in file (those_there logs)), zip_synced R logs (λ x at. holds x (tail_in file x (those_there logs) at)))
zip_synced R (deleted rs ∷ logs) holds = (refl, zip_synced R logs holds)

-- what is synced still is
wholly_synced : (P : Logged → Type 0) (file : OpenFile) → IsOpenFile file → HasSynced P file → HasSynced P (wholly file)
wholly_synced P file is has =
    let begins = says_less file.synced (file_bytes file) (file_reading file) has.reading is.synced is.is_reading has.is_reading in record {
      reading = file_reading file;
      is_reading = is.is_reading;
      at = has.at;
      stands = subst (λ (rs : List Logged). Contains rs has.at) (sym begins.records) (Contains-append_left has.reading.records begins.lost has.at has.stands);
      holds = has.holds;
    }

wholly_open : (files : List OpenFile) (file : OpenFile) → IsOpenFile file → StaysOpen files file (wholly file)
wholly_open files file is = record {
  head = refl;
  is_open = record { is_reading = is.is_reading; synced = all_of_it file is.is_reading; claim = wholly_synced (λ r. file.head.from ≤ r.timestamp) file is is.claim };
  whole = λ other at behind. refl;
  same = λ other at behind. refl;
  synced = λ time has. wholly_synced (λ r. (is_mark r ≡ true) × (time ≤ r.timestamp)) file is has;
}

-- what becomes of a file: it is marked, and synced whole
record IsMarkedWholly (time : ℕ) (files : List OpenFile) (before after : OpenFile) : Type 0 where
  between : OpenFile
  is_marked : IsMarked time files before between
  wholly_is : after ≡ wholly between

all_above : (time : ℕ) (files now : List OpenFile) → AllZip (IsMarkedWholly time files) files now → AllSyncedAbove time now
all_above time files now are file at =
    let last = last_in now file in
    elim last.1.of_log as (λ _. IsSyncedAbove time now file) [
      | inl e ↦ record { last = last.0; stands = subst (Contains now) e at; of_log = inl e; above = above last.0 (subst (Contains now) e at) last.1.none_later }
      | inr both ↦ record { last = last.0; stands = both.1; of_log = inr both.0; above = above last.0 both.1 last.1.none_later }
    ]
  where
    head_was : (x z : OpenFile) → IsMarkedWholly time files x z → z.head ≡ x.head
    head_was x z is = ap (λ (f : OpenFile). f.head) is.wholly_is ∙ is.is_marked.stays.head

    above : (z : OpenFile) → Contains now z → ((x : OpenFile) → Contains now x → IsBehind z x → ⊥) → HasSynced (λ r. time < r.timestamp) z
    above z at_z none_later =
        let x = partner_of (IsMarkedWholly time files) files now z are at_z in
        let marked = x.2.is_marked in
        elim marked.above as (λ _. HasSynced (λ r. time < r.timestamp) z) [
          | inl found ↦ subst (HasSynced (λ r. time < r.timestamp)) (sym x.2.wholly_is) (record {
            reading = file_reading x.2.between;
            is_reading = marked.stays.is_open.is_reading;
            at = found.0;
            stands = found.1;
            holds = found.2;
          })
          | inr other ↦
              let w = partner (IsMarkedWholly time files) files now other.0 are other.1 in
              let head_z = head_was x.0 z x.2 in
              let head_w = head_was other.0 w.0 w.2 in
              absurd (none_later w.0 w.1 (subst (λ (h : Head × Head). IsEarlier h.0.segment h.1.segment) (λ i. (sym head_z i, sym head_w i)) other.2))
        ]

-- ---- a new file

-- a file with the update and a mark above it
abbrev new_file : ℕ → Change → OpenFile
new_file time change = record {
  head = head_of Two 0;
  records = changed time change ∷ mark_of (time + 1) ∷ [];
  synced = head_bytes (head_of Two 0) ++ flat_map spelling (changed time change ∷ mark_of (time + 1) ∷ []);
}

new_reading : (time : ℕ) (change : Change) → time < greatest_timestamp → IsLoggedChange widest change → IsReading (file_bytes (new_file time change)) (file_reading (new_file time change))
new_reading time change fits lawful =
    whole_reading (new_file time change).head (new_file time change).records (record { from = omega arith; segment = tt }) ((omega (arith, fits), lawful), omega arith, ((omega (arith, fits), tt), omega arith, tt))

-- its mark is synced
new_synced : (time : ℕ) (change : Change) → time < greatest_timestamp → IsLoggedChange widest change → (P : Logged → Type 0) → P (mark_of (time + 1))
    → HasSynced P (new_file time change)
new_synced time change fits lawful P holds = record {
  reading = file_reading (new_file time change);
  is_reading = new_reading time change fits lawful;
  at = mark_of (time + 1);
  stands = tail_in (changed time change) (mark_of (time + 1)) (mark_of (time + 1) ∷ []) (head_in (mark_of (time + 1)) []);
  holds = holds;
}

new_added : (begin time : ℕ) (change : Change) → time < greatest_timestamp → IsLoggedChange widest change → (files : List OpenFile) → MayBeAdded begin files (new_file time change)
new_added begin time change fits lawful files = fresh_added begin files (new_file time change) (record {
  is_reading = new_reading time change fits lawful;
  synced = all_of_it (new_file time change) (new_reading time change fits lawful);
  claim = new_synced time change fits lawful (λ r. 0 ≤ r.timestamp) (omega arith);
}) (λ other at one. not_alone other.head.segment None refl one) (omega arith)

-- the updates of the new file, as those of some log
added_in : (log : ℕ) (xs : List (LogOf OpenFile)) (file : OpenFile)
    → (k : ℕ) × ((u : Update) → Contains (updates_from k 0 file.records) u → Contains (all_updates log (history_of (map as_written (xs ++ there file ∷ [])))) u)
added_in log [] file = (log, λ u at. Contains-append_left (updates_from log 0 file.records) [] u at)
added_in log (x ∷ xs) file =
    let rest = added_in (suc log) xs file in
    (rest.0, λ u at. Contains-append_right (updates_from log 0 (records_in (as_written x))) (all_updates (suc log) (history_of (map as_written (xs ++ there file ∷ [])))) u (rest.1 u at))

of_added : (log : ℕ) (xs : List (LogOf OpenFile)) (file : OpenFile) (u : Update) → Contains (all_updates log (history_of (map as_written (xs ++ there file ∷ [])))) u
    → Contains (all_updates log (history_of (map as_written xs))) u ⊎ ((k : ℕ) × Contains (updates_from k 0 file.records) u)
of_added log [] file u at = elim (Contains-append_cases (updates_from log 0 file.records) [] u at) as (λ _. Contains (all_updates log []) u ⊎ ((k : ℕ) × Contains (updates_from k 0 file.records) u)) [
  | inl here ↦ inr (log, here)
  | inr none ↦ absurd (no_element u none)
]
of_added log (x ∷ xs) file u at =
    let own = updates_from log 0 (records_in (as_written x)) in
    let later = all_updates (suc log) (history_of (map as_written xs)) in
    elim (Contains-append_cases own (all_updates (suc log) (history_of (map as_written (xs ++ there file ∷ [])))) u at) as (λ _. Contains (own ++ later) u ⊎ ((k : ℕ) × Contains (updates_from k 0 file.records) u)) [
      | inl here ↦ inl (Contains-append_left own later u here)
      | inr rest ↦ elim (of_added (suc log) xs file u rest) as (λ _. Contains (own ++ later) u ⊎ ((k : ℕ) × Contains (updates_from k 0 file.records) u)) [
        | inl among ↦ inl (Contains-append_right own later u among)
        | inr new ↦ inr new
      ]
    ]

-- ---- the law

above_base : (base : Option CheckpointReading) (time : ℕ) (file : OpenFile) → ((P : Logged → Type 0) → P (mark_of (time + 1)) → HasSynced P file) → IfSome base (λ c. c.end ≤ time)
    → IfSome base (λ c. HasSynced (λ r. c.end < r.timestamp) file)
above_base None time file synced is = tt
above_base (Some c) time file synced is = synced (λ r. c.end < r.timestamp) (omega (arith, is))

pub life_acknowledges : (acked : List Update) (logs : List (LogOf OpenFile)) (checkpoints : Checkpoints) (time : ℕ) (change : Change) → Life (running acked logs checkpoints)
    → MayComeNext acked (updates_in logs) checkpoints time change
    → (origin : Origin) × (after : List (LogOf OpenFile)) × Life (running (update_at origin time change ∷ acked) after checkpoints)
life_acknowledges acked logs checkpoints time change life next =
    let is = life_holds (running acked logs checkpoints) life in
    let begin = begin_of checkpoints.base in
    let files = those_there logs in
    let fits = next.time_left in
    let marks = mark_all begin time files logs fits is.opens (λ file at. at) in
    let a = marks.0 in
    let marked_files = zip_there (IsMarked time files) logs a marks.1 in
    let opens_a = all_stay_open begin files (those_there a) (zip_weaker (IsMarked time files) (StaysOpen files) files (those_there a) (λ x y m. m.stays) marked_files) is.opens in
    let same_a = same_updates time 0 files logs a marks.1 in
    let write_marks = write acked logs a checkpoints (record {
      each = zip_weaker (IsStill (IsMarked time files)) (IsStill IsWritten) logs a (still_weaker (IsMarked time files) IsWritten (λ x y m. m.written)) marks.1;
      opens = opens_a;
      new = λ u at. inl (subst (λ (us : List Update). Contains us u) same_a at);
    }) in
    let b = sync_all a in
    let opens_b = all_stay_open begin (those_there a) (those_there b)
    (zip_there (StaysOpen (those_there a)) a b (zip_synced (StaysOpen (those_there a)) a (λ file at. wholly_open (those_there a) file (opens_a.each file at)))) opens_a in
    let sync_them = sync acked a b checkpoints (zip_synced IsSynced a (λ file at. record { head = refl; records = refl; more = (opens_a.each file at).synced })) opens_b in
    let history : history_of (map as_written a) ≡ history_of (map as_written b) = same_history a b (zip_synced HasSame a (λ file at. refl)) in
    let same_b : updates_in b ≡ updates_in logs = ap (all_updates 0) (sym history) ∙ same_a in
    let file = new_file time change in
    let c = b ++ there file ∷ [] in
    let files_c = there_append b (there file ∷ []) in
    let synced = new_synced time change fits next.lawful in
    let add = add_file acked b checkpoints file (record {
      opens = subst (AreOpen begin) (sym files_c) (opens_with begin (those_there b) file opens_b (new_added begin time change fits next.lawful (those_there b)));
      new = λ u at. elim (of_added 0 b file u at) as (λ _. Contains (updates_in b) u ⊎ ((checkpoint : CheckpointReading) → Contains checkpoints.written checkpoint → IsNewOver (updates_in b) checkpoint u)) [
        | inl old ↦ inl old
        | inr own ↦ inr (λ checkpoint among. subst (λ (x : List Update × Update). IsNewOver x.0 checkpoint x.1)
            (λ i. (sym same_b i, only_one (update_at (origins.Log own.0 0) time change) u own.1 i)) (next.new (origins.Log own.0 0) checkpoint among))
      ];
      above = λ u at. synced (λ r. u.timestamp < r.timestamp) (let most = next.later u at in omega (arith, most));
      above_base = above_base checkpoints.base time file synced next.base;
    }) in
    let place = added_in 0 b file in
    let u = update_at (origins.Log place.0 0) time change in
    let above_b = all_above time files (those_there b) (zip_weaker (λ x z. (y : OpenFile) × IsMarked time files x y × (z ≡ wholly y)) (IsMarkedWholly time files) files (those_there b)
    (λ x z is. record { between = is.0; is_marked = is.1; wholly_is = is.2 })
    (zip_through (IsMarked time files) (λ y z. z ≡ wholly y) files (those_there a) (those_there b) marked_files
    (zip_there (λ y z. z ≡ wholly y) a b (zip_synced (λ y z. z ≡ wholly y) a (λ file at. refl))))) in
    let tell = acknowledge acked c checkpoints u (place.1 u (head_in u []))
    (subst (AllSyncedAbove time) (sym files_c) (above_added time (those_there b) file above_b (synced (λ r. time < r.timestamp) (omega arith)))) in (
      origins.Log place.0 0,
      c,
      then (running acked c checkpoints) (running (u ∷ acked) c checkpoints)
          (then (running acked b checkpoints) (running acked c checkpoints)
          (then (running acked a checkpoints) (running acked b checkpoints) (then (running acked logs checkpoints) (running acked a checkpoints) life write_marks) sync_them) add) tell,
    )
