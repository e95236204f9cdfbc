-- The scan of a feed that dropped late records.
use Rattle.std.proofs.Common.{◌≡◌, ◌∙◌, ℕ, suc, ◌+◌, ◌<◌, ◌≤◌, ◌^◌, List, [], ◌∷◌, ◌++◌, length, Option, Some, None, refl, sym, ap, subst, append_assoc, arith}
use Rattle.std.specs.List.{All, filter, flat_map}
use Rattle.std.proofs.lemmas.List.{append-nil, length-append}
use Rattle.std.proofs.lemmas.List.Elements.{All-append, All-nil, All-cons, All-head, All-tail}
use Rattle.mt_words.specs.declared.record.Change.{Change}
use Rattle.mt_words.specs.declared.update.Update.{Update}
use Rattle.mt_words.specs.Changes.{Logged, is_mark}
use Rattle.mt_words.specs.Updates.{updates_from, update_of}
use Rattle.mt_record.specs.declared.read.LogText.{LogText}
use Rattle.mt_record.specs.Spelling.{spelling}
use Rattle.mt_record.specs.Heads.{head_bytes}
use Rattle.mt_record.specs.Logs.{LogReading, IsReading}
use Rattle.mt_record.specs.declared.front.LogFront.{LogFront}
use Rattle.mt_record.specs.LogTexts.{front_in, IsTextIn}
use Rattle.mt_record.proofs.LogFeeds.{front_last}
use Rattle.mt_record.proofs.Opened.{text_long}
use Rattle.mt_record.proofs.RecordLemmas.{marks_and_updates}
use Rattle.mt_scan.specs.declared.dropping_feed.DroppingFeed.{DroppingFeed}
use Rattle.mt_scan.specs.declared.log_scan.LogScan.{LogScan}
use Rattle.mt_scan.specs.Scans.{last_in, HasNumbersOf}
use Rattle.mt_scan.specs.Dropping.{HasAllBelow, KeepsOnlyBelow}
use Rattle.mt_scan.specs.Steps.DroppingFeeds.{taken_of, kept_in, scan_from, GoesOn, KeepsRecords, IsFedBelow}
use Rattle.mt_scan.proofs.DroppingFeeds.{count_both}

-- the encoding of records has at least as many bytes as there are records
pub spelled_long : (rs : List Logged) → length rs ≤ length (flat_map spelling rs)
spelled_long [] = omega arith
spelled_long (r ∷ rs) =
    let rest = spelled_long rs in
    let one : 1 ≤ length (spelling r) = omega arith in
    omega (arith, rest, one, length-append (spelling r) (flat_map spelling rs))

pub reading_long : (bytes : List ℕ) (log : LogReading) → IsReading bytes log → length log.records ≤ length bytes
reading_long bytes log is =
    let spelled = ap length is.is_log.spelled in
    let all = text_long bytes is.text is.ended is.opens in
    omega (arith, spelled, all, length-append (head_bytes log.head) (flat_map spelling log.records ++ is.tail), length-append (flat_map spelling log.records) is.tail, spelled_long log.records)

updates_both : (log nth : ℕ) (xs ys : List Logged) → updates_from log nth xs ++ updates_from log (nth + length xs) ys ≡ updates_from log nth (xs ++ ys)
updates_both log nth [] ys = ap (λ (n : ℕ). updates_from log n ys) (omega arith)
updates_both log nth (x ∷ xs) ys =
    append_assoc (update_of log nth x) (updates_from log (suc nth) xs) (updates_from log (nth + length (x ∷ xs)) ys)
    ∙ ap (λ (us : List Update). update_of log nth x ++ us) (ap (λ (n : ℕ). updates_from log (suc nth) xs ++ updates_from log n ys) (omega arith) ∙ updates_both log (suc nth) xs ys)

-- a fact of the timestamps of records is a fact of the timestamps of their updates
all_updates : (P : ℕ → Type 0) (log nth : ℕ) (rs : List Logged) → All (λ r. P r.timestamp) rs → All (λ u. P u.timestamp) (updates_from log nth rs)
all_updates P log nth [] all = All-nil (λ (u : Update). P u.timestamp)
all_updates P log nth (r ∷ rs) all =
    All-append (λ (u : Update). P u.timestamp) (update_of log nth r) (updates_from log (suc nth) rs) (one r.change refl)
    (all_updates P log (suc nth) rs (All-tail (λ (q : Logged). P q.timestamp) r rs all))
  where
    one : (change : Option Change) → r.change ≡ change → All (λ (u : Update). P u.timestamp) (update_of log nth r)
    one None is = rw is (All-nil (λ (u : Update). P u.timestamp))
    one (Some change) is = rw is (All-cons (λ (u : Update). P u.timestamp) _ [] (All-head (λ (q : Logged). P q.timestamp) r rs all) (All-nil (λ (u : Update). P u.timestamp)))

-- the records of the log are those that were kept, then those that were dropped
joins : (limit : ℕ) (kept : Option (List Logged)) (late ready records : List Logged) (text : LogText (List Logged)) → GoesOn limit kept late → KeepsRecords limit kept ready → text.records ≡ ready
    → (taken_of kept ++ late) ++ text.records ≡ records → kept_in kept text ++ late ≡ records
joins limit None late ready records text none keeps same is =
    ap (λ (l : List Logged). text.records ++ l) none ∙ append-nil text.records ∙ ap (λ (l : List Logged). l ++ text.records) (sym none) ∙ is
joins limit (Some kept) late ready records text goes_on keeps same is =
    sym (append-nil (kept ++ late)) ∙ ap (λ (l : List Logged). (kept ++ late) ++ l) (sym (same ∙ keeps.0)) ∙ is

below : (limit : ℕ) (kept : Option (List Logged)) (ready : List Logged) (text : LogText (List Logged)) → KeepsRecords limit kept ready → text.records ≡ ready → All (λ r. r.timestamp < limit) (kept_in kept text)
below limit None ready text keeps same = subst (All (λ (r : Logged). r.timestamp < limit)) (sym same) keeps
below limit (Some kept) ready text keeps same = keeps.1

-- the numbers of a scan are those of its log, if the marks are counted exactly and the records are few
pub has_numbers : (bytes : List ℕ) (log : LogReading) (scan : LogScan) → IsReading bytes log → scan.front ≡ front_in log → length log.records < 2 ^ 64 → scan.marks ≡ length (filter is_mark log.records) → HasNumbersOf scan log
has_numbers bytes log scan is front few marks = record {
  front = record { is = front; last = front_last bytes log scan.front (last_in scan.front) refl is front; count = omega (arith, few, ap (λ (f : LogFront). f.count) front) };
  marks = marks;
}

pub scan_is : (feed : DroppingFeed) (limit number : ℕ) (bytes : List ℕ) (text : LogText (List Logged)) (h : IsFedBelow feed limit bytes) → length bytes < 2 ^ 64 → feed.feed.fault ≡ None
    → IsTextIn (λ records. records) (taken_of feed.kept ++ h.read.late) bytes text → text.records ≡ feed.feed.so_far.ready
    → HasAllBelow limit number bytes (scan_from number text feed.kept feed.dropped feed.marks) × KeepsOnlyBelow limit (scan_from number text feed.kept feed.dropped feed.marks)
scan_is feed limit number bytes text h small sound is same =
    let late : List Logged = h.read.late in
    let taken : List Logged = taken_of feed.kept ++ late in
    let early : List Logged = kept_in feed.kept text in
    let keeps = h.keeps sound in
    let all : early ++ late ≡ is.log.records = joins limit feed.kept late feed.feed.so_far.ready is.log.records text (h.read.goes_on sound) keeps same is.shows.records in
    let long = reading_long bytes is.log is.is_reading in
    let lengths = ap length all in
    let parts = length-append early late in
    let marks : length (filter is_mark is.log.records) ≡ length (filter is_mark early) + length (filter is_mark late) = ap (λ (rs : List Logged). length (filter is_mark rs)) (sym all) ∙ count_both early late in
    let some = marks_and_updates number 0 early in
    let others = marks_and_updates number (0 + length early) late in (
      record {
        log = is.log;
        is_reading = is.is_reading;
        shows = record {
          numbers = has_numbers bytes is.log (scan_from number text feed.kept feed.dropped feed.marks) is.is_reading is.shows.front (omega (arith, long, small))
              (omega (arith, marks, h.read.marks, some, others, lengths, parts, long, small));
          lost = updates_from number (0 + length early) late;
          updates = updates_both number 0 early late ∙ ap (updates_from number 0) all;
          past = all_updates (λ (n : ℕ). limit ≤ n) number (0 + length early) late h.read.past;
          dropped = omega (arith, h.read.dropped, others, lengths, parts, long, small);
        };
      },
      all_updates (λ (n : ℕ). n < limit) number 0 early (below limit feed.kept feed.feed.so_far.ready text keeps same),
    )
