-- The counts of a check.
use Rattle.std.proofs.Common.{◌≡◌, ◌∙◌, ℕ, ◌+◌, ◌-◌, ◌<◌, ◌≤◌, ◌^◌, min, Bool, true, false, List, [], ◌∷◌, ◌++◌, length, Option, Some, None, refl, ap, subst, arith, cond}
use Rattle.std.specs.Prelude.{◌&&◌, not, nat_le}
use Rattle.std.specs.List.{All, filter, flat_map}
use Rattle.std.proofs.lemmas.Bool.Decides.{nat_tests}
use Rattle.std.proofs.lemmas.List.{length-append}
use Rattle.std.proofs.lemmas.List.Elements.{All-head, All-tail, filter-append}
use Rattle.mt_words.specs.declared.fault.What.{What}
use Rattle.mt_words.specs.Changes.{Logged, is_mark}
use Rattle.mt_record.specs.Heads.{head_bytes}
use Rattle.mt_record.specs.Spelling.{spelling}
use Rattle.mt_record.specs.Logs.{latest, LogReading}
use Rattle.mt_record.specs.LogTexts.{front_of, tail_rest}
use Rattle.mt_record.specs.declared.front.LogFront.{LogFront}
use Rattle.mt_record.specs.declared.front.Rest.{Rest}
use Rattle.mt_record.specs.declared.front.Rest.TheVariants.{Nothing, Torn, Faulty}
use Rattle.mt_record.proofs.FileFeeds.{has_read}
use Rattle.mt_record.proofs.Opened.{reading_of_front}
use Rattle.mt_record.proofs.LogFeeds.{front_last}
use Rattle.mt_record.specs.declared.kept.log.Dropped.{Dropped}
use Rattle.mt_record.specs.Cutting.{HasCut, IsCountOf}
use Rattle.mt_record.specs.LogFeeding.{LogSoFar, IsLogFed, FedLog, HoldsLog}
use Rattle.mt_scan.specs.declared.checking.CheckingFeed.{CheckingFeed}
use Rattle.mt_scan.specs.declared.checking.LogCheck.{LogCheck}
use Rattle.mt_scan.specs.Checks.{is_late_record, IsCheckOf}
use Rattle.mt_scan.specs.Scans.{last_in, IsSoundFront}
use Rattle.mt_scan.specs.Steps.Checking.{HasCounted}
use Rattle.mt_scan.proofs.Rises.{Rise, read_rise, rise_front, rise_behind, cut_below}
use Rattle.mt_record.proofs.RecordLemmas.{marks_and_updates}
use Rattle.mt_scan.proofs.DroppingFeeds.{count_both}
use Rattle.mt_scan.proofs.SharedScans.{spelled_long}

few_held : (taken : List Logged) (so_far : LogSoFar) (front : List ℕ) → HoldsLog taken so_far front → length (taken ++ so_far.ready) ≤ length front
few_held taken so_far front h = by so_far.front refl
  where
    by : (read : Option LogFront) → so_far.front ≡ read → length (taken ++ so_far.ready) ≤ length front
    by None is = let none = rw is at h in omega (arith, ap length none.1)
    by (Some read) is =
        let are = rw is at h in
        let records = taken ++ so_far.ready in
        omega (arith, ap length are.spelled, length-append (head_bytes read.head) (flat_map spelling records), spelled_long records)

-- there are no more records than bytes
few_read : (feed : FedLog) (bytes : List ℕ) (taken : List Logged) → IsLogFed feed bytes taken → length (taken ++ feed.so_far.ready) ≤ length bytes
few_read feed bytes taken fed = let (front, read, short) = has_read feed bytes taken fed in omega (arith, short, few_held taken feed.so_far front read)

rise_low : (low : ℕ) (xs : List Logged) → Rise low xs → Rise 0 xs
rise_low low [] rise = tt
rise_low low (x ∷ xs) rise = (omega arith, rise.1)

-- none of the records below the limit is late
none_late : (limit : ℕ) (xs : List Logged) → All (λ r. r.timestamp < limit) xs → length (filter (is_late_record limit) xs) ≡ 0
none_late limit [] all = refl
none_late limit (x ∷ xs) all =
    let below = All-head (λ (r : Logged). r.timestamp < limit) x xs all in
    let early : nat_le limit x.timestamp ≡ false = grind (arith, nat_tests) in
    ap (λ b. length (cond (not (is_mark x) && b) (x ∷ filter (is_late_record limit) xs) (filter (is_late_record limit) xs))) early
    ∙ by (is_mark x)
    ∙ none_late limit xs (All-tail (λ (r : Logged). r.timestamp < limit) x xs all)
  where
    by : (mark : Bool) → length (cond (not mark && false) (x ∷ filter (is_late_record limit) xs) (filter (is_late_record limit) xs)) ≡ length (filter (is_late_record limit) xs)
    by true = refl
    by false = refl

-- of the records past the limit, those are late that are no marks
all_late : (limit : ℕ) (xs : List Logged) → All (λ r. limit ≤ r.timestamp) xs → length (filter (is_late_record limit) xs) + length (filter is_mark xs) ≡ length xs
all_late limit [] all = refl
all_late limit (x ∷ xs) all =
    let past = All-head (λ (r : Logged). limit ≤ r.timestamp) x xs all in
    let late : nat_le limit x.timestamp ≡ true = grind (arith, nat_tests) in
    let rest = all_late limit xs (All-tail (λ (r : Logged). limit ≤ r.timestamp) x xs all) in
    ap (λ b. length (cond (not (is_mark x) && b) (x ∷ filter (is_late_record limit) xs) (filter (is_late_record limit) xs)) + length (cond (is_mark x) (x ∷ filter is_mark xs) (filter is_mark xs))) late
    ∙ by rest (is_mark x)
  where
    by : length (filter (is_late_record limit) xs) + length (filter is_mark xs) ≡ length xs → (mark : Bool)
        → length (cond (not mark && true) (x ∷ filter (is_late_record limit) xs) (filter (is_late_record limit) xs)) + length (cond mark (x ∷ filter is_mark xs) (filter is_mark xs)) ≡ length (x ∷ xs)
    by rest true = omega (arith, rest)
    by rest false = omega (arith, rest)

-- there are no more marks than records
most_marks : (rs : List Logged) → length (filter is_mark rs) ≤ length rs
most_marks rs = omega (arith, marks_and_updates 0 0 rs)

most_late : (limit : ℕ) (rs : List Logged) → length (filter (is_late_record limit) rs) ≤ length rs
most_late limit [] = omega arith
most_late limit (r ∷ rs) = by (most_late limit rs) (is_late_record limit r)
  where
    by : length (filter (is_late_record limit) rs) ≤ length rs → (late : Bool) → length (cond late (r ∷ filter (is_late_record limit) rs) (filter (is_late_record limit) rs)) ≤ length (r ∷ rs)
    by rest true = omega (arith, rest)
    by rest false = omega (arith, rest)

late_both : (limit : ℕ) (xs ys : List Logged) → length (filter (is_late_record limit) (xs ++ ys)) ≡ length (filter (is_late_record limit) xs) + length (filter (is_late_record limit) ys)
late_both limit xs ys = ap length (filter-append (is_late_record limit) xs ys) ∙ length-append (filter (is_late_record limit) xs) (filter (is_late_record limit) ys)

-- one more chunk was fed, and its records were counted and dropped
pub counts_more : (old new : CheckingFeed) (fed : FedLog) (before bytes : List ℕ) (late others : Dropped) → HasCounted old before → length bytes < 2 ^ 64 → new.limit ≡ old.limit
    → ((records : List Logged) → IsLogFed old.feed before records → IsLogFed fed bytes records)
    → ((records : List Logged) → IsLogFed fed bytes records → IsLogFed new.feed bytes (records ++ fed.so_far.ready))
    → new.feed ≡ record fed { so_far = record fed.so_far { ready = [] } }
    → (kept : List Logged) × HasCut old.limit fed.so_far.ready kept late × IsCountOf kept others
    → new.late ≡ min (old.late + late.updates) (2 ^ 64 - 1) → new.marks ≡ min (min (old.marks + late.marks) (2 ^ 64 - 1) + others.marks) (2 ^ 64 - 1)
    → HasCounted new bytes
counts_more old new fed before bytes late others h small same feeds drops dropped (kept, cut, counted) lates marks =
    let limit = old.limit in
    let ready = fed.so_far.ready in
    let was = feeds h.records h.fed in
    let (front, read, short) = has_read fed bytes h.records was in
    let number = few_read fed bytes h.records was in
    let rise = rise_behind 0 h.records ready (read_rise h.records fed.so_far front read) in
    let kept_rise = rise_low (latest 0 h.records) kept (rise_front (latest 0 h.records) kept cut.late (subst (Rise (latest 0 h.records)) cut.joins rise)) in
    let none = none_late limit kept (cut_below limit limit kept kept_rise cut.ends (omega arith)) in
    let all = all_late limit cut.late cut.past in
    let marks_in : length (filter is_mark ready) ≡ length (filter is_mark (kept ++ cut.late)) = ap (λ (rs : List Logged). length (filter is_mark rs)) cut.joins in
    let late_in : length (filter (is_late_record limit) ready) ≡ length (filter (is_late_record limit) (kept ++ cut.late)) = ap (λ (rs : List Logged). length (filter (is_late_record limit) rs)) cut.joins in
    let all_marks = most_marks (h.records ++ ready) in
    record {
      records = h.records ++ ready;
      fed = drops h.records was;
      none = ap (λ (f : FedLog). f.so_far.ready) dropped;
      few = omega (arith, number, small);
      marks = omega (arith, number, small, all_marks, marks, h.marks, marks_in, count_both h.records ready, count_both kept cut.late, cut.counted.marks, counted.marks);
      late = rw same (omega (arith, number, small, most_late limit (h.records ++ ready), lates, h.late, late_in, none, all, late_both limit h.records ready, late_both limit kept cut.late, cut.counted.marks, cut.counted.count));
    }

-- ---- the front of a check

-- the front of a log whose records are followed by nothing or a torn tail
front_with : (limit : ℕ) (bytes : List ℕ) (check : LogCheck) (torn : Bool) → IsCheckOf limit bytes check → check.front.rest ≡ tail_rest torn → IsSoundFront bytes check.front
front_with limit bytes check torn is rest =
    let front = is.front in
    let reading : LogReading = record { head = check.front.head; records = is.records; torn = torn } in
    let is_reading = reading_of_front bytes is.records check.front torn front rest in
    let same = front.numbers ∙ ap (front_of check.front.head is.records) rest in
    record { log = reading; is_reading = is_reading; shows = record { is = same; last = front_last bytes reading check.front (last_in check.front) refl is_reading same; count = is.count } }

pub front_of_check : (limit : ℕ) (bytes : List ℕ) (check : LogCheck) → IsCheckOf limit bytes check → ((what : What) → check.front.rest ≡ Faulty what → ⊥) → IsSoundFront bytes check.front
front_of_check limit bytes check is sound = by check.front.rest refl
  where
    by : (rest : Rest) → check.front.rest ≡ rest → IsSoundFront bytes check.front
    by Nothing e = front_with limit bytes check false is e
    by Torn e = front_with limit bytes check true is e
    by (Faulty what) e = absurd (sound what e)
