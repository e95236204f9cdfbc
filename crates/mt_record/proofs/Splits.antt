-- Splitting the records of a log at a cutoff.
use Rattle.std.proofs.Common.{◌≡◌, ◌⊎◌, inl, inr, ℕ, ◌^◌, ◌<◌, ◌≤◌, min, ltb, eqb, Bool, true, false, List, [], ◌∷◌, ◌++◌, length, take, refl, sym, ap, ◌∙◌, append_assoc, arith}
use Rattle.std.specs.Prelude.{◌==◌, ◌||◌, not}
use Rattle.std.specs.List.{flat_map, list_any}
use Rattle.std.proofs.lemmas.Bool.{cases_Bool, cases_lt, lt-ltb, le-ltb, ltb-true, ltb-false, ne_eqb, and_right, or_from}
use Rattle.std.proofs.lemmas.List.Folds.{list_any-append}
use Rattle.std.proofs.lemmas.List.{length-append}
use Rattle.std.proofs.lemmas.Grind.{flat_map-append}
use Rattle.std.proofs.Math.Seq.{take-append_seam}
use Rattle.mt_words.specs.declared.limits.Limits.{Limits}
use Rattle.mt_words.specs.Limits.{limits_of}
use Rattle.mt_words.specs.Changes.{Logged, is_mark}
use Rattle.mt_words.proofs.ColumnBytes.{same_split}
use Rattle.mt_record.specs.Spelling.{spelling}
use Rattle.mt_record.specs.declared.feed.head.Head.{Head}
use Rattle.mt_record.specs.declared.resume.Split.{Split}
use Rattle.mt_record.specs.Heads.{IsHead, head_bytes}
use Rattle.mt_record.specs.Logs.{AreRecords, LogReading, IsReading}
use Rattle.mt_record.specs.Resuming.{greatest_timestamp, is_end, is_ended, below, marks_of, IsResumed}
use Rattle.mt_record.specs.Steps.Splits.{IsSplitIn}
use Rattle.mt_record.proofs.Opened.{plain_reading}
use Rattle.mt_record.proofs.OneLog.{same_head}
use Rattle.mt_record.proofs.Records.{tells_torn}

-- the records below a cutoff have no more bytes than all
pub below_short : (cutoff : ℕ) (rs : List Logged) → length (flat_map spelling (below cutoff rs)) ≤ length (flat_map spelling rs)
below_short cutoff [] = omega arith
below_short cutoff (r ∷ rs) =
    let rest = below_short cutoff rs in
    let all = length-append (spelling r) (flat_map spelling rs) in
    elim (cases_Bool (ltb r.timestamp cutoff)) as (λ _. length (flat_map spelling (below cutoff (r ∷ rs))) ≤ length (flat_map spelling (r ∷ rs))) [
      | inl is ↦ rw is (omega (arith, rest, all, length-append (spelling r) (flat_map spelling (below cutoff rs))))
      | inr not ↦ rw not (omega (arith, rest, all))
    ]

-- records from the cutoff on are not below it
none_below : (limits : Limits) (cutoff low : ℕ) (rs : List Logged) → cutoff ≤ low → AreRecords limits low rs → below cutoff rs ≡ []
none_below limits cutoff low [] most are = refl
none_below limits cutoff low (r ∷ rs) most are =
    let rises : low ≤ r.timestamp = are.1 in
    let late : cutoff ≤ r.timestamp = omega (arith, most, rises) in
    rw (le-ltb r.timestamp cutoff late) (none_below limits cutoff r.timestamp rs late are.2)

-- the bytes of records begin with those of the records below a cutoff
below_first : (limits : Limits) (cutoff low : ℕ) (rs : List Logged) → AreRecords limits low rs → (late : List ℕ) × (flat_map spelling rs ≡ flat_map spelling (below cutoff rs) ++ late)
below_first limits cutoff low [] are = ([], refl)
below_first limits cutoff low (r ∷ rs) are = elim (cases_Bool (ltb r.timestamp cutoff)) as (λ _. (late : List ℕ) × (flat_map spelling (r ∷ rs) ≡ flat_map spelling (below cutoff (r ∷ rs)) ++ late)) [
  | inl is ↦
      let rest = below_first limits cutoff r.timestamp rs are.2 in
      (rest.0, rw is (ap (λ (x : List ℕ). spelling r ++ x) rest.1 ∙ sym (append_assoc (spelling r) (flat_map spelling (below cutoff rs)) rest.0)))
  | inr not ↦ (flat_map spelling (r ∷ rs), rw (not, none_below limits cutoff r.timestamp rs (ltb-false r.timestamp cutoff not) are.2) refl)
]

-- ---- a split log

-- the log with this header and these records, before this tail
abbrev log_of : Head → List Logged → List ℕ → LogReading
log_of head records tail = record { head = head; records = records; torn = not (length tail == 0) }

-- a header and bytes that were split are a log
pub split_log : (bytes rest : List ℕ) (head : Head) (cutoff : ℕ) (split : Split) → IsHead head → bytes ≡ head_bytes head ++ rest → (is : IsSplitIn head.format cutoff rest split)
    → IsReading bytes (log_of head is.records is.tail)
split_log bytes rest head cutoff split is_head e is =
    plain_reading bytes (log_of head is.records is.tail) is.tail
    (record { spelled = e ∙ ap (λ (x : List ℕ). head_bytes head ++ x) is.spelled; is_head = is_head; lawful = is.lawful; ends = is.ends })
    (tells_torn (limits_of head.format) is.tail (length is.tail == 0) refl is.ends)

-- the first bytes are those of the records below the cutoff
pub kept_bytes : (head : Head) (cutoff : ℕ) (rest : List ℕ) (split : Split) → (is : IsSplitIn head.format cutoff rest split)
    → (split.kept ≤ length rest) × (take split.kept rest ≡ flat_map spelling (below cutoff is.records))
kept_bytes head cutoff rest split is =
    let kept = flat_map spelling (below cutoff is.records) in
    let first = below_first (limits_of head.format) cutoff 0 is.records is.lawful in
    let all : rest ≡ kept ++ (first.0 ++ is.tail) = is.spelled ∙ ap (λ (x : List ℕ). x ++ is.tail) first.1 ∙ append_assoc kept first.0 is.tail in
    (omega (arith, is.is_split.kept, ap length all, length-append kept (first.0 ++ is.tail)), (λ i. take (is.is_split.kept i) (all i)) ∙ take-append_seam kept (first.0 ++ is.tail))

-- the header, the records below the cutoff and the marks replace the log
pub split_resumed : (bytes rest header kept marks : List ℕ) (head : Head) (cutoff : ℕ) (split : Split) → IsHead head → bytes ≡ head_bytes head ++ rest → (is : IsSplitIn head.format cutoff rest split)
    → header ≡ head_bytes (record head { from = min head.from cutoff }) → kept ≡ take split.kept rest → marks ≡ flat_map spelling (marks_of cutoff is.records)
    → IsResumed cutoff bytes (header ++ (kept ++ marks))
split_resumed bytes rest header kept marks head cutoff split is_head e is begins below_is marks_are = record {
  log = log_of head is.records is.tail;
  is_reading = split_log bytes rest head cutoff split is_head e is;
  spelled = (λ i. begins i ++ ((below_is ∙ (kept_bytes head cutoff rest split is).1) i ++ marks_are i))
      ∙ ap (λ (x : List ℕ). head_bytes (record head { from = min head.from cutoff }) ++ x) (sym (flat_map-append spelling (below cutoff is.records) (marks_of cutoff is.records)));
}

-- ---- whether anything changes

-- if nothing changes, neither does `from`, and what followed the records that are kept are the marks
pub unchanged : (header kept marks late : List ℕ) (head : Head) (from : ℕ) → IsHead head → from < 2 ^ 64 → header ≡ head_bytes (record head { from = from })
    → header ++ (kept ++ marks) ≡ head_bytes head ++ (kept ++ late) → (from ≡ head.from) × (late ≡ marks)
unchanged header kept marks late head from is_head fits begins e =
    let new : Head = record head { from = from } in
    let same = same_head new head (kept ++ marks) (kept ++ late) (record { from = fits; segment = is_head.segment }) is_head (ap (λ (x : List ℕ). x ++ (kept ++ marks)) (sym begins) ∙ e) in
    (ap (λ (h : Head). h.from) same.0, sym (same_split kept kept marks late refl same.1).1)

-- if neither differs, nothing changes
pub as_before : (header kept marks late : List ℕ) (head : Head) (from : ℕ) → header ≡ head_bytes (record head { from = from }) → from ≡ head.from → late ≡ marks
    → header ++ (kept ++ marks) ≡ head_bytes head ++ (kept ++ late)
as_before header kept marks late head from begins same are = λ i. (begins ∙ ap (λ (n : ℕ). head_bytes (record head { from = n })) same) i ++ (kept ++ sym are i)

-- ---- whether a mark ends the log

none_ended : (cutoff : ℕ) (rs : List Logged) → cutoff < 2 ^ 64 → list_any is_end (below cutoff rs) ≡ false
none_ended cutoff [] fits = refl
none_ended cutoff (r ∷ rs) fits = elim (cases_Bool (ltb r.timestamp cutoff)) as (λ _. list_any is_end (below cutoff (r ∷ rs)) ≡ false) [
  | inl is ↦
      let early : r.timestamp < cutoff = ltb-true r.timestamp cutoff is in
      let apart : (r.timestamp ≡ greatest_timestamp) → ⊥ = λ e. omega (arith, early, fits, e) in
      rw is (or_from (is_end r) (list_any is_end (below cutoff rs)) (and_right (is_mark r) (r.timestamp == greatest_timestamp) (ne_eqb r.timestamp greatest_timestamp apart)) (none_ended cutoff rs fits))
  | inr not ↦ rw not (none_ended cutoff rs fits)
]

-- a mark ends what replaces a log if one ends the log, or if the cutoff is the greatest timestamp
pub ended_resumed : (cutoff : ℕ) (rs : List Logged) → cutoff < 2 ^ 64 → (is_ended rs || (cutoff == greatest_timestamp)) ≡ is_ended (below cutoff rs ++ marks_of cutoff rs)
ended_resumed cutoff rs fits = by (cases_lt cutoff greatest_timestamp) (cases_Bool (list_any is_end rs))
  where
    front : List Logged
    front = below cutoff rs

    Told : Type 0
    Told = (list_any is_end rs || (cutoff == greatest_timestamp)) ≡ list_any is_end (front ++ marks_of cutoff rs)

    in_marks : list_any is_end (front ++ marks_of cutoff rs) ≡ list_any is_end (marks_of cutoff rs)
    in_marks = list_any-append is_end front (marks_of cutoff rs) ∙ ap (λ (b : Bool). b || list_any is_end (marks_of cutoff rs)) (none_ended cutoff rs fits)

    not_first : cutoff < greatest_timestamp → eqb cutoff greatest_timestamp ≡ false
    not_first less = ne_eqb cutoff greatest_timestamp (λ e. omega (arith, less, e))

    first : greatest_timestamp ≤ cutoff → eqb cutoff greatest_timestamp ≡ true
    first most = let e : cutoff ≡ greatest_timestamp = omega (arith, most, fits) in ap (λ (n : ℕ). eqb n greatest_timestamp) e

    by : (cutoff < greatest_timestamp) ⊎ (greatest_timestamp ≤ cutoff) → (list_any is_end rs ≡ true) ⊎ (list_any is_end rs ≡ false) → Told
    by (inl less) (inl ended) = rw in_marks (rw (ended, lt-ltb cutoff greatest_timestamp less, not_first less) refl)
    by (inl less) (inr fails) = rw in_marks (rw (fails, not_first less) refl)
    by (inr most) (inl ended) = rw in_marks (rw (ended, first most) refl)
    by (inr most) (inr fails) = rw in_marks (rw (fails, first most) refl)
