use Rattle.std.proofs.Common.{◌≡◌, ◌≢◌, ◌↔◌, ◌∙◌, ◌^◌, ◌<◌, ◌++◌, inl, inr, List, ℕ, length, ap, sym, arith}
use Rattle.std.specs.Prelude.{IsTrue, ◌==◌, ◌||◌, min, Bool}
use Rattle.std.specs.Cmp.Lexicographic.{same_text}
use Rattle.std.proofs.lemmas.Bool.{cases_Bool, not-false}
use Rattle.std.proofs.lemmas.List.{take-append-drop}
use Rattle.std.proofs.lemmas.Grind.{common_steps}
use Rattle.mt_record.specs.Heads.{head_bytes}
use Rattle.mt_record.specs.Logs.{LogReading, count_of}
use Rattle.mt_record.specs.declared.feed.head.Head.{Head}
use Rattle.mt_record.specs.Resuming.{greatest_timestamp, is_ended, below, updates_past, marks_past, marks_of, resumed}
use Rattle.mt_record.proofs.RunLemmas.{below_fit, marks_few}
use Rattle.mt_record.proofs.OneLog.{same_head}
use Rattle.mt_record.proofs.OneReading.{one_reading_of}
use Rattle.mt_record.proofs.Splits.{split_log, kept_bytes, split_resumed, unchanged, as_before, ended_resumed}
use Rattle.mt_record.proofs.resume.resume_text.Goals as goal
use Rattle.mt_record.proofs.resume.resume_text.Goals.{then-from-head, else-from-head, then-split, else-split}

pub split_at-requires : goal.split_at-requires
split_at-requires c = (kept_bytes c.in-Some.head c.args.cutoff c.in-Some.rest.now c.in_ok-split.split c.in_ok-split.ensures.split).0

pub returns-clause-log : goal.returns-clause-log
returns-clause-log c =
    let head = c.in-Some.head in
    let is = c.in_ok-split.ensures.split in
    let header = c.in_ok-front.ensures ∙ ap (λ (n : ℕ). head_bytes (record head { from = n })) c.min-from.ensures in
    split_resumed c.args.text.now c.in-Some.rest.now c.in_ok-front.front.items c.split_at.result.0.now c.in_ok-marks.marks.items head c.args.cutoff c.in_ok-split.split
    c.in-Some.ensures.found.0 c.in-Some.ensures.found.1 is header c.split_at.ensures.front (c.in_ok-marks.ensures is.records is.is_split.ended)

pub returns-clause-dropped : goal.returns-clause-dropped
returns-clause-dropped c log is_log =
    let is = c.in_ok-split.ensures.split in
    let reading = split_log c.args.text.now c.in-Some.rest.now c.in-Some.head c.args.cutoff c.in_ok-split.split c.in-Some.ensures.found.0 c.in-Some.ensures.found.1 is in
    is.is_split.dropped ∙ ap (λ (l : LogReading). count_of (updates_past c.args.cutoff l.records)) (one_reading_of c.args.text.now _ log reading is_log)

pub returns-clause-late_marks : goal.returns-clause-late_marks
returns-clause-late_marks c log is_log =
    let is = c.in_ok-split.ensures.split in
    let reading = split_log c.args.text.now c.in-Some.rest.now c.in-Some.head c.args.cutoff c.in_ok-split.split c.in-Some.ensures.found.0 c.in-Some.ensures.found.1 is in
    is.is_split.late_marks ∙ ap (λ (l : LogReading). count_of (marks_past c.args.cutoff l.records)) (one_reading_of c.args.text.now _ log reading is_log)

pub returns-clause-records : goal.returns-clause-records
returns-clause-records c =
    let head = c.in-Some.head in
    let is = c.in_ok-split.ensures.split in record {
      records = below c.args.cutoff is.records;
      spelled = c.split_at.ensures.front ∙ (kept_bytes head c.args.cutoff c.in-Some.rest.now c.in_ok-split.split is).1;
      fit = below_fit head.format c.args.cutoff 0 is.records is.lawful;
    }

pub returns-clause-marks : goal.returns-clause-marks
returns-clause-marks c =
    let is = c.in_ok-split.ensures.split in
    let spelled = c.in_ok-marks.ensures is.records is.is_split.ended in
    let few = marks_few c.args.cutoff is.records in
    (record { records = marks_of c.args.cutoff is.records; spelled = spelled; small = inl (omega (arith, ap length spelled, few)) }, omega (arith, ap length spelled, few))

pub returns-clause-changed : goal.returns-clause-changed
returns-clause-changed c =
    let head = c.in-Some.head in
    let kept = c.split_at.result.0.now in
    let late = c.split_at.result.1.now in
    let marks = c.in_ok-marks.marks.items in
    let rest = c.in-Some.rest.now in
    let header = c.in_ok-front.front.items in
    let begins = c.in_ok-front.ensures in
    let whole : c.args.text.now ≡ head_bytes head ++ (kept ++ late) = c.in-Some.ensures.found.1 ∙ ap (λ (x : List ℕ). head_bytes head ++ x) (sym (take-append-drop c.in_ok-split.split.kept rest) ∙ λ i. sym c.split_at.ensures.front i ++ sym c.split_at.ensures.back i) in
    let fits : c.min-from.result < 2 ^ 64 = omega (arith, c.min-from.ensures, c.in-Some.ensures.found.0.from) in
    let told = λ (e : header ++ (kept ++ marks) ≡ c.args.text.now). unchanged header kept marks late head c.min-from.result c.in-Some.ensures.found.0 fits begins (e ∙ whole) in
    let back = λ (same : c.min-from.result ≡ head.from) (are : late ≡ marks). as_before header kept marks late head c.min-from.result begins same are ∙ sym whole in
    elim c.if-from-head.branch as (λ _. IsTrue c.if-from-head.changed ↔ (header ++ (kept ++ marks) ≢ c.args.text.now)) [
      | then-from-head w ↦ (λ t e. grind (arith, common_steps, (told e).0, w.if-from-head), λ n. grind (arith, common_steps, w.changed-is))
      | else-from-head w ↦ (
        λ t e. grind (arith, common_steps, (told e).1, w.ne-changed.ensures, w.as_slice.ensures, w.changed-is, t),
        λ n. elim (cases_Bool c.if-from-head.changed) as (λ _. IsTrue c.if-from-head.changed) [
          | inl t ↦ t
          | inr f ↦ absurd (n (back (omega (arith, w.if-from-head.false)) (same_text late w.as_slice.result.now (sym (not-false _ (sym w.ne-changed.ensures ∙ sym w.changed-is ∙ f))) ∙ w.as_slice.ensures.value)))
        ],
      )
    ]

pub returns-clause-header : goal.returns-clause-header
returns-clause-header c head rest is e =
    let found = c.in-Some.ensures.found in
    let same = same_head c.in-Some.head head c.in-Some.rest.now rest found.0 is (sym found.1 ∙ e) in
    c.in_ok-front.ensures ∙ ap (λ (n : ℕ). head_bytes (record c.in-Some.head { from = n })) c.min-from.ensures ∙ ap (λ (h : Head). head_bytes (record h { from = min h.from c.args.cutoff })) same.0

pub returns-clause-ended : goal.returns-clause-ended
returns-clause-ended c log is_log =
    let is = c.in_ok-split.ensures.split in
    let cutoff = c.args.cutoff in
    let reading = split_log c.args.text.now c.in-Some.rest.now c.in-Some.head cutoff c.in_ok-split.split c.in-Some.ensures.found.0 c.in-Some.ensures.found.1 is in
    let told : c.if-split.result ≡ (c.in_ok-split.split.ended || (cutoff == greatest_timestamp)) =
    elim c.if-split.branch as (λ _. c.if-split.result ≡ (c.in_ok-split.split.ended || (cutoff == greatest_timestamp))) [
      | then-split w ↦ grind (arith, common_steps, w.if-split, w.result-is)
      | else-split w ↦ grind (arith, common_steps, w.if-split, w.result-is)
    ] in
    told ∙ ap (λ (b : Bool). b || (cutoff == greatest_timestamp)) is.is_split.ended ∙ ended_resumed cutoff is.records c.ranges.cutoff.fits
    ∙ ap (λ (l : LogReading). is_ended (resumed cutoff l).records) (one_reading_of c.args.text.now _ log reading is_log)
