-- How many updates the records of logs make, and where their timestamps lie.
use Rattle.std.proofs.Common.{◌≡◌, ◌∙◌, inl, inr, zero, sym, subst, Contains, ◌++◌, ℕ, suc, ◌+◌, ◌-◌, ◌≤◌, Bool, true, false, List, [], ◌∷◌, length, Option, Some, None, refl, ap, arith}
use Rattle.std.specs.Prelude.{cond, nat_lt, nat_le, filter}
use Rattle.std.proofs.lemmas.Bool.Decides.{nat_tests}
use Rattle.std.proofs.lemmas.List.{length-append}
use Rattle.std.proofs.lemmas.List.Elements.{filter-append, Contains-append_cases, Contains-append_left, Contains-append_right}
use Rattle.mt_words.specs.declared.update.Update.{Update}
use Rattle.mt_words.specs.Changes.{is_mark}
use Rattle.mt_words.specs.Updates.{updates_from}
use Rattle.mt_words.specs.Walks.{Pair, KeysRise}
use Rattle.mt_record.specs.Logs.{LogReading}
use Rattle.mt_record.proofs.RecordLemmas.{marks_and_updates}
use Rattle.mt_scan.specs.PartScans.{KnownPart}
use Rattle.mt_scan.specs.Choice.{CheckpointReading, IsChosenOf}
use Rattle.mt_replay.specs.declared.window.Window.{Window}
use Rattle.mt_replay.specs.Survivors.{all_updates, in_window, is_within, is_early}
use Rattle.mt_recover.specs.declared.report.Report.{Report}
use Rattle.mt_recover.specs.Recovery.{Facts, records_of, begin_of, survivors, entry_updates}
use Rattle.mt_recover.specs.Report.{all_records, logged_updates, is_late, IsFoundIn, IsReportOf}
use Rattle.mt_tree.specs.Layers.{CountsLayers}
use Rattle.mt_replay.specs.Walk.{IsWalk}
use Rattle.mt_replay.proofs.StepLemmas.{key_of_pair, below_itself}
use Rattle.mt_replay.proofs.Members.{of_each}
use Rattle.mt_words.proofs.Elements.{no_element, head_in, tail_in, head_or_tail}
use Rattle.mt_words.specs.Words.{IsBelow}

-- ---- the records of logs

-- each record is a mark or makes an update
pub records_split : (log : ℕ) (readings : List LogReading)
    → length (all_updates log (records_of readings)) + length (filter is_mark (all_records readings)) ≡ length (all_records readings)
records_split log [] = refl
records_split log (l ∷ ls) = omega (
  arith,
  marks_and_updates log 0 l.records,
  records_split (suc log) ls,
  length-append (updates_from log 0 l.records) (all_updates (suc log) (records_of ls)),
  length-append l.records (all_records ls),
  length-append (filter is_mark l.records) (filter is_mark (all_records ls)),
  ap length (filter-append is_mark l.records (all_records ls)),
)

-- ---- timestamps

-- a list with one more element, if the test passes, is longer by one
length_by : {A : Type 0} (b : Bool) (x : A) (xs : List A) → length (cond b (x ∷ xs) xs) ≡ cond b 1 0 + length xs
length_by true x xs = omega arith
length_by false x xs = omega arith

-- a timestamp lies before the window, in it or after it, and in one of these only
lies_once : (window : Window) (time : ℕ) → window.begin ≤ window.cutoff
    → cond (nat_lt time window.begin) 1 0 + (cond (is_within window time) 1 0 + cond (nat_le window.cutoff time) 1 0) ≡ 1
lies_once window time in_order = grind (arith, nat_tests)

-- so the updates before the window, in it and after it add up to all updates
pub updates_split : (window : Window) (updates : List Update) → window.begin ≤ window.cutoff
    → length (filter (is_early window.begin) updates) + (length (filter (in_window window) updates) + length (filter (is_late window.cutoff) updates)) ≡ length updates
updates_split window [] in_order = refl
updates_split window (u ∷ us) in_order = omega (
  arith,
  length_by (is_early window.begin u) u (filter (is_early window.begin) us),
  length_by (in_window window u) u (filter (in_window window) us),
  length_by (is_late window.cutoff u) u (filter (is_late window.cutoff) us),
  lies_once window u.timestamp in_order,
  updates_split window us in_order,
)

-- recovery begins at or below the cutoff
pub begins_below : (known : List KnownPart) (cutoff : ℕ) (chosen : Option CheckpointReading) → IsChosenOf known cutoff chosen → begin_of chosen ≤ cutoff
begins_below known cutoff None is = omega arith
begins_below known cutoff (Some checkpoint) is = omega (arith, is.0.ends_below, is.0.valid.make_up.begins)

-- ---- what was found

-- the records and entries add up: each record is a mark, or an update that is early, survives or is late; and each entry survives
pub record AddsUp (report : Report) (early survivors late : ℕ) : Type 0 where
  pub marks : report.marks ≤ report.records
  pub entries : report.entries ≤ survivors
  pub all : report.marks + (early + (late + survivors)) ≡ report.records + report.entries

-- the updates that survive
abbrev pub survivors_in : {logs parts : List (List ℕ)} → Facts logs parts → List Update
survivors_in facts = survivors facts.cutoff facts.chosen (records_of facts.readings)

-- the updates below the checkpoint's begin
abbrev pub early_in : {logs parts : List (List ℕ)} → Facts logs parts → List Update
early_in facts = filter (is_early (begin_of facts.chosen)) (logged_updates facts.readings)

-- the updates that come too late
abbrev pub late_in : {logs parts : List (List ℕ)} → Facts logs parts → List Update
late_in facts = filter (is_late facts.cutoff) (logged_updates facts.readings)

pub adds_up : {logs parts : List (List ℕ)} (facts : Facts logs parts) (report : Report) → IsFoundIn facts report
    → AddsUp report (length (early_in facts)) (length (survivors_in facts)) (length (late_in facts))
adds_up facts report found =
    let window : Window = record { begin = begin_of facts.chosen; cutoff = facts.cutoff } in
    let records = records_split 0 facts.readings in
    let both = length-append (filter (in_window window) (logged_updates facts.readings)) (entry_updates facts.chosen) in
    let times = updates_split window (logged_updates facts.readings) (begins_below facts.known facts.cutoff facts.chosen facts.is_chosen) in
    record {
      marks = omega (arith, found.marks, found.records, records);
      entries = omega (arith, found.entries, both);
      all = omega (arith, found.marks, found.records, found.entries, records, both, times);
    }

-- the prepared report: the report of what was found, with the numbers of surviving, early and late updates
pub report_is : {logs parts : List (List ℕ)} (facts : Facts logs parts) (report : Report) (pairs : List Pair) (survivors early layers : ℕ) → IsFoundIn facts report
    → survivors ≡ length (survivors_in facts) → early ≡ length (early_in facts) → CountsLayers pairs layers
    → IsReportOf facts pairs (record report { survivors = survivors; early = early; late = report.records - report.marks - early - (survivors - report.entries); keys = length pairs; layers = layers })
report_is facts report pairs survivors early layers found same before count =
    let adds = adds_up facts report found in
    record {
      found = record {
        logs = found.logs;
        writers = found.writers;
        records = found.records;
        marks = found.marks;
        torn = found.torn;
        holes = found.holes;
        ends = found.ends;
        last = found.last;
        version = found.version;
        version_below_cutoff = found.version_below_cutoff;
        cutoff = found.cutoff;
        checkpoint = found.checkpoint;
        begin = found.begin;
        skipped = found.skipped;
        nameless = found.nameless;
        entries = found.entries;
      };
      survivors = same;
      early = before;
      late = omega (arith, before, same, adds.marks, adds.entries, adds.all);
      keys = refl;
      layers = count;
    }

-- ---- the keys of a walk

-- a list that contains x is some list, then x, then another list
around : {X : Type 0} (xs : List X) (x : X) → Contains xs x → (front : List X) × (back : List X) × (xs ≡ front ++ x ∷ back)
around [] x at = absurd (no_element x at)
around (y ∷ ys) x (zero, lt, e) = ([], ys, ap (λ z. z ∷ ys) e)
around (y ∷ ys) x (suc i, lt, e) = let rest = around ys x (i, omega (arith, lt), e) in (y ∷ rest.0, rest.1, ap (λ zs. y ∷ zs) rest.2)

-- if each key is that of an update, rising keys are at most as many as the updates
keys_few : (pairs : List Pair) (updates : List Update) → KeysRise pairs → ((p : Pair) → Contains pairs p → (u : Update) × Contains updates u × (u.key ≡ p.0))
    → length pairs ≤ length updates
keys_few [] updates rise has = omega arith
keys_few (p ∷ ps) updates rise has =
    let own = has p (head_in p ps) in
    let split = around updates own.0 own.1 in
    let others : (q : Pair) → Contains ps q → (u : Update) × Contains (split.0 ++ split.1) u × (u.key ≡ q.0) = λ q at.
    let other = has q (tail_in p q ps at) in (
      other.0,
      elim (Contains-append_cases split.0 (own.0 ∷ split.1) other.0 (subst (λ us. Contains us other.0) split.2 other.1)) as (λ _. Contains (split.0 ++ split.1) other.0) [
        | inl front ↦ Contains-append_left split.0 split.1 other.0 front
        | inr rest ↦ Contains-append_right split.0 split.1 other.0 (elim (head_or_tail own.0 other.0 split.1 rest) as (λ _. Contains split.1 other.0) [
          | inl e ↦ absurd (below_itself p.0 (subst (IsBelow p.0) (sym other.2 ∙ sym (ap (λ (u : Update). u.key) e) ∙ own.2) (of_each (λ (o : Pair). IsBelow p.0 o.0) ps q rise.0 at)))
          | inr behind ↦ behind
        ])
      ],
      other.2,
    ) in
    omega (arith, keys_few ps (split.0 ++ split.1) rise.1 others, ap length split.2, length-append split.0 (own.0 ∷ split.1), length-append split.0 split.1)

pub walk_few : (updates : List Update) (pairs : List Pair) → IsWalk updates pairs → length pairs ≤ length updates
walk_few updates pairs walk = keys_few pairs updates walk.map.0 (λ p at. key_of_pair updates pairs p walk at)
