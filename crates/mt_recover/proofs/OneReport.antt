-- Logs and parts have one report, apart from where its lists are stored.
use Rattle.std.proofs.Common.{◌≡◌, ◌∙◌, ℕ, ◌+◌, ◌<◌, ◌≤◌, suc, Option, List, [], ◌∷◌, length, Contains, sym, ap, subst, arith}
use Rattle.std.specs.Prelude.{filter, map}
use Rattle.std.specs.Option.{option_map}
use Rattle.std.specs.List.{AllPairs, flat_map}
use Rattle.std.specs.List.Sorted.{IsStrictlyIncreasing}
use Rattle.std.proofs.lemmas.List.Elements.{recursion_from_All, All-contains}
use Rattle.std.proofs.lemmas.List.Kept.{AllPairs-from_increasing}
use Rattle.mt_words.specs.Changes.{is_mark}
use Rattle.mt_record.specs.Logs.{LogReading, IsGreatestOf, times_of}
use Rattle.mt_scan.specs.PartScans.{KnownPart}
use Rattle.mt_scan.specs.Choice.{CheckpointReading, AreSkipped, AreNameless}
use Rattle.mt_replay.specs.Survivors.{is_early}
use Rattle.mt_scan.specs.Segments.{is_first_file}
use Rattle.mt_recover.specs.Holes.{has_hole}
use Rattle.mt_recover.specs.Recovery.{records_of, begin_of, entry_updates, survivors}
use Rattle.mt_recover.specs.Report.{all_records, all_versions, versions_below, logged_updates, is_late, end_of, Outcome, IsRecoveredOf}
use Rattle.mt_recover.specs.Laws.{SaysTheSame}
use Rattle.mt_tree.specs.Layers.{CountsLayers}
use Rattle.mt_tree.proofs.Uniques.{one_count}
use Rattle.mt_recover.proofs.OneVerdict.{same_facts, one_store}
use Rattle.mt_recover.proofs.OneWalk.{Rises, same_lists}
use Rattle.mt_recover.proofs.CountLemmas.{adds_up}

-- ---- rising numbers

rises : (xs : List ℕ) → AllPairs (λ a b. a < b) xs → Rises (λ (a b : ℕ). a < b) xs
rises [] pairs = tt
rises (x ∷ xs) pairs = (
  recursion_from_All (λ y. x < y) xs (λ i d within. pairs 0 (suc i) d (omega arith) (omega (arith, within))),
  rises xs (λ i j d lt within. pairs (suc i) (suc j) d (omega (arith, lt)) (omega (arith, within))),
)

-- rising lists with the same numbers are equal
same_numbers : (xs ys : List ℕ) → IsStrictlyIncreasing xs → IsStrictlyIncreasing ys → ((n : ℕ) → Contains xs n → Contains ys n)
    → ((n : ℕ) → Contains ys n → Contains xs n) → xs ≡ ys
same_numbers xs ys rise_x rise_y into from = same_lists (λ (a b : ℕ). a < b) (λ a b lt gt. omega (arith, lt, gt)) xs ys
    (rises xs (AllPairs-from_increasing xs rise_x)) (rises ys (AllPairs-from_increasing ys rise_y)) into from

one_skipped : (parts others : List KnownPart) (xs ys : List ℕ) → parts ≡ others → AreSkipped parts xs → AreSkipped others ys → xs ≡ ys
one_skipped parts others xs ys same is too =
    let is : AreSkipped others xs = subst (λ (x : List KnownPart). AreSkipped x xs) same is in
    same_numbers xs ys is.rise too.rise (λ n at. (too.exact n).1 ((is.exact n).0 at)) (λ n at. (is.exact n).1 ((too.exact n).0 at))

one_nameless : (parts others : List KnownPart) (xs ys : List ℕ) → parts ≡ others → AreNameless parts xs → AreNameless others ys → xs ≡ ys
one_nameless parts others xs ys same is too =
    let is : AreNameless others xs = subst (λ (x : List KnownPart). AreNameless x xs) same is in
    same_numbers xs ys is.rise too.rise (λ n at. (too.exact n).1 ((is.exact n).0 at)) (λ n at. (is.exact n).1 ((too.exact n).0 at))

-- ---- the greatest time

-- lists of the same times have one greatest time
one_greatest : (times others : List ℕ) (m n : ℕ) → times ≡ others → IsGreatestOf times m → IsGreatestOf others n → m ≡ n
one_greatest times others m n same is too =
    let it : IsGreatestOf times n = subst (λ (ts : List ℕ). IsGreatestOf ts n) (sym same) too in
    let low : m ≤ n = All-contains (λ (time : ℕ). time ≤ n) times m it.1 is.0 in
    let high : n ≤ m = All-contains (λ (time : ℕ). time ≤ m) times n is.1 it.0 in
    omega (arith, low, high)

-- ---- reports

pub one_report : (logs parts : List (List ℕ)) (outcome other : Outcome) → IsRecoveredOf logs parts outcome → IsRecoveredOf logs parts other
    → SaysTheSame outcome.report other.report
one_report logs parts outcome other is too =
    let a = is.report.found in
    let b = too.report.found in
    let same = same_facts logs parts is.store.basis.facts too.store.basis.facts in
    let store = one_store logs parts outcome.store other.store is.store too.store in
    record {
      skipped = one_skipped is.store.basis.facts.known too.store.basis.facts.known outcome.report.skipped.items other.report.skipped.items same.2 a.skipped b.skipped;
      nameless = one_nameless is.store.basis.facts.known too.store.basis.facts.known outcome.report.nameless.items other.report.nameless.items same.2 a.nameless b.nameless;
      ends = a.ends ∙ ap (map end_of) same.0 ∙ sym b.ends;
      rest = λ i. record {
        logs = (a.logs ∙ sym b.logs) i;
        writers = (a.writers ∙ ap (λ (x : List LogReading). length (filter (is_first_file x) x)) same.0 ∙ sym b.writers) i;
        records = (a.records ∙ ap (λ (x : List LogReading). length (all_records x)) same.0 ∙ sym b.records) i;
        marks = (a.marks ∙ ap (λ (x : List LogReading). length (filter is_mark (all_records x))) same.0 ∙ sym b.marks) i;
        torn = (a.torn ∙ ap (λ (x : List LogReading). length (filter (λ (log : LogReading). log.torn) x)) same.0 ∙ sym b.torn) i;
        holes = (a.holes ∙ (λ j. length (filter (has_hole (record { begin = begin_of (same.3 j); cutoff = same.1 j }) (same.0 j)) (same.0 j))) ∙ sym b.holes) i;
        ends = outcome.report.ends;
        last = one_greatest (flat_map times_of is.store.basis.facts.readings) (flat_map times_of too.store.basis.facts.readings) outcome.report.last other.report.last (ap (flat_map times_of) same.0) a.last b.last i;
        version = one_greatest (0 ∷ all_versions is.store.basis.facts.readings is.store.basis.facts.chosen) (0 ∷ all_versions too.store.basis.facts.readings too.store.basis.facts.chosen) outcome.report.version other.report.version (λ j. 0 ∷ all_versions (same.0 j) (same.3 j)) a.version b.version i;
        version_below_cutoff = one_greatest (0 ∷ versions_below is.store.basis.facts.cutoff is.store.basis.facts.readings is.store.basis.facts.chosen) (0 ∷ versions_below too.store.basis.facts.cutoff too.store.basis.facts.readings too.store.basis.facts.chosen) outcome.report.version_below_cutoff other.report.version_below_cutoff (λ j. 0 ∷ versions_below (same.1 j) (same.0 j) (same.3 j)) a.version_below_cutoff b.version_below_cutoff i;
        cutoff = (a.cutoff ∙ same.1 ∙ sym b.cutoff) i;
        checkpoint = (a.checkpoint ∙ ap (option_map (λ (x : CheckpointReading). x.number)) same.3 ∙ sym b.checkpoint) i;
        begin = (a.begin ∙ ap begin_of same.3 ∙ sym b.begin) i;
        skipped = outcome.report.skipped;
        nameless = outcome.report.nameless;
        entries = (a.entries ∙ ap (λ (x : Option CheckpointReading). length (entry_updates x)) same.3 ∙ sym b.entries) i;
        survivors = (is.report.survivors ∙ (λ j. length (survivors (same.1 j) (same.3 j) (records_of (same.0 j)))) ∙ sym too.report.survivors) i;
        early = (is.report.early ∙ (λ j. length (filter (is_early (begin_of (same.3 j))) (logged_updates (same.0 j)))) ∙ sym too.report.early) i;
        late = (is.report.late ∙ (λ j. length (filter (is_late (same.1 j)) (logged_updates (same.0 j)))) ∙ sym too.report.late) i;
        keys = (is.report.keys ∙ ap length store ∙ sym too.report.keys) i;
        layers = one_count outcome.store outcome.report.layers other.report.layers is.report.layers (subst (λ w. CountsLayers w other.report.layers) (sym store) too.report.layers) i;
      };
    }

pub report_adds_up : (logs parts : List (List ℕ)) (outcome : Outcome) → IsRecoveredOf logs parts outcome
    → outcome.report.records + outcome.report.entries
    ≡ outcome.report.marks + outcome.report.early + outcome.report.late + outcome.report.survivors
report_adds_up logs parts outcome is =
    let adds = adds_up is.store.basis.facts outcome.report is.report.found in
    omega (arith, adds.all, is.report.early, is.report.survivors, is.report.late)
