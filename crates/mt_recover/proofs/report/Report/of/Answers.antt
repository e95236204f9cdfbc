use Rattle.std.proofs.Common.{◌≡◌, ◌∙◌, ℕ, List, Option, ◌∷◌, length, map, sym, ap, subst, rules, tests, arith}
use Rattle.std.specs.Prelude.{◌↔◌, IsTrue}
use Rattle.std.specs.List.{filter, flat_map, sum_by}
use Rattle.std.proofs.lemmas.Iterator.{YieldsList-from_slice}
use Rattle.std.proofs.lemmas.Iterator.Consumers.{YieldsList-from_filter, count_from_yields_List}
use Rattle.std.proofs.lemmas.List.Sums.{length-filter}
use Rattle.mt_record.specs.declared.front.Rest.TheVariants.{Torn}
use Rattle.std.specs.Option.{option_map}
use Rattle.mt_record.specs.declared.front.LogFront.{LogFront}
use Rattle.mt_record.specs.Logs.{IsGreatestOf, times_of}
use Rattle.mt_record.specs.LogTexts.{greatest}
use Rattle.mt_scan.specs.declared.checkpoint.Checkpoint.{Checkpoint}
use Rattle.mt_scan.specs.declared.log_scan.LogScan.{LogScan}
use Rattle.mt_scan.specs.Scans.{last_in, ShowFronts}
use Rattle.mt_scan.specs.Choice.{CheckpointReading}
use Rattle.mt_replay.specs.declared.window.Window.{Window}
use Rattle.mt_recover.specs.Holes.{has_hole}
use Rattle.mt_recover.specs.Recovery.{entry_updates}
use Rattle.mt_recover.specs.Report.{versions, is_below, logged_updates, all_versions, versions_below}
use Rattle.mt_recover.specs.Steps.LogScans.{ShowAll}
use Rattle.mt_recover.proofs.VersionLemmas.{greatest_is, greatest_both}
use Rattle.mt_recover.proofs.ReportLemmas.{as_many, records_counted, marks_counted, is_torn, torn_is, torn_counted, ends_are, last_is, numbers_of, fronts_show, same_number}
use Rattle.mt_recover.proofs.report.Report.of.Goals as goal

pub returns-clause-report : goal.returns-clause-report
returns-clause-report c =
    let found = c.args.found in
    let scans = found.scans.items in
    let records : c.total.result ≡ sum_by (λ (scan : LogScan). scan.front.count) scans = c.total.ensures (λ (scan : LogScan). scan.front.count) (λ x n e. search rules) ∙ ap (sum_by (λ (scan : LogScan). scan.front.count)) c.deref-2.ensures.value in
    let marks : c.total-2.result ≡ sum_by (λ (scan : LogScan). scan.marks) scans = c.total-2.ensures (λ (scan : LogScan). scan.marks) (λ x n e. search rules) ∙ ap (sum_by (λ (scan : LogScan). scan.marks)) c.deref-3.ensures.value in
    let torn : c.count.result ≡ length (filter (λ (scan : LogScan). is_torn scan.front.rest) scans) =
    count_from_yields_List c.filter.result c.count.result c.count.ensures.ran
    (YieldsList-from_filter _ (λ (scan : LogScan). is_torn scan.front.rest) (YieldsList-from_slice scans cc) c.filter.ensures.closure
    (λ x b q k. let told : (q ≡ _) × (IsTrue b ↔ (x.now.front.rest ≡ Torn)) = search (rules, tests) in (told.0, torn_is b x.now.front.rest told.1))) in
    let number : c.map.result ≡ option_map (λ (checkpoint : Checkpoint). checkpoint.number) found.start.choice.chosen = search rules in
    let logs_are : c.len.result ≡ length scans = search rules in
    let ends : c.in_ok-ends_of.field-0.items ≡ map (λ (scan : LogScan). scan.front.bytes) scans = search rules in
    let last : c.greatest_of.result ≡ greatest (map (λ (scan : LogScan). last_in scan.front) scans) =
    c.greatest_of.ensures (λ (scan : LogScan). last_in scan.front) (λ x n e. search rules) ∙ ap (λ (ss : List LogScan). greatest (map (λ (scan : LogScan). last_in scan.front) ss)) c.deref-6.ensures.value in
    λ logs parts is.
    let numbers = numbers_of is.start.basis.facts.cutoff 0 scans is.start.basis.facts.readings is.show in
    let fronts = subst (λ (fs : List LogFront). ShowFronts fs is.start.basis.facts.readings) (sym is.fronts) (fronts_show scans is.start.basis.facts.readings numbers) in
    let entered : c.version_of_checkpoint-entered.result ≡ greatest (versions (entry_updates is.start.basis.facts.chosen)) =
    c.version_of_checkpoint-entered.ensures ∙ ap (λ (o : Option CheckpointReading). greatest (versions (entry_updates o))) is.start.chosen in
    record {
      writers = (rw c.deref.ensures.value at c.writer_count.ensures) is.start.basis.facts.readings fronts;
      logs = logs_are ∙ as_many logs scans is.start.basis.facts.readings is.start.basis.facts.read numbers;
      records = records ∙ records_counted scans is.start.basis.facts.readings numbers;
      marks = marks ∙ marks_counted scans is.start.basis.facts.readings numbers;
      torn = torn ∙ length-filter (λ (scan : LogScan). is_torn scan.front.rest) scans ∙ torn_counted scans is.start.basis.facts.readings numbers;
      ends = ends ∙ ends_are scans is.start.basis.facts.readings numbers;
      last = subst (IsGreatestOf (flat_map times_of is.start.basis.facts.readings)) (sym last) (last_is scans is.start.basis.facts.readings is.start.basis.facts.cutoff numbers is.start.basis.facts.is_cutoff);
      version =
          let all = all_versions is.start.basis.facts.readings is.start.basis.facts.chosen in
          let logged = (rw c.deref-7.ensures.value at c.version_of_logs.ensures) is.start.basis.facts.readings numbers in
          let both = greatest_both (logged_updates is.start.basis.facts.readings) (entry_updates is.start.basis.facts.chosen) in
          let version : c.max.result ≡ greatest all = omega (arith, c.max.ensures, logged, entered, both) in
          subst (IsGreatestOf (0 ∷ all)) (sym version) (greatest_is all);
      version_below_cutoff =
          let all = versions_below is.start.basis.facts.cutoff is.start.basis.facts.readings is.start.basis.facts.chosen in
          let at : found.start.window.cutoff ≡ is.start.basis.facts.cutoff = ap (λ (w : Window). w.cutoff) is.start.window in
          let logged : c.version_of_logs_below.result ≡ greatest (versions (filter (is_below is.start.basis.facts.cutoff) (logged_updates is.start.basis.facts.readings))) =
          (rw c.deref-8.ensures.value at c.version_of_logs_below.ensures) logs is.start.basis.facts.readings is.start.basis.facts.read (subst (λ (n : ℕ). ShowAll n 0 scans is.start.basis.facts.readings) (sym at) is.show)
          ∙ ap (λ (n : ℕ). greatest (versions (filter (is_below n) (logged_updates is.start.basis.facts.readings)))) at in
          let both = greatest_both (filter (is_below is.start.basis.facts.cutoff) (logged_updates is.start.basis.facts.readings)) (entry_updates is.start.basis.facts.chosen) in
          let version : c.max-2.result ≡ greatest all = omega (arith, c.max-2.ensures, logged, entered, both) in
          subst (IsGreatestOf (0 ∷ all)) (sym version) (greatest_is all);
      cutoff = ap (λ (w : Window). w.cutoff) is.start.window;
      checkpoint = number ∙ same_number found.start.choice.chosen ∙ ap (λ (o : Option CheckpointReading). option_map (λ (checkpoint : CheckpointReading). checkpoint.number) o) is.start.chosen;
      begin = ap (λ (w : Window). w.begin) is.start.window;
      skipped = is.start.skipped;
      nameless = is.start.nameless;
      holes =
          let holes : c.hole_count.result ≡ length (filter (has_hole found.start.window is.start.basis.facts.readings) is.start.basis.facts.readings) =
          (rw c.deref-9.ensures.value at c.hole_count.ensures) is.start.basis.facts.readings fronts in
          holes ∙ ap (λ (w : Window). length (filter (has_hole w is.start.basis.facts.readings) is.start.basis.facts.readings)) is.start.window;
      entries = c.entry_count.ensures ∙ ap (λ (o : Option CheckpointReading). length (entry_updates o)) is.start.chosen;
    }
