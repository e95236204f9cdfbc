-- From findings to the prepared lists, and from these to the recovered store.
use Rattle.std.proofs.Common.{◌≡◌, ◌∙◌, ◌^◌, ℕ, ◌<◌, ◌≤◌, false, List, Option, ◌++◌, length, Contains, IsPermutation, sym, ap, subst, arith}
use Rattle.std.specs.Prelude.{filter, nat_lt}
use Rattle.std.proofs.lemmas.Bool.Decides.{nat_tests}
use Rattle.std.specs.Option.{option_map}
use Rattle.std.proofs.lemmas.List.Sorted.{IsPermutation-sym, Contains-permutation}
use Rattle.mt_words.specs.declared.update.Update.{Update}
use Rattle.mt_words.specs.Walks.{Pair}
use Rattle.mt_scan.specs.declared.checkpoint.Checkpoint.{Checkpoint}
use Rattle.mt_scan.specs.declared.log_scan.LogScan.{LogScan}
use Rattle.mt_scan.specs.Choosing.{checkpoint_in}
use Rattle.mt_replay.specs.declared.window.Window.{Window}
use Rattle.mt_replay.specs.Survivors.{in_window, is_within, log_survivors, is_early}
use Rattle.mt_replay.specs.Walk.{IsWalk}
use Rattle.mt_replay.specs.Cells.{AreApart}
use Rattle.mt_replay.specs.Batches.{BatchView, batched}
use Rattle.mt_replay.specs.Divided.{DividedView}
use Rattle.mt_replay.proofs.EvenLemmas.{even_in_any_order}
use Rattle.mt_replay.proofs.StepLemmas.{same_column}
use Rattle.mt_tree.specs.Trees.{IsCount}
use Rattle.mt_recover.specs.declared.found.Found.{Found}
use Rattle.mt_recover.specs.Steps.LogScans.{kept, kept_in_window}
use Rattle.mt_recover.specs.Prepared.{PreparedView, IsPreparedOf, IsMadeOf}
use Rattle.mt_recover.specs.declared.report.Report.{Report}
use Rattle.mt_recover.specs.declared.workers.Cutting.{Cutting}
use Rattle.mt_recover.specs.declared.workers.Cutting.TheVariants.{Even, Sampled, At}
use Rattle.mt_recover.specs.Job.{AreCutBy}
use Rattle.mt_recover.specs.Steps.Preparing.{IsDividedOf, IsDivisionOf, IsFoundOf}
use Rattle.mt_recover.specs.Tasks.{DividingView, IsDividingOf}
use Rattle.mt_recover.specs.Recovery.{Facts, records_of, begin_of, entry_updates}
use Rattle.mt_recover.specs.Report.{Outcome, IsFoundIn, IsRecoveredOf, IsReportOf, logged_updates}
use Rattle.mt_recover.proofs.CountLemmas.{begins_below, survivors_in, early_in, walk_few}
use Rattle.mt_recover.proofs.ReportLemmas.{same_updates}
use Rattle.mt_recover.proofs.SurvivorLemmas.{survivors_apart}

-- nothing at or after the cutoff lies in the window
past_window : (window : Window) (cutoff time : ℕ) → window.cutoff ≡ cutoff → cutoff ≤ time → is_within window time ≡ false
past_window window cutoff time is past = grind (arith, nat_tests)

-- and nothing at or after the cutoff is early
not_early : (begin cutoff time : ℕ) → begin ≤ cutoff → cutoff ≤ time → nat_lt time begin ≡ false
not_early begin cutoff time in_order past = grind (arith, nat_tests)

-- what survives of the scans is what survives of their logs
pub same_logged : (logs parts : List (List ℕ)) (found : Found) (is : IsFoundOf logs parts found) → kept_in_window found.start.window found.scans.items ≡ log_survivors (record { begin = begin_of is.start.basis.facts.chosen; cutoff = is.start.basis.facts.cutoff }) (records_of is.start.basis.facts.readings)
same_logged logs parts found is =
    same_updates (in_window found.start.window) is.start.basis.facts.cutoff 0 found.scans.items is.start.basis.facts.readings (λ u past. past_window found.start.window is.start.basis.facts.cutoff u.timestamp (ap (λ (w : Window). w.cutoff) is.start.window) past) is.show
    ∙ (λ i. filter (in_window (is.start.window i)) (logged_updates is.start.basis.facts.readings))

-- and with the entries of the checkpoint, all that survives
same_survivors : (logs parts : List (List ℕ)) (found : Found) (is : IsFoundOf logs parts found) → kept_in_window found.start.window found.scans.items ++ entry_updates (option_map checkpoint_in found.start.choice.chosen) ≡ survivors_in is.start.basis.facts
same_survivors logs parts found is = λ i. same_logged logs parts found is i ++ entry_updates (is.start.chosen i)

-- and the scans have as many early updates as their logs
same_early : (logs parts : List (List ℕ)) (found : Found) (is : IsFoundOf logs parts found) → length (filter (is_early found.start.window.begin) (kept found.scans.items)) ≡ length (early_in is.start.basis.facts)
same_early logs parts found is =
    let begins = ap (λ (w : Window). w.begin) is.start.window in
    let none : (u : Update) → is.start.basis.facts.cutoff ≤ u.timestamp → is_early found.start.window.begin u ≡ false =
    λ u past. not_early found.start.window.begin is.start.basis.facts.cutoff u.timestamp (omega (arith, begins, begins_below is.start.basis.facts.known is.start.basis.facts.cutoff is.start.basis.facts.chosen is.start.basis.facts.is_chosen)) past in
    ap length (same_updates (is_early found.start.window.begin) is.start.basis.facts.cutoff 0 found.scans.items is.start.basis.facts.readings none is.show ∙ ap (λ (begin : ℕ). filter (is_early begin) (logged_updates is.start.basis.facts.readings)) begins)

-- stamps that are apart stay apart if the updates are put in another order
apart_moved : (updates moved : List Update) → IsPermutation updates moved → AreApart updates → AreApart moved
apart_moved updates moved same apart a b at here =
    let from : (u : Update) → Contains moved u → Contains updates u = λ u at. Contains-permutation moved updates u (IsPermutation-sym updates moved same) at in
    apart a b (from a at) (from b here)

-- and the updates in another order have the same walk
walk_moved : (updates moved : List Update) (pairs : List Pair) → IsPermutation updates moved → IsWalk moved pairs → IsWalk updates pairs
walk_moved updates moved pairs same is =
    let into : (u : Update) → Contains updates u → Contains moved u = λ u at. Contains-permutation updates moved u same at in
    let from : (u : Update) → Contains moved u → Contains updates u = λ u at. Contains-permutation moved updates u (IsPermutation-sym updates moved same) at in
    record {
      map = is.map;
      exact = λ key number bytes. (
        λ holds. same_column moved updates key number bytes (λ u at _. from u at) (λ u at _. into u at) ((is.exact key number bytes).0 holds),
        λ has. (is.exact key number bytes).1 (same_column updates moved key number bytes (λ u at _. into u at) (λ u at _. from u at) has),
      );
    }

-- ---- what is prepared

pub apart_left : {logs parts : List (List ℕ)} (facts : Facts logs parts) (updates : List Update) → IsPermutation (survivors_in facts) updates → AreApart updates
apart_left facts updates same = apart_moved (survivors_in facts) updates same (survivors_apart facts.known facts.cutoff facts.chosen (records_of facts.readings) facts.is_chosen)

-- what the scans kept and the entries of the checkpoint, divided, are what survives, divided
pub division_is : {logs parts : List (List ℕ)} {found : Found} {scans : List LogScan} {chosen : Option Checkpoint} {entries : List Update} {report : Report} {division : DividedView × ℕ} (is : IsFoundOf logs parts found) → IsFoundIn is.start.basis.facts report
    → scans ≡ found.scans.items → chosen ≡ found.start.choice.chosen → entries ≡ entry_updates (option_map checkpoint_in chosen) → IsDividedOf found.start.window (kept scans) entries division → IsDivisionOf logs parts report division
division_is {logs} {parts} {found} {division = division} is in_report scans_are chosen_is entries_are divided = record {
  basis = is.start.basis;
  found = in_report;
  updates = subst (λ (us : List Update). IsPermutation us division.0.updates)
      ((λ i. kept_in_window found.start.window (scans_are i) ++ (entries_are ∙ ap (λ (o : Option Checkpoint). entry_updates (option_map checkpoint_in o)) chosen_is) i) ∙ same_survivors logs parts found is) divided.updates;
  early = divided.early ∙ ap (λ (s : List LogScan). length (filter (is_early found.start.window.begin) (kept s))) scans_are ∙ same_early logs parts found is;
}

-- what the scans kept, in batches, and the entries of the checkpoint are to be divided
pub dividing_is : {logs parts : List (List ℕ)} {found : Found} {scans : List LogScan} {chosen : Option Checkpoint} {entries : List Update} {batches : List BatchView} {report : Report} (cuts : List (List ℕ)) (is : IsFoundOf logs parts found) → IsFoundIn is.start.basis.facts report
    → scans ≡ found.scans.items → chosen ≡ found.start.choice.chosen → entries ≡ entry_updates (option_map checkpoint_in chosen) → batched batches ≡ kept scans
    → IsDividingOf logs parts (record { report = report; window = found.start.window; cuts = cuts; entries = entries; batches = batches })
dividing_is {logs} {parts} {found} {batches = batches} cuts is in_report scans_are chosen_is entries_are batches_are =
    let kept_are : batched batches ≡ kept found.scans.items = batches_are ∙ ap kept scans_are in record {
      basis = is.start.basis;
      found = in_report;
      updates = sym ((λ i. filter (in_window found.start.window) (kept_are i) ++ (entries_are ∙ ap (λ (o : Option Checkpoint). entry_updates (option_map checkpoint_in o)) chosen_is) i) ∙ same_survivors logs parts found is);
      early = ap (λ (us : List Update). length (filter (is_early found.start.window.begin) us)) kept_are ∙ same_early logs parts found is;
    }

-- and once it is divided, it is what survives, divided
pub division_of : {logs parts : List (List ℕ)} {dividing : DividingView} {division : DividedView × ℕ} → IsDividingOf logs parts dividing → IsDividedOf dividing.window (batched dividing.batches) dividing.entries division
    → IsDivisionOf logs parts dividing.report division
division_of {division = division} is divided = record {
  basis = is.basis;
  found = is.found;
  updates = subst (λ (us : List Update). IsPermutation us division.0.updates) (sym is.updates) divided.updates;
  early = divided.early ∙ is.early;
}

-- cuts of updates are cuts of the updates in another order
pub cut_moved : (cutting : Cutting) (updates moved : List Update) (cuts : List (List ℕ)) → IsPermutation updates moved → AreCutBy cutting updates cuts → AreCutBy cutting moved cuts
cut_moved (Even pieces) updates moved cuts same are = even_in_any_order updates moved pieces cuts same are
cut_moved (Sampled pieces) updates moved cuts same are = are
cut_moved (At given) updates moved cuts same are = are

-- ---- what is recovered

-- the keys of a walk are counted exactly
pub count_is : (updates : List Update) (pairs : List Pair) (survivors keys : ℕ) → IsWalk updates pairs → survivors ≡ length updates → survivors < 2 ^ 128 → IsCount pairs keys → keys ≡ length pairs
count_is updates pairs survivors keys walk same fits count = omega (arith, count, same, fits, walk_few updates pairs walk)

-- what is made from what was prepared is the outcome of the logs and parts
pub made_is : (logs parts : List (List ℕ)) (prepared : PreparedView) (outcome : Outcome) → IsPreparedOf logs parts prepared → IsMadeOf prepared outcome → IsRecoveredOf logs parts outcome
made_is logs parts prepared outcome is made = record {
  store = record { basis = is.basis; walk = walk_moved (survivors_in is.basis.facts) prepared.updates outcome.store is.updates made.walk };
  report = subst (IsReportOf is.basis.facts outcome.store) (sym made.report) (is.report outcome.store outcome.report.layers made.layers);
}
