-- The steps of preparing: what was found, its counts, and what each log left.
use Rattle.std.specs.Prelude.{◌≡◌, ◌<◌, ◌^◌, ℕ, List, length, map, filter, ◌++◌, IsPermutation, None, Result, Ok}
use Rattle.std.specs.Option.{option_map}
use Rattle.mt_words.specs.declared.fault.Fault.{Fault}
use Rattle.mt_words.specs.declared.fault.Fault.TheVariants as faults
use Rattle.mt_words.specs.declared.record.Change.{Change}
use Rattle.mt_words.specs.declared.update.Update.{Update}
use Rattle.mt_record.specs.declared.front.LogFront.{LogFront}
use Rattle.mt_record.specs.Logs.{LogReading}
use Rattle.mt_replay.specs.declared.window.Window.{Window}
use Rattle.mt_replay.specs.Cells.{AreApart}
use Rattle.mt_replay.specs.Divided.{DividedView}
use Rattle.mt_replay.specs.Ranges.{dealt_by}
use Rattle.mt_replay.specs.Survivors.{in_window, is_early}
use Rattle.mt_scan.specs.declared.choice.Choice.{Choice}
use Rattle.mt_scan.specs.declared.part_scan.PartScan.{PartScan}
use Rattle.mt_scan.specs.Choosing.{IsChoiceOf, checkpoint_in}
use Rattle.mt_scan.specs.Cutoff.{IsCutoff}
use Rattle.mt_scan.specs.Firsts.{IsFirstOrNone}
use Rattle.mt_scan.specs.PartsShown.{known_by}
use Rattle.mt_scan.specs.Scans.{ShowFronts}
use Rattle.mt_scan.specs.Segments.{AreWriters, IsDoubled, IsTornAmid, IsGap, IsFirst}
use Rattle.mt_recover.specs.Steps.LogScans.{ShowAll}
use Rattle.mt_recover.specs.Check.{IsStartOf}
use Rattle.mt_recover.specs.declared.found.Found.{Found}
use Rattle.mt_recover.specs.declared.found.Start.{Start}
use Rattle.mt_recover.specs.declared.report.Report.{Report}
use Rattle.mt_recover.specs.Recovery.{Basis, begin_of, records_of, survivors}
use Rattle.mt_recover.specs.Report.{IsFoundIn, logged_updates}
use Rattle.mt_recover.specs.Prepared.{PreparedView}
use Rattle.mt_recover.specs.Tasks.{DivideView, DividingView, IsDividingOf}

-- the fault is `Doubled` of the first log that is doubled, or, if none is, `Torn` of the first log that is torn amid its worker's log
abbrev pub IsWritersFault : List LogReading → Fault → Type 0
IsWritersFault logs (faults.Doubled i) = IsFirst (IsDoubled logs) i
IsWritersFault logs (faults.Torn i) = ((j : ℕ) → IsDoubled logs j → ⊥) × IsFirst (IsTornAmid logs) i
IsWritersFault logs fault = ⊥

-- what logs with these fronts and the scans of parts fix, if the logs have no gap
pub record AreBases (fronts : List LogFront) (known : List PartScan) (cutoff : ℕ) (choice : Choice) : Type 0 where
  pub writers : (logs : List LogReading) → ShowFronts fronts logs → AreWriters logs
  pub is_cutoff : (logs : List LogReading) → ShowFronts fronts logs → IsCutoff logs cutoff
  pub choice_is : IsChoiceOf (map known_by known) cutoff choice

-- where recovery of logs with these fronts begins
pub record StartsFrom (fronts : List LogFront) (parts : List (Result PartScan Fault)) (start : Start) : Type 0 where
  pub known : List PartScan
  pub parts_are : parts ≡ map Ok known
  pub bases : AreBases fronts known start.window.cutoff start.choice
  pub begin : start.window.begin ≡ begin_of (option_map checkpoint_in start.choice.chosen)
  pub no_gap : (logs : List LogReading) → ShowFronts fronts logs → IsFirstOrNone (IsGap start.window.begin logs) None

-- what was found in logs and parts: where recovery begins, and scans that show what the logs say
pub record IsFoundOf (logs parts : List (List ℕ)) (found : Found) : Type 0 where
  pub start : IsStartOf logs parts found.start
  pub fronts : found.fronts.items ≡ map (λ scan. scan.front) found.scans.items
  pub show : ShowAll start.basis.facts.cutoff 0 found.scans.items start.basis.facts.readings

-- the versions of entries
abbrev pub entry_versions : List Change → List ℕ
entry_versions entries = map (λ entry. entry.version) entries

-- this is what was found in some logs and parts
abbrev pub IsFound : Found → Type 0
IsFound found = (logs parts : List (List ℕ)) × IsFoundOf logs parts found

-- this is what some logs and parts left to be divided
abbrev pub IsDividing : DividingView → Type 0
IsDividing dividing = (logs parts : List (List ℕ)) × IsDividingOf logs parts dividing

-- what is left of some updates: the number of the early ones, and those in the window, dealt to the pieces that the cuts make
pub record IsLeftBy (window : Window) (cuts : List (List ℕ)) (updates : List Update) (left : ℕ × List (List Update)) : Type 0 where
  pub early : left.0 ≡ length (filter (is_early window.begin) updates)
  pub dealt : left.1 ≡ dealt_by cuts (filter (in_window window) updates)

-- this is left of the task's batch
abbrev pub IsLeftOf : DivideView → ℕ × List (List Update) → Type 0
IsLeftOf task left = IsLeftBy task.window task.cuts task.batch.updates left

-- of these updates, those in the window and the entries are divided into pieces, and the early ones are counted
pub record IsDividedOf (window : Window) (logged entries : List Update) (division : DividedView × ℕ) : Type 0 where
  pub updates : IsPermutation (filter (in_window window) logged ++ entries) division.0.updates
  pub early : division.1 ≡ length (filter (is_early window.begin) logged)

-- the report says what was found in these logs and parts; what survives of it is divided into pieces, and the early updates are counted
pub record IsDivisionOf (logs parts : List (List ℕ)) (report : Report) (division : DividedView × ℕ) : Type 0 where
  pub basis : Basis logs parts
  pub found : IsFoundIn basis.facts report
  pub updates : IsPermutation (survivors basis.facts.cutoff basis.facts.chosen (records_of basis.facts.readings)) division.0.updates
  pub early : division.1 ≡ length (filter (is_early (begin_of basis.facts.chosen)) (logged_updates basis.facts.readings))

-- no two updates have the same stamp with different contents, and the report counts them exactly
pub record IsSound (prepared : PreparedView) : Type 0 where
  pub apart : AreApart prepared.updates
  pub survivors : prepared.report.survivors ≡ length prepared.updates
  pub few : prepared.report.survivors < 2 ^ 128
