-- What recovery finds in the scans of logs and parts.
use Rattle.std.proofs.Common.{◌≡◌, ◌∙◌, ℕ, suc, ◌≤◌, List, [], ◌∷◌, map, Option, Some, None, Ok, Contains, refl, sym, ap, subst, arith}
use Rattle.std.specs.Prelude.{Result}
use Rattle.std.specs.List.{AllZip, cons_option, flat_map}
use Rattle.std.specs.Option.{option_map}
use Rattle.std.proofs.lemmas.List.{append-nil}
use Rattle.mt_words.proofs.Elements.{head_in, tail_in}
use Rattle.mt_board.specs.Board.{least_of, nothing_noted}
use Rattle.mt_words.specs.declared.fault.Fault.{Fault}
use Rattle.mt_record.specs.declared.front.LogFront.{LogFront}
use Rattle.mt_record.specs.Logs.{LogReading, IsGreatestOf, times_of}
use Rattle.mt_record.specs.LogTexts.{IsLast}
use Rattle.mt_scan.specs.declared.choice.Choice.{Choice}
use Rattle.mt_scan.specs.declared.log_scan.LogScan.{LogScan}
use Rattle.mt_scan.specs.declared.part_scan.PartScan.{PartScan}
use Rattle.mt_scan.specs.Choosing.{checkpoint_in}
use Rattle.mt_scan.specs.Cutoff.{files_of, IsCutoff}
use Rattle.mt_record.specs.declared.feed.head.Segment.{Segment}
use Rattle.mt_scan.specs.Scans.{last_in, HaveNumbersOf, ShowFronts}
use Rattle.mt_scan.specs.Dropping.{noted_by}
use Rattle.mt_scan.proofs.Numbers.{segment_shown}
use Rattle.mt_scan.proofs.Drops.{shows_lower}
use Rattle.mt_scan.specs.PartsShown.{known_by}
use Rattle.mt_scan.specs.Sources.{Seen}
use Rattle.mt_scan.specs.Firsts.{IsFirstOrNone}
use Rattle.mt_recover.specs.Steps.Preparing.{AreBases, IsFoundOf, StartsFrom}
use Rattle.mt_recover.specs.Inputs.{MayHave, OfSources}
use Rattle.mt_recover.specs.Steps.LogScans.{ShowAll}
use Rattle.mt_recover.specs.Steps.Outcomes.{AreOutcomes, IsLogOutcome, IsFrontSeen, IsPartOutcome, AllFrom, lasts, read_parts}
use Rattle.mt_recover.specs.Check.{ArePartOutcomes, IsStartOf}
use Rattle.mt_recover.specs.declared.found.Found.{Found}
use Rattle.mt_recover.specs.declared.found.Start.{Start}
use Rattle.mt_recover.specs.declared.scans.Outcomes.{Outcomes}
use Rattle.mt_scan.specs.Segments.{IsGap}
use Rattle.mt_recover.specs.Recovery.{AreKnown, AreReadings, Facts}
use Rattle.mt_recover.proofs.ReportLemmas.{fronts_show, numbers_of}
use Rattle.mt_recover.proofs.SourceLemmas.{all_seen, has_logs, known_parts, read_logs, scan_says, whole_logs}

-- ---- what recovery finds

-- scans that show all updates below a limit show all below a lower limit
lowered : (limit lower number : ℕ) (scans : List LogScan) (readings : List LogReading) → lower ≤ limit → ShowAll limit number scans readings → ShowAll lower number scans readings
lowered limit lower number [] [] le show = tt
lowered limit lower number [] (l ∷ ls) le show = absurd show
lowered limit lower number (s ∷ ss) [] le show = absurd show
lowered limit lower number (s ∷ ss) (l ∷ ls) le show = (shows_lower number limit lower s l le show.0, lowered limit lower (suc number) ss ls le show.1)

-- a cutoff that is at most the last timestamp of each log that is no segment is at most the least timestamp that a scan noted
at_most_noted : (cutoff : ℕ) (scans : List LogScan) (readings : List LogReading) → cutoff ≤ nothing_noted → HaveNumbersOf scans readings
    → ((log : LogReading) (last : ℕ) → Contains readings log → log.head.segment ≡ None → IsLast log last → cutoff ≤ last) → cutoff ≤ least_of (lasts (map Ok scans))
at_most_noted cutoff [] readings small are least = small
at_most_noted cutoff (s ∷ ss) [] small are least = absurd are
at_most_noted cutoff (s ∷ ss) (l ∷ ls) small are least =
    by s.front.head.segment (segment_shown s.front l are.0.front) (at_most_noted cutoff ss ls small are.1 (λ log last at. least log last (tail_in l log ls at)))
  where
    by : (segment : Option Segment) → segment ≡ l.head.segment → cutoff ≤ least_of (lasts (map Ok ss)) → cutoff ≤ least_of (cons_option (noted_by segment (last_in s.front)) (lasts (map Ok ss)))
    by None same rest = omega (arith, least l (last_in s.front) (head_in l ls) (sym same) are.0.front.last, rest)
    by (Some segment) same rest = rest

-- a file that is no segment has the times of its log by itself
pub alone : (files : List LogReading) (log : LogReading) → log.head.segment ≡ None → times_of log ≡ flat_map times_of (files_of log.head.segment log files)
alone files log none = sym (ap (λ (segment : Option Segment). flat_map times_of (files_of segment log files)) none ∙ append-nil (times_of log))

-- the facts of logs with these fronts
abbrev pub facts_of : (logs parts : List (List ℕ)) (readings : List LogReading) (fronts : List LogFront) (known : List PartScan) (cutoff : ℕ) (choice : Choice) → AreReadings logs readings → ShowFronts fronts readings → AreKnown parts (map known_by known)
    → AreBases fronts known cutoff choice → Facts logs parts
facts_of logs parts readings fronts known cutoff choice read show are_known bases = record {
  readings = readings;
  read = read;
  writers = bases.writers readings show;
  cutoff = cutoff;
  is_cutoff = bases.is_cutoff readings show;
  known = map known_by known;
  are_known = are_known;
  chosen = option_map checkpoint_in choice.chosen;
  is_chosen = bases.choice_is.chosen;
}

-- where recovery of logs with these fronts begins
abbrev pub start_is : (logs parts : List (List ℕ)) (readings : List LogReading) (fronts : List LogFront) (outcomes : List (Result PartScan Fault)) (start : Start) → AreReadings logs readings → ShowFronts fronts readings → (starts : StartsFrom fronts outcomes start)
    → AreKnown parts (map known_by starts.known) → IsStartOf logs parts start
start_is logs parts readings fronts outcomes start read show starts are_known = record {
  basis = record {
    facts = facts_of logs parts readings fronts starts.known start.window.cutoff start.choice read show are_known starts.bases;
    no_gap = subst (λ (n : ℕ). IsFirstOrNone (IsGap n readings) None) starts.begin (starts.no_gap readings show);
  };
  window = λ i. record { begin = starts.begin i; cutoff = start.window.cutoff };
  chosen = refl;
  skipped = starts.bases.choice_is.skipped;
  nameless = starts.bases.choice_is.nameless;
}

-- the parts that were read
read_known : (sources parts : List Seen) (known : List PartScan) → (sources ≡ [] → ⊥) → ArePartOutcomes sources parts (map Ok known) → (bytes : List (List ℕ)) × MayHave (λ seen. seen) parts bytes × AreKnown bytes (map known_by known)
read_known [] parts known some outcomes = absurd (some refl)
read_known (s ∷ ss) parts known some outcomes = known_parts 0 parts known outcomes

-- what holds for all logs with these fronts and all parts with these scans holds for some that the sources may have
pub of_fronts : (sources parts : List Seen) (fronts : List LogFront) (known : List PartScan) (P : List (List ℕ) → List (List ℕ) → Type 0) → (sources ≡ [] → ⊥) → AllZip IsFrontSeen sources fronts → ArePartOutcomes sources parts (map Ok known)
    → ((logs parts : List (List ℕ)) (readings : List LogReading) → AreReadings logs readings → ShowFronts fronts readings → AreKnown parts (map known_by known) → P logs parts) → OfSources (λ seen. seen) sources parts P
of_fronts sources parts fronts known P some seen outcomes holds =
    let logs = read_logs sources fronts seen in
    let are = read_known sources parts known some outcomes in
    record { logs = logs.logs; parts = are.0; logs_may = logs.may; parts_may = are.1; holds = holds logs.logs are.0 logs.readings logs.read logs.show are.2 }

-- the outcomes of the parts that are read are those of the parts, if there are logs
pub outcomes_read : (logs parts : List Seen) (outcomes : List (Result PartScan Fault)) → AllFrom IsPartOutcome 0 (read_parts logs parts) outcomes → ArePartOutcomes logs parts outcomes
outcomes_read [] parts outcomes all = tt
outcomes_read (s ∷ ss) parts outcomes all = all

-- the scans show all updates below the cutoff, if they show all below the least timestamp that one of them noted
all_survive : (scans : List LogScan) (readings : List LogReading) (cutoff : ℕ) → cutoff ≤ nothing_noted → ShowAll (least_of (lasts (map Ok scans))) 0 scans readings → IsCutoff readings cutoff → ShowAll cutoff 0 scans readings
all_survive scans readings cutoff small show is =
    let limit : ℕ = least_of (lasts (map Ok scans)) in
    lowered limit cutoff 0 scans readings (at_most_noted cutoff scans readings small (numbers_of limit 0 scans readings show) (λ log last at none own.
    is.least last (record { log = log; stands = at; is_last = subst (λ (times : List ℕ). IsGreatestOf times last) (alone readings log none) own }))) show

-- what recovery finds
pub found_of : (logs parts : List Seen) (outcomes : Outcomes) (found : Found) → AreOutcomes logs parts outcomes → found.start.window.cutoff ≤ nothing_noted → outcomes.logs.items ≡ map Ok found.scans.items
    → found.fronts.items ≡ map (λ scan. scan.front) found.scans.items → StartsFrom found.fronts.items outcomes.parts.items found.start → OfSources (λ seen. seen) logs parts (λ ls ps. IsFoundOf ls ps found)
found_of logs parts outcomes found are small done fronts starts =
    let scans = found.scans.items in
    let limit : ℕ = least_of (lasts (map Ok scans)) in
    let scanned : AllFrom (IsLogOutcome limit) 0 logs (map Ok scans) = subst (λ all. AllFrom (IsLogOutcome (least_of (lasts all))) 0 logs all) done are.logs_are in
    let whole = whole_logs limit 0 logs scans scanned in
    let show = subst (λ (fs : List LogFront). ShowFronts fs whole.readings) (sym fronts) (fronts_show scans whole.readings (numbers_of limit 0 scans whole.readings whole.show)) in
    let seen = subst (AllZip IsFrontSeen logs) (sym fronts) (all_seen (scan_says limit) 0 logs scans scanned) in
    let known = read_known logs parts starts.known (has_logs found.start.window.cutoff logs found.fronts.items seen starts.bases.is_cutoff) (subst (ArePartOutcomes logs parts) starts.parts_are (outcomes_read logs parts outcomes.parts.items are.parts_are)) in
    record {
      logs = whole.logs;
      parts = known.0;
      logs_may = whole.may;
      parts_may = known.1;
      holds = record {
        start = start_is whole.logs known.0 whole.readings found.fronts.items outcomes.parts.items found.start whole.read show starts known.2;
        fronts = fronts;
        show = all_survive scans whole.readings found.start.window.cutoff small whole.show (starts.bases.is_cutoff whole.readings show);
      };
    }
