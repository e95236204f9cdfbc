-- From the answers of scans to the logs and parts that their sources may have.
use Rattle.std.proofs.Common.{◌≡◌, ◌∙◌, ◌⊎◌, inl, inr, ℕ, zero, suc, ◌+◌, ◌<◌, Bool, true, false, IsTrue, List, [], ◌∷◌, ◌++◌, length, map, take, Option, Some, None, Ok, Err, IfOk, IfErr, refl, sym, ap, subst, add-zero, arith}
use Rattle.std.specs.Prelude.{slice_get, Result, IsSomeAnd}
use Rattle.std.specs.Option.{option_map}
use Rattle.std.proofs.lemmas.List.{take_at}
use Rattle.std.proofs.lemmas.Option.{slice_get-map}
use Rattle.std.proofs.lemmas.Result.{IfOk-weaker, IfErr-weaker}
use Rattle.std.proofs.lemmas.Slice.Zip.{AllZip-long}
use Rattle.mt_words.specs.declared.fault.Fault.{Fault}
use Rattle.mt_words.specs.declared.fault.Fault.TheVariants as faults
use Rattle.mt_words.specs.declared.fault.Memory.{Memory}
use Rattle.std.specs.List.{AllZip}
use Rattle.mt_record.specs.declared.front.LogFront.{LogFront}
use Rattle.mt_record.specs.Logs.{LogReading}
use Rattle.mt_scan.specs.declared.log_scan.LogScan.{LogScan}
use Rattle.mt_scan.specs.declared.part_scan.PartScan.{PartScan}
use Rattle.mt_scan.specs.Sources.{Seen, Agrees}
use Rattle.mt_scan.specs.Cutoff.{IsCutoff}
use Rattle.mt_scan.specs.Scans.{IsScanFault, OfTold, ShowFronts, failures_of}
use Rattle.mt_scan.specs.PartsShown.{known_by, IsPartScanFault}
use Rattle.mt_scan.proofs.Telling.{some_bytes}
use Rattle.mt_scan.specs.Segments.{AreWriters}
use Rattle.mt_recover.specs.Recovery.{AreReadings, AreKnown}
use Rattle.mt_recover.specs.Verdict.{IsVerdict, IsVerdictOrMemory, AreSoundLogs, IsAnsweredFrom}
use Rattle.mt_recover.specs.Steps.Preparing.{IsWritersFault}
use Rattle.mt_recover.specs.Steps.LogScans.{ShowAll}
use Rattle.mt_recover.specs.Inputs.{MayHave, OfSources, BlamesUnsteady, IsAnsweredBy, IsAnswerFrom}
use Rattle.mt_recover.specs.Steps.Scanning.{IsFirstErr}
use Rattle.mt_recover.specs.Steps.Outcomes.{IsLogOutcome, IsFrontOutcome, IsFrontSeen, IsPartOutcome, AllFrom, in_memory}
use Rattle.mt_recover.specs.Check.{ArePartOutcomes}

-- ---- what sources may have

-- all sources may have some bytes
some_logs : (sources : List Seen) → (logs : List (List ℕ)) × MayHave (λ seen. seen) sources logs
some_logs [] = ([], tt)
some_logs (s ∷ ss) =
    let here = some_bytes s.told in
    let rest = some_logs ss in
    (here.0 ∷ rest.0, (here.1, rest.1))

-- what sources may have, followed by what others may have
may_append : (sources others : List Seen) (logs more : List (List ℕ)) → MayHave (λ seen. seen) sources logs → MayHave (λ seen. seen) others more → MayHave (λ seen. seen) (sources ++ others) (logs ++ more)
may_append [] others [] more may too = too
may_append [] others (l ∷ ls) more may too = absurd may
may_append (s ∷ ss) others [] more may too = absurd may
may_append (s ∷ ss) others (l ∷ ls) more may too = (may.0, may_append ss others ls more may.1 too)

-- ---- logs and parts whose scans are Ok

-- logs that the sources may have, numbered from this number on, and what the scans show of them
pub record AreWhole (limit number : ℕ) (sources : List Seen) (scans : List LogScan) : Type 0 where
  pub logs : List (List ℕ)
  pub readings : List LogReading
  pub may : MayHave (λ seen. seen) sources logs
  pub read : AreReadings logs readings
  pub show : ShowAll limit number scans readings

pub whole_logs : (limit number : ℕ) (sources : List Seen) (scans : List LogScan) → AllFrom (IsLogOutcome limit) number sources (map Ok scans) → AreWhole limit number sources scans
whole_logs limit number [] [] all = record { logs = []; readings = []; may = tt; read = tt; show = tt }
whole_logs limit number [] (x ∷ xs) all = absurd all
whole_logs limit number (s ∷ ss) [] all = absurd all
whole_logs limit number (s ∷ ss) (x ∷ xs) all =
    let own = all.0.scan in
    let rest = whole_logs limit (suc number) ss xs all.1 in
    record {
      logs = own.0 ∷ rest.logs;
      readings = own.2.log ∷ rest.readings;
      may = (own.1, rest.may);
      read = (own.2.is_reading, rest.read);
      show = (own.2.shows, rest.show);
    }

-- logs that the sources may have, and what the fronts show of them
pub record AreRead (sources : List Seen) (fronts : List LogFront) : Type 0 where
  pub logs : List (List ℕ)
  pub readings : List LogReading
  pub may : MayHave (λ seen. seen) sources logs
  pub read : AreReadings logs readings
  pub show : ShowFronts fronts readings

pub read_logs : (sources : List Seen) (fronts : List LogFront) → AllZip IsFrontSeen sources fronts → AreRead sources fronts
read_logs [] [] all = record { logs = []; readings = []; may = tt; read = tt; show = tt }
read_logs [] (f ∷ fs) all = absurd all
read_logs (s ∷ ss) [] all = absurd all
read_logs (s ∷ ss) (f ∷ fs) all =
    let own = all.0 in
    let rest = read_logs ss fs all.1 in
    record { logs = own.0 ∷ rest.logs; readings = own.2.log ∷ rest.readings; may = (own.1, rest.may); read = (own.2.is_reading, rest.read); show = (own.2.shows, rest.show) }

-- there are as many logs as sources
as_many_logs : (sources : List Seen) (fronts : List LogFront) (are : AreRead sources fronts) → length are.logs ≡ length sources
as_many_logs sources fronts are = AllZip-long (λ seen bytes. Agrees seen.told bytes) sources are.logs are.may

pub known_parts : (number : ℕ) (sources : List Seen) (scans : List PartScan) → AllFrom IsPartOutcome number sources (map Ok scans) → (parts : List (List ℕ)) × MayHave (λ seen. seen) sources parts × AreKnown parts (map known_by scans)
known_parts number [] [] all = ([], tt, tt)
known_parts number [] (x ∷ xs) all = absurd all
known_parts number (s ∷ ss) [] all = absurd all
known_parts number (s ∷ ss) (x ∷ xs) all =
    let own = all.0.scan in
    let rest = known_parts (suc number) ss xs all.1 in
    (own.0 ∷ rest.0, (own.1, rest.1), (own.2, rest.2))

-- ---- the first fault

-- the source of an outcome, and the sources before it
record IsSplit {A B : Type 0} (R : ℕ → A → B → Type 0) (number : ℕ) (xs : List A) (before : List B) (y : B) : Type 0 where
  front : List A
  x : A
  back : List A
  are : xs ≡ front ++ x ∷ back
  all_before : AllFrom R number front before
  place : ℕ
  place_is : place ≡ number + length front
  holds : R place x y

split : {A B : Type 0} (R : ℕ → A → B → Type 0) (number : ℕ) (xs : List A) (before : List B) (y : B) (after : List B) → AllFrom R number xs (before ++ y ∷ after) → IsSplit R number xs before y
split R number [] [] y after all = absurd all
split R number [] (b ∷ bs) y after all = absurd all
split R number (x ∷ xs) [] y after all = record { front = []; x = x; back = xs; are = refl; all_before = tt; place = number; place_is = sym (add-zero number); holds = all.0 }
split R number (x ∷ xs) (b ∷ bs) y after all =
    let rest = split R (suc number) xs bs y after all.1 in
    let next : rest.place ≡ number + length (x ∷ rest.front) = omega (arith, rest.place_is) in
    record { front = x ∷ rest.front; x = rest.x; back = rest.back; are = ap (λ l. x ∷ l) rest.are; all_before = (all.0, rest.all_before); place = rest.place; place_is = next; holds = rest.holds }

behind_front : {A : Type 0} (front : List A) (x : A) (rest : List A) → slice_get (front ++ x ∷ rest) (length front) ≡ Some x
behind_front [] x rest = refl
behind_front (y ∷ ys) x rest = behind_front ys x rest

not_steady : (steady : Bool) → (IsTrue steady → suc zero ≡ zero) → steady ≡ false
not_steady true h = absurd (omega (arith, h refl))
not_steady false h = refl

-- the fault of a log that comes after logs with readings
fault_of_log : (logs rest parts : List (List ℕ)) (readings : List LogReading) (bytes : List ℕ) (fault : Fault) → AreReadings logs readings → IsScanFault (length logs) bytes fault → IsAnsweredFrom (logs ++ bytes ∷ rest) parts fault
fault_of_log logs rest parts readings bytes fault read is = by fault is
  where
    all : List (List ℕ)
    all = logs ++ bytes ∷ rest

    before : AreReadings (take (length logs) all) readings
    before = subst (λ (x : List (List ℕ)). AreReadings x readings) (sym (take_at logs (bytes ∷ rest) (length logs) refl)) read

    by : (fault : Fault) → IsScanFault (length logs) bytes fault → IsAnsweredFrom all parts fault
    by (faults.Header log) is =
        subst (λ (n : ℕ). IsAnsweredFrom all parts (faults.Header n)) (sym is.0)
        (λ other. record { readings = readings; before = before; bytes = bytes; stands = behind_front logs bytes rest; is_fault = is.1 })
    by (faults.Record log nth what) is =
        subst (λ (n : ℕ). IsAnsweredFrom all parts (faults.Record n nth what)) (sym is.0)
        (λ other. record { readings = readings; before = before; bytes = bytes; stands = behind_front logs bytes rest; is_fault = is.1 })
    by (faults.Source log) is = subst (λ (n : ℕ). IsAnsweredFrom all parts (faults.Source n)) (sym is) (readings, before)
    by faults.Memory is = λ other. absurd (other refl)
    by fault is = absurd is

-- if the fault blames the source of a log, that source is not steady
blames_log : (front back parts : List Seen) (source : Seen) (bytes : List ℕ) (fault : Fault) → IsScanFault (length front) bytes fault → (IsTrue source.steady → failures_of {X = LogScan} (Err fault) ≡ 0)
    → BlamesUnsteady (λ seen. seen) (front ++ source ∷ back) parts fault
blames_log front back parts source bytes (faults.Source log) is steady = rw (is, behind_front front source back) (not_steady source.steady steady)
blames_log front back parts source bytes (faults.PartSource part) is steady = absurd is
blames_log front back parts source bytes fault is steady = tt

-- what an answer of a log says: its front, or a fault
pub record Says {A : Type 0} (front : A → LogFront) (R : ℕ → Seen → Result A Fault → Type 0) : Type 0 where
  pub value : (log : ℕ) (seen : Seen) (x : A) → R log seen (Ok x) → IsFrontSeen seen (front x)
  pub fault : (log : ℕ) (seen : Seen) (fault : Fault) → R log seen (Err fault) → OfTold seen.told (λ bytes. IsScanFault log bytes fault)
  pub steady : (log : ℕ) (seen : Seen) (fault : Fault) → R log seen (Err fault) → IsTrue seen.steady → failures_of {X = LogScan} (Err fault) ≡ 0

pub scan_says : (limit : ℕ) → Says (λ (scan : LogScan). scan.front) (IsLogOutcome limit)
scan_says limit = record {
  value = λ log seen x is. (is.scan.0, is.scan.1, record { log = is.scan.2.log; is_reading = is.scan.2.is_reading; shows = is.scan.2.shows.numbers.front });
  fault = λ log seen fault is. is.fault;
  steady = λ log seen fault is. is.steady;
}

pub front_says : Says (λ (front : LogFront). front) IsFrontOutcome
front_says = record { value = λ log seen x is. is.front; fault = λ log seen fault is. is.fault; steady = λ log seen fault is. is.steady }

-- if all answers are Ok, these are the fronts of the sources
pub all_seen : {A : Type 0} {front : A → LogFront} {R : ℕ → Seen → Result A Fault → Type 0} → Says front R → (number : ℕ) (sources : List Seen) (xs : List A) → AllFrom R number sources (map Ok xs) → AllZip IsFrontSeen sources (map front xs)
all_seen says number [] [] all = tt
all_seen says number [] (x ∷ xs) all = absurd all
all_seen says number (s ∷ ss) [] all = absurd all
all_seen says number (s ∷ ss) (x ∷ xs) all = (says.value number s x all.0, all_seen says (suc number) ss xs all.1)

pub fronts_seen : (number : ℕ) (sources : List Seen) (fronts : List LogFront) → AllFrom IsFrontOutcome number sources (map Ok fronts) → AllZip IsFrontSeen sources fronts
fronts_seen number [] [] all = tt
fronts_seen number [] (f ∷ fs) all = absurd all
fronts_seen number (s ∷ ss) [] all = absurd all
fronts_seen number (s ∷ ss) (f ∷ fs) all = (all.0.front, fronts_seen (suc number) ss fs all.1)

-- recovery may return the fault of the least log that has one
pub log_refused : {A : Type 0} {front : A → LogFront} {R : ℕ → Seen → Result A Fault → Type 0} → Says front R → (sources parts : List Seen) (outcomes : List (Result A Fault)) (fault : Fault)
    → AllFrom R 0 sources outcomes → IsFirstErr outcomes fault → IsAnsweredBy (λ seen. seen) sources parts fault
log_refused {A} {front} {R} says sources parts outcomes fault all first =
    let at = split R 0 sources (map Ok first.done) (Err fault) first.rest (subst (AllFrom R 0 sources) first.stands all) in
    let fronts = map front first.done in
    let whole = read_logs at.front fronts (all_seen says 0 at.front first.done at.all_before) in
    let own = says.fault at.place at.x fault at.holds in
    let more = some_logs at.back in
    let known = some_logs parts in
    let place : at.place ≡ length at.front = omega (arith, at.place_is) in
    let here = subst (λ (n : ℕ). IsScanFault n own.0 fault) (place ∙ sym (as_many_logs at.front fronts whole)) own.2 in
    rw at.are (
      record {
        logs = whole.logs ++ own.0 ∷ more.0;
        parts = known.0;
        logs_may = may_append at.front (at.x ∷ at.back) whole.logs (own.0 ∷ more.0) whole.may (own.1, more.1);
        parts_may = known.1;
        holds = fault_of_log whole.logs more.0 known.0 whole.readings own.0 fault whole.read here;
      },
      blames_log at.front at.back parts at.x own.0 fault (subst (λ (n : ℕ). IsScanFault n own.0 fault) place own.2) (says.steady at.place at.x fault at.holds),
    )

-- recovery may return `Doubled` of the first log that is doubled, or, if none is, `Torn` of the first that is torn amid its worker's log
pub writers_refused : (sources parts : List Seen) (fronts : List LogFront) (fault : Fault) → AllZip IsFrontSeen sources fronts
    → ((readings : List LogReading) → ShowFronts fronts readings → IsWritersFault readings fault) → IsAnsweredBy (λ seen. seen) sources parts fault
writers_refused sources parts fronts fault all is =
    let whole = read_logs sources fronts all in
    by whole fault (is whole.readings whole.show)
  where
    answered : (whole : AreRead sources fronts) (fault : Fault) → IsVerdict whole.logs (some_logs parts).0 fault → OfSources (λ seen. seen) sources parts (λ ls ps. IsVerdictOrMemory ls ps fault)
    answered whole fault is = let ps = some_logs parts in record { logs = whole.logs; parts = ps.0; logs_may = whole.may; parts_may = ps.1; holds = λ _. is }

    by : (whole : AreRead sources fronts) (fault : Fault) → IsWritersFault whole.readings fault → IsAnsweredBy (λ seen. seen) sources parts fault
    by whole (faults.Doubled i) is = (answered whole (faults.Doubled i) (whole.readings, whole.read, is), tt)
    by whole (faults.Torn i) is = (answered whole (faults.Torn i) (whole.readings, whole.read, is.0, is.1), tt)
    by whole fault is = absurd is

-- the fault of a part, if there are logs, none has a fault, and none is doubled or torn
fault_of_part : (logs parts : List (List ℕ)) (part : ℕ) (fault : Fault) → 0 < length logs → AreSoundLogs logs → IsPartScanFault part fault → IsAnsweredFrom logs parts fault
fault_of_part logs parts part (faults.PartSource i) some sound is = (some, sound)
fault_of_part logs parts part faults.Memory some sound is = λ other. absurd (other refl)
fault_of_part logs parts part fault some sound is = absurd is

-- if the fault blames the source of a part, that source is not steady
blames_part : (logs front back : List Seen) (source : Seen) (fault : Fault) → IsPartScanFault (length front) fault → (IsTrue source.steady → failures_of {X = PartScan} (Err fault) ≡ 0)
    → BlamesUnsteady (λ seen. seen) logs (front ++ source ∷ back) fault
blames_part logs front back source (faults.PartSource part) is steady = rw (is, behind_front front source back) (not_steady source.steady steady)
blames_part logs front back source faults.Memory is steady = tt
blames_part logs front back source fault is steady = absurd is

-- logs with a cutoff are some logs
pub has_logs : (cutoff : ℕ) (sources : List Seen) (fronts : List LogFront) → AllZip IsFrontSeen sources fronts → ((readings : List LogReading) → ShowFronts fronts readings → IsCutoff readings cutoff) → sources ≡ [] → ⊥
has_logs cutoff [] [] all is none = absurd (omega (arith, (is [] tt).has.stands.1))
has_logs cutoff [] (f ∷ fs) all is none = absurd all
has_logs cutoff (s ∷ ss) fronts all is none = absurd cc

-- recovery may return the fault of the least part whose source failed
pub part_refused : (sources parts : List Seen) (fronts : List LogFront) (outcomes : List (Result PartScan Fault)) (fault : Fault) → (sources ≡ [] → ⊥) → AllZip IsFrontSeen sources fronts → ArePartOutcomes sources parts outcomes
    → ((readings : List LogReading) → ShowFronts fronts readings → AreWriters readings) → IsFirstErr outcomes fault → IsAnsweredBy (λ seen. seen) sources parts fault
part_refused [] parts fronts outcomes fault some logs all writers first = absurd (some refl)
part_refused (s ∷ ss) parts fronts outcomes fault some logs all writers first =
    let at = split IsPartOutcome 0 parts (map Ok first.done) (Err fault) first.rest (subst (AllFrom IsPartOutcome 0 parts) first.stands all) in
    let place : at.place ≡ length at.front = omega (arith, at.place_is) in
    let whole = read_logs (s ∷ ss) fronts logs in
    let sound : AreSoundLogs whole.logs = (whole.readings, whole.read, writers whole.readings whole.show) in
    let known = some_logs parts in (
      record {
        logs = whole.logs;
        parts = known.0;
        logs_may = whole.may;
        parts_may = known.1;
        holds = fault_of_part whole.logs known.0 at.place fault (omega (arith, as_many_logs (s ∷ ss) fronts whole)) sound at.holds.fault;
      },
      subst (λ (l : List Seen). BlamesUnsteady (λ seen. seen) (s ∷ ss) l fault) (sym at.are) (blames_part (s ∷ ss) at.front at.back at.x fault (subst (λ (n : ℕ). IsPartScanFault n fault) place at.holds.fault) at.holds.steady),
    )

-- recovery may return `NoLogs` if there is no log
pub none_refused : (sources parts : List Seen) (fronts : List LogFront) → AllZip IsFrontSeen sources fronts → fronts ≡ [] → IsAnsweredBy (λ seen. seen) sources parts faults.NoLogs
none_refused [] parts fronts all none = let ps = some_logs parts in (record { logs = []; parts = ps.0; logs_may = tt; parts_may = ps.1; holds = λ other. refl }, tt)
none_refused (s ∷ ss) parts [] all none = absurd all
none_refused (s ∷ ss) parts (f ∷ fs) all none = absurd cc

-- recovery may return `Memory`
pub memory_refused : (sources parts : List Seen) (fault : Fault) → fault ≡ faults.Memory → IsAnsweredBy (λ seen. seen) sources parts fault
memory_refused sources parts fault is =
    let ls = some_logs sources in
    let ps = some_logs parts in
    rw is (record { logs = ls.0; parts = ps.0; logs_may = ls.1; parts_may = ps.1; holds = λ other. absurd (other refl) }, tt)

-- recovery may return this fault, or `Memory`
pub or_memory : (sources parts : List Seen) (fault : Fault) {P : Type 0} → (P → IsAnsweredBy (λ seen. seen) sources parts fault) → P ⊎ ((memory : Memory) × (fault ≡ faults.Memory)) → IsAnsweredBy (λ seen. seen) sources parts fault
or_memory sources parts fault answers (inl is) = answers is
or_memory sources parts fault answers (inr is) = memory_refused sources parts fault is.1

-- ---- from what is seen of sources to the sources

may_seen : {S : Type 0} (seen : S → Seen) (sources : List S) (all : List (List ℕ)) → MayHave (λ seen. seen) (map seen sources) all → MayHave seen sources all
may_seen seen [] [] may = tt
may_seen seen [] (b ∷ bs) may = absurd may
may_seen seen (s ∷ ss) [] may = absurd may
may_seen seen (s ∷ ss) (b ∷ bs) may = (may.0, may_seen seen ss bs may.1)

-- what holds for what is seen of sources holds for the sources
pub of_seen : {S : Type 0} (seen : S → Seen) (logs parts : List S) (P : List (List ℕ) → List (List ℕ) → Type 0) → OfSources (λ seen. seen) (map seen logs) (map seen parts) P → OfSources seen logs parts P
of_seen seen logs parts P of = record {
  logs = of.logs;
  parts = of.parts;
  logs_may = may_seen seen logs of.logs of.logs_may;
  parts_may = may_seen seen parts of.parts of.parts_may;
  holds = of.holds;
}

unsteady_seen : {S : Type 0} (seen : S → Seen) (sources : List S) (i : ℕ) → IsSomeAnd (slice_get (map seen sources) i) (λ source. source.steady ≡ false) → IsSomeAnd (slice_get sources i) (λ source. (seen source).steady ≡ false)
unsteady_seen {S} seen sources i at = by (slice_get sources i) (subst (λ (o : Option Seen). IsSomeAnd o (λ source. source.steady ≡ false)) (slice_get-map seen sources i) at)
  where
    by : (source : Option S) → IsSomeAnd (option_map seen source) (λ source. source.steady ≡ false) → IsSomeAnd source (λ source. (seen source).steady ≡ false)
    by None at = at
    by (Some source) at = at

-- a fault that recovery may return for what is seen of sources is one for the sources
pub answered_seen : {S : Type 0} (seen : S → Seen) (logs parts : List S) (fault : Fault) → IsAnsweredBy (λ seen. seen) (map seen logs) (map seen parts) fault → IsAnsweredBy seen logs parts fault
answered_seen seen logs parts fault is = (of_seen seen logs parts (λ ls ps. IsAnsweredFrom ls ps fault) is.0, blamed fault is.1)
  where
    blamed : (fault : Fault) → BlamesUnsteady (λ seen. seen) (map seen logs) (map seen parts) fault → BlamesUnsteady seen logs parts fault
    blamed (faults.Source i) is = unsteady_seen seen logs i is
    blamed (faults.PartSource i) is = unsteady_seen seen parts i is
    blamed fault is = tt

-- and so is a result
pub answer_seen : {S T : Type 0} (seen : S → Seen) (logs parts : List S) (P : List (List ℕ) → List (List ℕ) → T → Type 0) (result : Result T Fault)
    → IsAnswerFrom (λ seen. seen) (map seen logs) (map seen parts) P result → IsAnswerFrom seen logs parts P result
answer_seen seen logs parts P result is = record {
  value = IfOk-weaker result _ _ (λ value of. of_seen seen logs parts (λ ls ps. P ls ps value) of) is.value;
  fault = IfErr-weaker result _ _ (λ fault by. answered_seen seen logs parts fault by) is.fault;
}

-- a call may run out of memory
pub answer_without_memory : {S T : Type 0} (seen : S → Seen) (logs parts : List S) (P : List (List ℕ) → List (List ℕ) → T → Type 0) (result : Result T Fault) → result ≡ Err faults.Memory → IsAnswerFrom seen logs parts P result
answer_without_memory seen logs parts P result is = rw is (record { value = tt; fault = answered_seen seen logs parts faults.Memory (memory_refused (map seen logs) (map seen parts) faults.Memory refl) })

-- an answer for some logs and parts that the sources may have, or `Memory`, is an answer from the sources
pub answer_made : {S T : Type 0} (seen : S → Seen) (logs parts : List S) (P : List (List ℕ) → List (List ℕ) → T → Type 0) {Q : List (List ℕ) → List (List ℕ) → Type 0} (result : Result T Fault)
    → (of : OfSources seen logs parts Q) → IfOk result (P of.logs of.parts) → IfErr result (λ fault. fault ≡ faults.Memory) → IsAnswerFrom seen logs parts P result
answer_made seen logs parts P result of made memory = record {
  value = IfOk-weaker result _ _ (λ value holds. record { logs = of.logs; parts = of.parts; logs_may = of.logs_may; parts_may = of.parts_may; holds = holds }) made;
  fault = IfErr-weaker result _ _ (λ fault is. answered_seen seen logs parts fault (memory_refused (map seen logs) (map seen parts) fault is)) memory;
}

-- ---- logs in memory

-- logs in memory may have only their own bytes
may_in_memory : (logs all : List (List ℕ)) → MayHave (λ seen. seen) (map in_memory logs) all → logs ≡ all
may_in_memory [] [] may = refl
may_in_memory [] (b ∷ bs) may = absurd may
may_in_memory (l ∷ ls) [] may = absurd may
may_in_memory (l ∷ ls) (b ∷ bs) may = λ i. may.0 i ∷ may_in_memory ls bs may.1 i

none_to_have : (all : List (List ℕ)) → MayHave (λ seen. seen) [] all → [] ≡ all
none_to_have [] may = refl
none_to_have (b ∷ bs) may = absurd may

-- what holds for logs in memory holds for their bytes
pub of_memory : (logs : List (List ℕ)) (P : List (List ℕ) → List (List ℕ) → Type 0) → OfSources (λ seen. seen) (map in_memory logs) [] P → P logs []
of_memory logs P of = rw (may_in_memory logs of.logs of.logs_may, none_to_have of.parts of.parts_may) of.holds

-- no log in memory is blamed
steady_in_memory : (logs : List (List ℕ)) (i : ℕ) → IsSomeAnd (slice_get (map in_memory logs) i) (λ source. source.steady ≡ false) → ⊥
steady_in_memory [] i at = at
steady_in_memory (l ∷ ls) zero at = absurd cc
steady_in_memory (l ∷ ls) (suc i) at = steady_in_memory ls i at

-- a fault that recovery returns for logs in memory is the verdict on their bytes, or `Memory`
pub answered_in_memory : (logs : List (List ℕ)) (fault : Fault) → IsAnsweredBy (λ seen. seen) (map in_memory logs) [] fault → IsVerdictOrMemory logs [] fault
answered_in_memory logs fault is = by fault (of_memory logs (λ ls ps. IsAnsweredFrom ls ps fault) is.0) is.1
  where
    by : (fault : Fault) → IsAnsweredFrom logs [] fault → BlamesUnsteady (λ seen. seen) (map in_memory logs) [] fault → IsVerdictOrMemory logs [] fault
    by (faults.Source i) is blames = absurd (steady_in_memory logs i blames)
    by (faults.PartSource i) is blames = absurd blames
    by fault is blames = is
