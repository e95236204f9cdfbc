-- Sources as one list of jobs, and the answers of their scans.
use Rattle.std.proofs.Common.{◌≡◌, ◌∙◌, ℕ, zero, suc, ◌+◌, ◌<◌, ◌≤◌, min, List, [], ◌∷◌, ◌++◌, length, get_or, map, take, Bor, Option, Some, None, Ok, Err, refl, sym, ap, subst, add-one, add-zero, arith}
use Rattle.std.specs.Prelude.{Result, IfOk, IfErr, OnErr, IsTrue}
use Rattle.std.specs.Option.{option_to_list}
use Rattle.std.specs.List.{All, AllByRecursion, AllZip, cons_option, filter_map, zip}
use Rattle.std.proofs.Math.Seq.{take-suc}
use Rattle.std.proofs.lemmas.List.{get_or-map, length-map, map-append}
use Rattle.std.proofs.lemmas.List.Elements.{All-cons, All-head, All-nil, All-push, All-tail, filter_map-append}
use Rattle.std.proofs.lemmas.Slice.Zip.{AllZip-long, all_zipped_more, firsts-zip, seconds-zip, length-zip}
use Rattle.mt_words.specs.declared.fault.Fault.{Fault}
use Rattle.mt_words.specs.declared.fault.Memory.{Memory}
use Rattle.mt_record.specs.declared.read.FeedFault.{FeedFault}
use Rattle.mt_record.specs.declared.read.FeedFault.TheVariants as of_log
use Rattle.mt_record.specs.Answered.{IsAnswered, fault_at}
use Rattle.mt_board.specs.Board.{BoardId, PassView, fresh_pass, fresh_passes, least_of, least_noted, nothing_noted, SawNoneBelow}
use Rattle.mt_scan.specs.declared.log_scan.LogScan.{LogScan}
use Rattle.mt_scan.specs.Dropping.{HasLooked, IsSharedScan, noted_for, lowered_by}
use Rattle.mt_scan.proofs.Drops.{least_small, under_looks, shows_lower, shows_all}
use Rattle.mt_scan.specs.Sources.{Seen}
use Rattle.mt_scan.specs.Scans.{IsScanOf, IsScanFault, IsLogVerdict, OfTold, failures_of}
use Rattle.mt_recover.specs.declared.scans.Outcomes.{Outcomes}
use Rattle.mt_recover.specs.declared.scans.ScanJob.{ScanJob}
use Rattle.mt_recover.specs.declared.scans.Scanned.{Scanned}
use Rattle.mt_recover.specs.declared.scans.Scanned.TheVariants as scanned
use Rattle.mt_recover.specs.declared.scans.ScanJob.TheVariants as jobs
use Rattle.mt_recover.specs.Steps.Outcomes.{IsLogOutcome, IsPartOutcome, AllFrom, AreOutcomes, last_in, lasts, read_parts, in_memory}
use Rattle.mt_recover.specs.Steps.Scanning.{log_jobs, part_jobs, IsScanned, IsFresh, HasScanned, AreGathered, log_in, logs_in, part_scans_in, AreDealt}
use Rattle.mt_recover.proofs.ReplayLemmas.{all_answered}
use Rattle.mt_recover.proofs.SharingLemmas.{dealt_answers, zip_says}

-- ---- the answers of scans, separated into those of logs and of parts

-- one more answer is appended to those of its kind
pub next_told : {X : Type 0} (tells : Scanned → Option X) (answers : List Scanned) (answer : Scanned) (told new : List X) → told ≡ filter_map tells answers → new ≡ told ++ option_to_list (tells answer) → new ≡ filter_map tells (answers ++ answer ∷ [])
next_told {X} tells answers answer told new are pushed =
    pushed ∙ (λ i. are i ++ option_to_list (tells answer)) ∙ ap (λ l. filter_map tells answers ++ l) (one (tells answer)) ∙ sym (filter_map-append tells answers (answer ∷ []))
  where
    one : (told : Option X) → option_to_list told ≡ cons_option told []
    one None = refl
    one (Some x) = refl

-- the answers of parts, numbered from this part on
part_answers : {S : Type 0} (seen : S → Seen) (limit log part : ℕ) (parts : List S) (answers : List Scanned) → AllZip (IsScanned seen limit) (part_jobs part parts) answers
    → AllFrom (IsLogOutcome limit) log [] (logs_in answers) × AllFrom IsPartOutcome part (map seen parts) (part_scans_in answers)
part_answers seen limit log part [] [] zip = (tt, tt)
part_answers seen limit log part [] (a ∷ rest) zip = absurd zip
part_answers seen limit log part (p ∷ ps) [] zip = absurd zip
part_answers seen limit log part (p ∷ ps) (scanned.Log outcome ∷ rest) zip = absurd zip.0
part_answers seen limit log part (p ∷ ps) (scanned.Part outcome ∷ rest) zip =
    let later = part_answers seen limit log (suc part) ps rest (subst (λ (n : ℕ). AllZip (IsScanned seen limit) (part_jobs n ps) rest) (add-one part) zip.1) in
    (later.0, (zip.0, later.1))

-- the answers of logs, numbered from this log on, and then of all parts
all_answers : {S : Type 0} (seen : S → Seen) (limit log : ℕ) (logs parts : List S) (answers : List Scanned) → AllZip (IsScanned seen limit) (log_jobs log logs ++ part_jobs 0 parts) answers
    → AllFrom (IsLogOutcome limit) log (map seen logs) (logs_in answers) × AllFrom IsPartOutcome 0 (map seen parts) (part_scans_in answers)
all_answers seen limit log [] parts answers zip = part_answers seen limit log 0 parts answers zip
all_answers seen limit log (l ∷ ls) parts [] zip = absurd zip
all_answers seen limit log (l ∷ ls) parts (scanned.Part outcome ∷ rest) zip = absurd zip.0
all_answers seen limit log (l ∷ ls) parts (scanned.Log outcome ∷ rest) zip =
    let later = all_answers seen limit (suc log) ls parts rest (subst (λ (n : ℕ). AllZip (IsScanned seen limit) (log_jobs n ls ++ part_jobs 0 parts) rest) (add-one log) zip.1) in
    ((zip.0, later.0), later.1)

-- the answers of all jobs are the outcomes of logs and parts
outcomes_of : {S : Type 0} (seen : S → Seen) (logs parts : List S) (jobs : List (ScanJob S)) (answers : List Scanned) (outcomes : Outcomes) → jobs ≡ log_jobs 0 logs ++ part_jobs 0 (read_parts logs parts)
    → AllZip (IsScanned seen (least_of (lasts (logs_in answers)))) jobs answers → outcomes.logs.items ≡ logs_in answers → outcomes.parts.items ≡ part_scans_in answers → AreOutcomes (map seen logs) (map seen parts) outcomes
outcomes_of {S} seen logs parts jobs answers outcomes same zip logs_are parts_are =
    let limit : ℕ = least_of (lasts (logs_in answers)) in
    let both = all_answers seen limit 0 logs (read_parts logs parts) answers (subst (λ (js : List (ScanJob S)). AllZip (IsScanned seen limit) js answers) same zip) in
    record { logs_are = rw logs_are both.0; parts_are = rw (parts_are, read logs) both.1 }
  where
    read : (logs : List S) → read_parts (map seen logs) (map seen parts) ≡ map seen (read_parts logs parts)
    read [] = refl
    read (l ∷ ls) = refl

-- if there is a log, all parts are read
pub read_all : {L P : Type 0} (logs : List L) (parts : List P) → (logs ≡ [] → ⊥) → read_parts logs parts ≡ parts
read_all [] parts some = absurd (some refl)
read_all (l ∷ ls) parts some = refl

-- ---- scans that share a board

-- an answer that dropped nothing below a limit dropped nothing below a lower limit
pub scanned_lower : {S : Type 0} (seen : S → Seen) (limit lower : ℕ) (job : ScanJob S) (answer : Scanned) → lower ≤ limit → IsScanned seen limit job answer → IsScanned seen lower job answer
scanned_lower seen limit lower (jobs.Log log source) (scanned.Log (Ok scan)) le is = record {
  scan = (is.scan.0, is.scan.1, record { log = is.scan.2.log; is_reading = is.scan.2.is_reading; shows = shows_lower log limit lower scan is.scan.2.log le is.scan.2.shows });
  fault = tt;
  steady = is.steady;
}
scanned_lower seen limit lower (jobs.Log log source) (scanned.Log (Err fault)) le is = record { scan = tt; fault = is.fault; steady = is.steady }
scanned_lower seen limit lower (jobs.Part part source) (scanned.Part outcome) le is = is
scanned_lower seen limit lower (jobs.Log log source) (scanned.Part outcome) le is = absurd is
scanned_lower seen limit lower (jobs.Part part source) (scanned.Log outcome) le is = absurd is

-- the least of numbers
least_both : (xs ys : List ℕ) → least_of (xs ++ ys) ≡ min (least_of xs) (least_of ys)
least_both [] ys = omega (arith, least_small ys)
least_both (x ∷ xs) ys = let rest = least_both xs ys in omega (arith, rest)

noted_is : (noted : ℕ) (n : Option ℕ) → noted ≤ nothing_noted → lowered_by noted n ≡ min noted (least_of (cons_option n []))
noted_is noted None small = omega (arith, small)
noted_is noted (Some n) small = omega (arith, small)

-- the source of a log was scanned
pub log_scanned : {S : Type 0} (seen : S → Seen) (log : ℕ) (source : S) (answer : Result LogScan Fault) (before after : PassView) → before.noted ≤ nothing_noted
    → IfOk answer (λ scan. OfTold (seen source).told (λ bytes. IsSharedScan log before after bytes scan)) → IfErr answer (λ fault. OfTold (seen source).told (λ bytes. IsScanFault log bytes fault))
    → OnErr answer (HasLooked before after × (after.noted ≡ before.noted)) → (IsTrue (seen source).steady → failures_of answer ≡ 0) → HasScanned seen (jobs.Log log source ∷ []) (scanned.Log answer ∷ []) before after
log_scanned {S} seen log source (Ok scan) before after small is fails unnoted steady =
    let shared = is.2 in
    let outcome : IsLogOutcome (least_of after.looks) log (seen source) (Ok scan) = record { scan = (is.0, is.1, shared.is); fault = tt; steady = steady } in
    record {
      board = ap (λ (p : PassView). p.board) shared.looked.rest;
      noted = shared.noted ∙ noted_is before.noted (noted_for scan) small;
      falls = omega (arith, ap least_of shared.looked.looks, least_both before.looks (shared.looked.first ∷ shared.looked.more));
      answered = (outcome, tt);
    }
log_scanned {S} seen log source (Err fault) before after small is fails unnoted steady =
    let outcome : IsLogOutcome (least_of after.looks) log (seen source) (Err fault) = record { scan = tt; fault = fails; steady = steady } in
    record {
      board = ap (λ (p : PassView). p.board) unnoted.0.rest;
      noted = omega (arith, unnoted.1, small);
      falls = omega (arith, ap least_of unnoted.0.looks, least_both before.looks (unnoted.0.first ∷ unnoted.0.more));
      answered = (outcome, tt);
    }

-- one more source was scanned
pub scanned_next : {S : Type 0} (seen : S → Seen) (jobs : List (ScanJob S)) (job : ScanJob S) (answers : List Scanned) (answer : Scanned) (before middle after : PassView) → HasScanned seen jobs answers before middle
    → HasScanned seen (job ∷ []) (answer ∷ []) middle after → HasScanned seen (jobs ++ job ∷ []) (answers ++ answer ∷ []) before after
scanned_next seen jobs job answers answer before middle after was is =
    let logs : lasts (logs_in (answers ++ answer ∷ [])) ≡ lasts (logs_in answers) ++ lasts (logs_in (answer ∷ [])) =
    ap lasts (filter_map-append log_in answers (answer ∷ [])) ∙ filter_map-append last_in (logs_in answers) (logs_in (answer ∷ [])) in
    record {
      board = is.board ∙ was.board;
      noted = omega (arith, is.noted, was.noted, ap least_of logs, least_both (lasts (logs_in answers)) (lasts (logs_in (answer ∷ []))));
      falls = omega (arith, is.falls, was.falls);
      answered = all_zipped_more _ jobs answers job answer
          (zip_says (IsScanned seen (least_of after.looks)) (IsScanned seen (least_of middle.looks)) jobs answers (λ j a at. scanned_lower seen (least_of middle.looks) (least_of after.looks) j a is.falls at) was.answered) is.answered.0;
    }

-- ---- fresh passes

-- the passes of a new board are fresh
passes_fresh : (board : BoardId) (n : ℕ) → All (IsFresh board) (fresh_passes board n)
passes_fresh board zero = All-nil (IsFresh board)
passes_fresh board (suc n) = All-push (IsFresh board) (fresh_passes board n) (fresh_pass board n) (passes_fresh board n) refl

-- and so are those of shares that got them
pub shares_fresh : {J : Type 0} (board : BoardId) (n : ℕ) (shares : List (J × PassView)) (passes : List PassView) → map (λ share. share.1) shares ≡ passes → passes ≡ fresh_passes board n → All (λ share. IsFresh board share.1) shares
shares_fresh {J} board n shares passes are fresh = by shares (subst (All (IsFresh board)) (sym (are ∙ fresh)) (passes_fresh board n))
  where
    by : (shares : List (J × PassView)) → All (IsFresh board) (map (λ share. share.1) shares) → All (λ share. IsFresh board share.1) shares
    by [] all = All-nil (λ (share : J × PassView). IsFresh board share.1)
    by (s ∷ ss) all = All-cons (λ (share : J × PassView). IsFresh board share.1) s ss (All-head (IsFresh board) s.1 (map (λ share. share.1) ss) all) (by ss (All-tail (IsFresh board) s.1 (map (λ share. share.1) ss) all))

-- shares that were paired with passes have both, in their order
pub with_passes : {J : Type 0} (shares : List (J × PassView)) (dealt : List J) (passes : List PassView) → shares ≡ zip dealt passes → length passes ≡ length dealt
    → (map (λ share. share.0) shares ≡ dealt) × (map (λ share. share.1) shares ≡ passes) × (length shares ≡ length dealt)
with_passes {J} shares dealt passes are long = (
  ap (map (λ (share : J × PassView). share.0)) are ∙ firsts-zip dealt passes long,
  ap (map (λ (share : J × PassView). share.1)) are ∙ seconds-zip dealt passes long,
  omega (arith, ap length are, length-zip dealt passes, long),
)

-- mapping in two steps is mapping by both at once
pub in_two_steps : {A B C : Type 0} (f : A → B) (h : B → C) (xs : List A) (ys : List B) → map f xs ≡ ys → map (λ x. h (f x)) xs ≡ map h ys
in_two_steps {A} {B} {C} f h xs ys are = by xs ∙ ap (map h) are
  where
    by : (xs : List A) → map (λ x. h (f x)) xs ≡ map h (map f xs)
    by [] = refl
    by (x ∷ rest) = ap (λ (l : List C). h (f x) ∷ l) (by rest)

-- ---- the scans of all workers

-- the timestamps that the scans of logs noted
abbrev lasts_in : List Scanned → List ℕ
lasts_in answers = lasts (logs_in answers)

-- the least of these timestamps
abbrev least_in : List Scanned → ℕ
least_in answers = least_of (lasts_in answers)

least_cons : (n : Option ℕ) (ns : List ℕ) → least_of (cons_option n ns) ≡ min (least_of (cons_option n [])) (least_of ns)
least_cons None ns = omega (arith, least_small ns)
least_cons (Some n) ns = omega (arith, least_small ns)

least_first : (answer : Scanned) (answers : List Scanned) → least_in (answer ∷ answers) ≡ min (least_in (answer ∷ [])) (least_in answers)
least_first (scanned.Part outcome) answers = omega (arith, least_small (lasts_in answers))
least_first (scanned.Log (Err fault)) answers = omega (arith, least_small (lasts_in answers))
least_first (scanned.Log (Ok scan)) answers = least_cons (noted_for scan) (lasts_in answers)

-- the least timestamp of dealt answers is the least of the shares' least timestamps
least_dealt : (answers : List Scanned) (parts : List (List Scanned)) → AreDealt answers parts → least_in answers ≡ least_of (map least_in parts)
least_dealt [] parts dealt = none parts dealt
  where
    none : (parts : List (List Scanned)) → AllByRecursion (λ part. part ≡ []) parts → nothing_noted ≡ least_of (map least_in parts)
    none [] dealt = refl
    none (p ∷ ps) dealt = let rest = none ps dealt.1 in omega (arith, ap least_in dealt.0, rest)
least_dealt (a ∷ later) [] dealt = absurd dealt
least_dealt (a ∷ later) ([] ∷ ps) dealt = absurd dealt
least_dealt (a ∷ later) ((x ∷ xs) ∷ ps) dealt =
    let rest = least_dealt later (ps ++ xs ∷ []) dealt.1 in
    omega (
      arith,
      least_first a later,
      least_first x xs,
      ap (λ (y : Scanned). least_in (y ∷ [])) dealt.0,
      rest,
      ap least_of (map-append least_in ps (xs ∷ [])),
      least_both (map least_in ps) (least_in xs ∷ []),
      least_small (lasts_in xs),
    )

-- the scans of the workers can be gathered: there are answers, all passes belong to the board, and gathering gives the outcomes of logs and parts
pub record CanBeGathered {S A : Type 0} (seen : S → Seen) (answers_in : A → List Scanned) (logs parts : List S) (board : BoardId) (all : List (A × PassView)) : Type 0 where
  pub some : 0 < length all
  pub boards : All (λ scans. scans.1.board ≡ board) all
  pub outcomes : (outcomes : Outcomes) → AreGathered board (map (λ scans. answers_in scans.0) all) (map (λ scans. scans.1) all) outcomes → AreOutcomes (map seen logs) (map seen parts) outcomes

module _ {S J A : Type 0} (seen : S → Seen) (jobs_in : J → List (ScanJob S)) (answers_in : A → List Scanned) where
  -- a worker scanned the sources of its share, and gave these answers
  abbrev Scans : J × PassView → A × PassView → Type 0
  Scans share scans = HasScanned seen (jobs_in share.0) (answers_in scans.0) share.1 scans.1

  abbrev passes_of : List (A × PassView) → List PassView
  passes_of all = map (λ scans. scans.1) all

  abbrev answers_of : List (A × PassView) → List (List Scanned)
  answers_of all = map (λ scans. answers_in scans.0) all

  -- if fresh passes noted only the timestamps of their own answers, the least number noted is the least of them all
  least_of_all : (board : BoardId) (shares : List (J × PassView)) (all : List (A × PassView)) → All (λ share. IsFresh board share.1) shares
      → AllZip Scans shares all → least_noted (passes_of all) ≡ least_of (map least_in (answers_of all))
  least_of_all board [] [] fresh zip = refl
  least_of_all board [] (x ∷ xs) fresh zip = absurd zip
  least_of_all board (s ∷ ss) [] fresh zip = absurd zip
  least_of_all board (s ∷ ss) (x ∷ xs) fresh zip =
      let P : J × PassView → Type 0 = λ share. IsFresh board share.1 in
      omega (
        arith,
        zip.0.noted,
        ap (λ (p : PassView). p.noted) (All-head P s ss fresh),
        least_small (lasts_in (answers_in x.0)),
        least_of_all board ss xs (All-tail P s ss fresh) zip.1,
      )

  -- if no pass saw a number below the limit, no scan dropped an update below it
  all_above : (limit : ℕ) (shares : List (J × PassView)) (all : List (A × PassView)) → limit ≤ nothing_noted → SawNoneBelow limit (passes_of all)
      → AllZip Scans shares all → AllZip (AllZip (IsScanned seen limit)) (map (λ share. jobs_in share.0) shares) (answers_of all)
  all_above limit [] [] small saw zip = tt
  all_above limit [] (x ∷ xs) small saw zip = absurd zip
  all_above limit (s ∷ ss) [] small saw zip = absurd zip
  all_above limit (s ∷ ss) (x ∷ xs) small saw zip =
      let P : PassView → Type 0 = λ pass. All (λ look. limit ≤ look) pass.looks in
      let low = under_looks limit x.1.looks small (All-head P x.1 (passes_of xs) saw) in (
        zip_says (IsScanned seen limit) (IsScanned seen (least_of x.1.looks)) (jobs_in s.0) (answers_in x.0) (λ j a at. scanned_lower seen (least_of x.1.looks) limit j a low at) zip.0.answered,
        all_above limit ss xs small (All-tail P x.1 (passes_of xs) saw) zip.1,
      )

  -- the answers gathered from all workers are the outcomes of logs and parts
  outcomes_gathered : (logs parts : List S) (jobs : List (ScanJob S)) (shares : List (J × PassView)) (all : List (A × PassView)) (board : BoardId) (outcomes : Outcomes)
      → jobs ≡ log_jobs 0 logs ++ part_jobs 0 (read_parts logs parts) → AreDealt jobs (map (λ share. jobs_in share.0) shares) → All (λ share. IsFresh board share.1) shares → board.passes ≡ length shares
      → AllZip Scans shares all → AreGathered board (answers_of all) (passes_of all) outcomes → AreOutcomes (map seen logs) (map seen parts) outcomes
  outcomes_gathered logs parts jobs shares all board outcomes same dealt fresh many zip gathered =
      let least : ℕ = least_noted (passes_of all) in
      let saw = gathered.saw (omega (arith, many, AllZip-long Scans shares all zip, length-map all (λ (scans : A × PassView). scans.1))) in
      let small = least_small (map (λ (p : PassView). p.noted) (passes_of all)) in
      let answered = dealt_answers (IsScanned seen least) jobs (map (λ share. jobs_in share.0) shares) (answers_of all) dealt (all_above least shares all small saw zip) in
      let limit : least ≡ least_in answered.0 = least_of_all board shares all fresh zip ∙ sym (least_dealt answered.0 (answers_of all) answered.2) in
      outcomes_of seen logs parts jobs answered.0 outcomes same (subst (λ (n : ℕ). AllZip (IsScanned seen n) jobs answered.0) limit answered.1) (gathered.logs answered.0 answered.2) (gathered.parts answered.0 answered.2)

  -- passes that were fresh are still passes of their board
  boards_are : (board : BoardId) (shares : List (J × PassView)) (all : List (A × PassView)) → All (λ share. IsFresh board share.1) shares
      → AllZip Scans shares all → All (λ scans. scans.1.board ≡ board) all
  boards_are board [] [] fresh zip = All-nil (λ (x : A × PassView). x.1.board ≡ board)
  boards_are board [] (x ∷ xs) fresh zip = absurd zip
  boards_are board (s ∷ ss) [] fresh zip = absurd zip
  boards_are board (s ∷ ss) (x ∷ xs) fresh zip =
      let P : J × PassView → Type 0 = λ share. IsFresh board share.1 in
      All-cons (λ (y : A × PassView). y.1.board ≡ board) x xs (zip.0.board ∙ ap (λ (p : PassView). p.board) (All-head P s ss fresh)) (boards_are board ss xs (All-tail P s ss fresh) zip.1)

  -- the answers of workers that scanned the dealt jobs, each with a fresh pass, can be gathered
  pub all_scanned : (logs parts : List S) (jobs : List (ScanJob S)) (shares : List (J × PassView)) (answers : List (Result (A × PassView) Memory)) (all : List (A × PassView)) (opened : BoardId)
      → jobs ≡ log_jobs 0 logs ++ part_jobs 0 (read_parts logs parts) → AreDealt jobs (map (λ share. jobs_in share.0) shares) → All (λ share. IsFresh opened share.1) shares → 0 < length shares → opened.passes ≡ length shares
      → AllZip (λ share answer. IfOk answer (Scans share)) shares answers → answers ≡ map Ok all → (board : BoardId) → board ≡ opened → CanBeGathered seen answers_in logs parts board all
  all_scanned logs parts jobs shares answers all opened are dealt fresh some many answered done board same =
      let zip = all_answered Scans shares answers all answered done in
      subst (λ (b : BoardId). CanBeGathered seen answers_in logs parts b all) (sym same) (record {
        some = omega (arith, some, AllZip-long Scans shares all zip);
        boards = boards_are opened shares all fresh zip;
        outcomes = λ outcomes gathered. outcomes_gathered logs parts jobs shares all opened outcomes are dealt fresh many zip gathered;
      })

-- ---- logs in memory

-- the verdict on bytes in memory is a fault of their scan, and no source failed
fault_in_memory : (log : ℕ) (bytes : List ℕ) (fault : FeedFault) → IsAnswered bytes fault → IsScanFault log bytes (fault_at log fault) × (failures_of {X = LogScan} (Err (fault_at log fault)) ≡ 0)
fault_in_memory log bytes of_log.Memory is = (tt, refl)
fault_in_memory log bytes of_log.Header is = ((refl, is (λ same. cc)), refl)
fault_in_memory log bytes (of_log.Record nth what) is = ((refl, is (λ same. cc)), refl)

pub outcome_in_memory : (limit log : ℕ) (bytes : List ℕ) (outcome : Result LogScan Fault) → IfOk outcome (IsScanOf log bytes) → IfErr outcome (IsLogVerdict log bytes) → IsLogOutcome limit log (in_memory bytes) outcome
outcome_in_memory limit log bytes (Ok scan) is fails = record { scan = (bytes, refl, record { log = is.log; is_reading = is.is_reading; shows = shows_all log limit scan is.log is.shows }); fault = tt; steady = λ _. refl }
outcome_in_memory limit log bytes (Err fault) is fails =
    let both = fault_in_memory log bytes fails.of_bytes fails.answered in
    rw fails.is (record { scan = tt; fault = (bytes, refl, both.0); steady = λ _. both.1 })

-- one more item in each list
pub all_from_push : {A B : Type 0} (R : ℕ → A → B → Type 0) (number : ℕ) (xs : List A) (ys : List B) (x : A) (y : B) → AllFrom R number xs ys → R (number + length ys) x y → AllFrom R number (xs ++ x ∷ []) (ys ++ y ∷ [])
all_from_push R number [] [] x y all one = (rw add-zero at one, tt)
all_from_push R number [] (b ∷ bs) x y all one = absurd all
all_from_push R number (a ∷ rest) [] x y all one = absurd all
all_from_push R number (a ∷ rest) (b ∷ bs) x y all one =
    let next : number + length (b ∷ bs) ≡ suc number + length bs = omega arith in
    (all.0, all_from_push R (suc number) rest bs x y all.1 (subst (λ (n : ℕ). R n x y) next one))

-- the scan of the next log
pub scanned_more : (limit : ℕ) (logs : List (Bor (List ℕ))) (outcomes new : List (Result LogScan Fault)) (log : ℕ) (d : Bor (List ℕ)) (outcome : Result LogScan Fault) → log < length logs → log ≡ length outcomes
    → IfOk outcome (IsScanOf log (get_or logs log d).now) → IfErr outcome (IsLogVerdict log (get_or logs log d).now) → new ≡ outcomes ++ outcome ∷ []
    → AllFrom (IsLogOutcome limit) 0 (take log (map in_memory (map (λ log. log.now) logs))) outcomes → AllFrom (IsLogOutcome limit) 0 (take (log + 1) (map in_memory (map (λ log. log.now) logs))) new
scanned_more limit logs outcomes new log d outcome lt at is fails pushed are =
    let all : List (List ℕ) = map (λ log. log.now) logs in
    let seen : List Seen = map in_memory all in
    let within : log < length all = omega (arith, lt, length-map logs (λ log. log.now)) in
    let own : get_or seen log (in_memory d.now) ≡ in_memory (get_or logs log d).now = get_or-map in_memory all log d.now (in_memory d.now) within ∙ ap in_memory (get_or-map (λ log. log.now) logs log d d.now lt) in
    let place : log ≡ 0 + length outcomes = omega (arith, at) in
    let one = subst (λ (n : ℕ). IsLogOutcome limit n (in_memory (get_or logs log d).now) outcome) place (outcome_in_memory limit log (get_or logs log d).now outcome is fails) in
    rw (pushed, add-one, take-suc seen log (in_memory d.now) (omega (arith, within, length-map all in_memory)), own)
    (all_from_push (IsLogOutcome limit) 0 (take log seen) outcomes (in_memory (get_or logs log d).now) outcome are one)
