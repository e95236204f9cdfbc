-- From inputs that were fed to the answers of their scans.
use Rattle.std.proofs.Common.{◌≡◌, ℕ, suc, ◌+◌, List, [], ◌∷◌, ◌++◌, length, map, Some, None, Ok, Err, refl, subst, arith}
use Rattle.std.specs.Prelude.{Result, IfErr, IsSome}
use Rattle.std.specs.List.{All}
use Rattle.std.proofs.lemmas.List.Elements.{All-nil, All-cons}
use Rattle.mt_words.specs.declared.fault.Fault.{Fault}
use Rattle.mt_words.specs.declared.fault.Fault.TheVariants as faults
use Rattle.mt_board.specs.Board.{least_of}
use Rattle.mt_scan.specs.declared.log_scan.LogScan.{LogScan}
use Rattle.mt_scan.specs.declared.part_scan.PartScan.{PartScan}
use Rattle.mt_scan.specs.Sources.{Seen}
use Rattle.mt_scan.specs.Scans.{failures_of}
use Rattle.mt_scan.specs.PartsShown.{IsPartScanFault}
use Rattle.mt_recover.specs.declared.scans.Outcomes.{Outcomes}
use Rattle.mt_recover.specs.Fed.{Input, Answers, AreFed, IsLogAnswer, IsPartAnswer, seen_fed}
use Rattle.mt_recover.specs.Inputs.{IsRecoveryFrom}
use Rattle.mt_recover.specs.Steps.Outcomes.{AllFrom, IsLogOutcome, IsPartOutcome, AreOutcomes, AreAllOk, lasts}
use Rattle.mt_recover.proofs.ScanLemmas.{all_from_push, outcome_in_memory}
use Rattle.mt_recover.proofs.SourceLemmas.{none_refused, answered_seen}

one_more : {B : Type 0} (R : ℕ → Input → B → Type 0) (inputs : List Input) (answers new : List B) (number : ℕ) (input : Input) (answer : B) → AllFrom R 0 inputs answers → number ≡ length answers → R number input answer → new ≡ answers ++ answer ∷ []
    → AllFrom R 0 (inputs ++ input ∷ []) new
one_more R inputs answers new number input answer all at one pushed =
    let place : number ≡ 0 + length answers = omega (arith, at) in
    rw pushed (all_from_push R 0 inputs answers input answer all (subst (λ (n : ℕ). R n input answer) place one))

-- one more log was fed
pub log_more : (logs parts : List Input) (answers : Answers) (new : List (Result LogScan Fault)) (number : ℕ) (log : Input) (answer : Result LogScan Fault) → number ≡ length answers.logs → IsLogAnswer number log answer → new ≡ answers.logs ++ answer ∷ []
    → AreFed logs parts answers → AreFed (logs ++ log ∷ []) parts (record { logs = new; parts = answers.parts })
log_more logs parts answers new number log answer at one pushed fed = record { logs_are = one_more IsLogAnswer logs answers.logs new number log answer fed.logs_are at one pushed; parts_are = fed.parts_are }

-- one more part was fed
pub part_more : (logs parts : List Input) (answers : Answers) (new : List (Result PartScan Fault)) (number : ℕ) (part : Input) (answer : Result PartScan Fault) → number ≡ length answers.parts → IsPartAnswer number part answer → new ≡ answers.parts ++ answer ∷ []
    → AreFed logs parts answers → AreFed logs (parts ++ part ∷ []) (record { logs = answers.logs; parts = new })
part_more logs parts answers new number part answer at one pushed fed = record { logs_are = fed.logs_are; parts_are = one_more IsPartAnswer parts answers.parts new number part answer fed.parts_are at one pushed }

-- the scan of a part that was fed has no other fault than out of memory
pub part_memory : (part : ℕ) (answer : Result PartScan Fault) → IfErr answer (IsPartScanFault part) → failures_of answer ≡ 0 → IfErr answer (λ fault. fault ≡ faults.Memory)
part_memory part (Ok scan) is none = tt
part_memory part (Err fault) is none = by fault is none
  where
    by : (fault : Fault) → IsPartScanFault part fault → failures_of {X = PartScan} (Err fault) ≡ 0 → fault ≡ faults.Memory
    by (faults.PartSource other) is none = absurd (omega (arith, none))
    by faults.Memory is none = refl
    by fault is none = absurd is

log_outcome : (limit log : ℕ) (input : Input) (answer : Result LogScan Fault) → IsLogAnswer log input answer → IsLogOutcome limit log (seen_fed input) answer
log_outcome limit log (Some bytes) answer is = outcome_in_memory limit log bytes answer is.0 is.1
log_outcome limit log None answer is = rw is (record { scan = tt; fault = ([], tt, refl); steady = λ steady. absurd cc })

part_outcome : (part : ℕ) (input : Input) (answer : Result PartScan Fault) → IsPartAnswer part input answer → IsPartOutcome part (seen_fed input) answer
part_outcome part (Some bytes) (Ok scan) is = record { scan = (bytes, refl, is.0); fault = tt; steady = λ _. refl }
part_outcome part (Some bytes) (Err fault) is = rw is.1 (record { scan = tt; fault = tt; steady = λ _. refl })
part_outcome part None answer is = rw is (record { scan = tt; fault = refl; steady = λ steady. absurd cc })

outcomes_from : {B : Type 0} (R : ℕ → Input → B → Type 0) (Q : ℕ → Seen → B → Type 0) → ((number : ℕ) (input : Input) (answer : B) → R number input answer → Q number (seen_fed input) answer) → (number : ℕ) (inputs : List Input) (answers : List B)
    → AllFrom R number inputs answers → AllFrom Q number (map seen_fed inputs) answers
outcomes_from R Q one number [] [] all = tt
outcomes_from R Q one number [] (a ∷ rest) all = absurd all
outcomes_from R Q one number (x ∷ xs) [] all = absurd all
outcomes_from R Q one number (x ∷ xs) (a ∷ rest) all = (one number x a all.0, outcomes_from R Q one (suc number) xs rest all.1)

no_answer : {B : Type 0} (R : ℕ → Input → B → Type 0) (answers : List B) → AllFrom R 0 [] answers → answers ≡ []
no_answer R [] all = refl
no_answer R (a ∷ rest) all = absurd all

-- if there is a log, the answers for inputs that were fed are the outcomes of their scans
pub outcomes_fed : (logs parts : List Input) (outcomes : Outcomes) → (outcomes.logs.items ≡ [] → ⊥) → AreFed logs parts (record { logs = outcomes.logs.items; parts = outcomes.parts.items })
    → AreOutcomes (map seen_fed logs) (map seen_fed parts) outcomes
outcomes_fed [] parts outcomes some fed = absurd (some (no_answer IsLogAnswer outcomes.logs.items fed.logs_are))
outcomes_fed (l ∷ ls) parts outcomes some fed =
    let limit = least_of (lasts outcomes.logs.items) in
    record {
      logs_are = outcomes_from IsLogAnswer (IsLogOutcome limit) (log_outcome limit) 0 (l ∷ ls) outcomes.logs.items fed.logs_are;
      parts_are = outcomes_from IsPartAnswer IsPartOutcome part_outcome 0 parts outcomes.parts.items fed.parts_are;
    }

-- recovery of no log is refused
pub no_logs_fed : (logs parts : List Input) (answers : Answers) → answers.logs ≡ [] → AreFed logs parts answers → IsRecoveryFrom seen_fed logs parts (Err faults.NoLogs)
no_logs_fed [] parts answers none fed = record { value = tt; fault = answered_seen seen_fed [] parts faults.NoLogs (none_refused [] (map seen_fed parts) [] tt refl) }
no_logs_fed (l ∷ ls) parts answers none fed = absurd (subst (AllFrom IsLogAnswer 0 (l ∷ ls)) none fed.logs_are)

whole_logs : (number : ℕ) (logs : List Input) (scans : List LogScan) → AllFrom IsLogAnswer number logs (map Ok scans) → All IsSome logs
whole_logs number [] [] all = All-nil IsSome
whole_logs number [] (s ∷ ss) all = absurd all
whole_logs number (l ∷ ls) [] all = absurd all
whole_logs number (Some bytes ∷ ls) (s ∷ ss) all = All-cons IsSome (Some bytes) ls refl (whole_logs (suc number) ls ss all.1)
whole_logs number (None ∷ ls) (s ∷ ss) all = let is = all.0 in absurd cc

whole_parts : (number : ℕ) (parts : List Input) (scans : List PartScan) → AllFrom IsPartAnswer number parts (map Ok scans) → All IsSome parts
whole_parts number [] [] all = All-nil IsSome
whole_parts number [] (s ∷ ss) all = absurd all
whole_parts number (p ∷ ps) [] all = absurd all
whole_parts number (Some bytes ∷ ps) (s ∷ ss) all = All-cons IsSome (Some bytes) ps refl (whole_parts (suc number) ps ss all.1)
whole_parts number (None ∷ ps) (s ∷ ss) all = let is = all.0 in absurd cc

-- if no scan has a fault, no device failed
pub whole_fed : (logs parts : List Input) (outcomes : Outcomes) → AreAllOk outcomes → AreFed logs parts (record { logs = outcomes.logs.items; parts = outcomes.parts.items }) → All IsSome logs × All IsSome parts
whole_fed logs parts outcomes ok fed = (
  whole_logs 0 logs ok.scans (subst (AllFrom IsLogAnswer 0 logs) ok.logs fed.logs_are),
  whole_parts 0 parts ok.known (subst (AllFrom IsPartAnswer 0 parts) ok.parts fed.parts_are),
)
