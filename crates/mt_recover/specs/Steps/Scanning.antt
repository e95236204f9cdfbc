-- How jobs are shared out among workers, and how sources are scanned by workers, each with a pass to the board that the scans share.
use Rattle.std.specs.Prelude.{◌≡◌, ℕ, ◌≤◌, min, Option, Some, None, List, [], ◌∷◌, ◌++◌, length, map, All, slice_get, Result, Ok, Err}
use Rattle.std.specs.List.{AllByRecursion, AllZip, enumerate_from, filter_map}
use Rattle.mt_words.specs.declared.fault.Fault.{Fault}
use Rattle.mt_scan.specs.declared.log_scan.LogScan.{LogScan}
use Rattle.mt_scan.specs.declared.part_scan.PartScan.{PartScan}
use Rattle.mt_scan.specs.Sources.{Seen}
use Rattle.mt_board.specs.Board.{BoardId, PassView, fresh_pass, least_of, least_noted, once_below, SawNoneBelow, times}
use Rattle.mt_board.specs.Queue.{ConsumerView, HasEnded, QueueView}
use Rattle.mt_recover.specs.declared.scans.Outcomes.{Outcomes}
use Rattle.mt_recover.specs.declared.scans.ScanJob.{ScanJob}
use Rattle.mt_recover.specs.declared.scans.ScanJob.TheVariants as jobs
use Rattle.mt_recover.specs.declared.scans.Scanned.{Scanned}
use Rattle.mt_recover.specs.declared.scans.Scanned.TheVariants as scanned
use Rattle.mt_recover.specs.Steps.Outcomes.{IsLogOutcome, IsPartOutcome, lasts}

-- ---- jobs that are shared out

-- The shares hold the jobs and nothing else, dealt in turn: the first job is at the front of the first share, the next job at the front of the next
-- share, and so on, again and again over all shares.
abbrev pub AreDealt : {J : Type 0} → List J → List (List J) → Type 0
AreDealt [] shares = AllByRecursion (λ share. share ≡ []) shares
AreDealt (job ∷ jobs) [] = ⊥
AreDealt (job ∷ jobs) ([] ∷ shares) = ⊥
AreDealt (job ∷ jobs) ((first ∷ rest) ∷ shares) = (first ≡ job) × AreDealt jobs (shares ++ rest ∷ [])

-- answers of some of the jobs, each with the number of its job; R relates the number and the job to the answer
abbrev pub AreAnswers : {J X : Type 0} → (ℕ → J → X → Type 0) → List J → List (ℕ × X) → Type 0
AreAnswers {J} R jobs done = All (λ one. (job : J) × (slice_get jobs one.0 ≡ Some job) × R one.0 job one.1) done

-- the consumer has ended, and there is an answer for each job that it took
pub record IsTurnOf {J X : Type 0} (queue : QueueView J) (answers : List (ℕ × X)) (consumer : ConsumerView J) : Type 0 where
  pub taken : map (λ one. one.0) answers ≡ consumer.taken
  pub ended : HasEnded queue consumer

-- the numbers of the answers are those below the count, each once
abbrev pub AreNumbered : {X : Type 0} → ℕ → List (ℕ × X) → Type 0
AreNumbered count answers = (x : ℕ) → times x (map (λ one. one.0) answers) ≡ once_below x count

-- the first error among answers
pub record IsFirstErr {X E : Type 0} (answers : List (Result X E)) (err : E) : Type 0 where
  pub done : List X
  pub rest : List (Result X E)
  pub stands : answers ≡ map Ok done ++ Err err ∷ rest

-- ---- one list of jobs

-- the jobs of logs, numbered from this number on
abbrev pub log_jobs : {S : Type 0} → ℕ → List S → List (ScanJob S)
log_jobs number sources = map (λ numbered. jobs.Log numbered.0 numbered.1) (enumerate_from number sources)

-- the jobs of parts, numbered from this number on
abbrev pub part_jobs : {S : Type 0} → ℕ → List S → List (ScanJob S)
part_jobs number sources = map (λ numbered. jobs.Part numbered.0 numbered.1) (enumerate_from number sources)

-- the answer of the scan of a job's source, which dropped no update below `limit`
abbrev pub IsScanned : {S : Type 0} → (S → Seen) → ℕ → ScanJob S → Scanned → Type 0
IsScanned seen limit (jobs.Log log source) (scanned.Log outcome) = IsLogOutcome limit log (seen source) outcome
IsScanned seen limit (jobs.Part part source) (scanned.Part outcome) = IsPartOutcome part (seen source) outcome
IsScanned seen limit (jobs.Log log source) (scanned.Part outcome) = ⊥
IsScanned seen limit (jobs.Part part source) (scanned.Log outcome) = ⊥

abbrev pub log_in : Scanned → Option (Result LogScan Fault)
log_in (scanned.Log outcome) = Some outcome
log_in (scanned.Part outcome) = None

abbrev pub part_in : Scanned → Option (Result PartScan Fault)
part_in (scanned.Log outcome) = None
part_in (scanned.Part outcome) = Some outcome

-- the answers of the scans of logs
abbrev pub logs_in : List Scanned → List (Result LogScan Fault)
logs_in = filter_map log_in

-- the answers of the scans of parts
abbrev pub part_scans_in : List Scanned → List (Result PartScan Fault)
part_scans_in = filter_map part_in

-- ---- workers

-- a pass of this board that has done nothing
abbrev pub IsFresh : BoardId → PassView → Type 0
IsFresh board pass = pass ≡ fresh_pass board pass.number

-- The sources of these jobs were scanned with a pass. It noted what the scans of logs note, and no other number. No update below the least number
-- that it saw was dropped.
pub record HasScanned {S : Type 0} (seen : S → Seen) (jobs : List (ScanJob S)) (answers : List Scanned) (before after : PassView) : Type 0 where
  pub board : after.board ≡ before.board
  pub noted : after.noted ≡ min before.noted (least_of (lasts (logs_in answers)))
  pub falls : least_of after.looks ≤ least_of before.looks
  pub answered : AllZip (IsScanned seen (least_of after.looks)) jobs answers

-- the answers of all workers were gathered in the order of the jobs, and the board was closed
pub record AreGathered (board : BoardId) (dealt : List (List Scanned)) (passes : List PassView) (outcomes : Outcomes) : Type 0 where
  pub logs : (answers : List Scanned) → AreDealt answers dealt → outcomes.logs.items ≡ logs_in answers
  pub parts : (answers : List Scanned) → AreDealt answers dealt → outcomes.parts.items ≡ part_scans_in answers
  pub saw : board.passes ≤ length passes → SawNoneBelow (least_noted passes) passes
