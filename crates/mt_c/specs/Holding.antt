-- What a place of C holds.
use Rattle.std.specs.Prelude.{◌≡◌, ℕ, Option, Some, None, List, [], map}
use Rattle.std.specs.Arc.{arc_value}
use Rattle.mt_words.specs.Walks.{Pair}
use Rattle.mt_tree.specs.declared.hit.Hit.{Hit}
use Rattle.mt_recover.specs.Fed.{Input}
use Rattle.mt_recover.specs.Report.{Outcome, IsRecoveredOf}
use Rattle.mt_c.specs.Added.{IsLog, IsPart, AreAdded}
use Rattle.mt_c.specs.Jobs.{Awaits, Hires, IsStepOf, JobView}
use Rattle.mt_c.specs.declared.held.Held.{Held}
use Rattle.mt_c.specs.declared.held.Held.TheVariants as held
use Rattle.mt_c.specs.declared.task.Worker.{Worker}

-- the place holds a log: of these bytes so far, or one whose device failed
abbrev pub HoldsLog : Input → Option Held → Type 0
HoldsLog log (Some (held.Log fed)) = IsLog log fed
HoldsLog log place = ⊥

-- the place holds a part: of these bytes so far, or one whose device failed
abbrev pub HoldsPart : Input → Option Held → Type 0
HoldsPart part (Some (held.Part fed)) = IsPart part fed
HoldsPart part place = ⊥

-- the place holds these logs and parts, in this order; an empty place holds none
abbrev pub HoldsInputs : List Input → List Input → Option Held → Type 0
HoldsInputs logs parts (Some (held.Inputs added)) = AreAdded logs parts added
HoldsInputs logs parts None = (logs ≡ []) × (parts ≡ [])
HoldsInputs logs parts place = ⊥

-- the place holds this store and its report
abbrev pub HoldsOutcome : Outcome → Option Held → Type 0
HoldsOutcome outcome (Some (held.Store shared)) = arc_value shared ≡ outcome
HoldsOutcome outcome place = ⊥

-- the place holds the store of these logs and parts, all of which were fed whole, and its report
pub record HoldsStoreOf (logs parts : List Input) (place : Option Held) : Type 0 where
  pub log_bytes : List (List ℕ)
  pub logs_are : logs ≡ map Some log_bytes
  pub part_bytes : List (List ℕ)
  pub parts_are : parts ≡ map Some part_bytes
  pub outcome : Outcome
  pub held : HoldsOutcome outcome place
  pub recovered : IsRecoveredOf log_bytes part_bytes outcome

-- the place holds a job for which P is true
abbrev pub HoldsJob : (JobView → Type 0) → Option Held → Type 0
HoldsJob P (Some (held.Job job)) = P job
HoldsJob P place = ⊥

-- the place holds a worker for which P is true
abbrev pub HoldsWorker : (Worker → Type 0) → Option Held → Type 0
HoldsWorker P (Some (held.Worker worker)) = P worker
HoldsWorker P place = ⊥

-- the place holds a job that recovers from these logs and parts, all of which were fed whole
pub record HoldsJobOf (logs parts : List Input) (place : Option Held) : Type 0 where
  pub log_bytes : List (List ℕ)
  pub logs_are : logs ≡ map Some log_bytes
  pub part_bytes : List (List ℕ)
  pub parts_are : parts ≡ map Some part_bytes
  pub held : HoldsJob (λ job. IsStepOf log_bytes part_bytes job.step) place

-- a job has handed out a task, which the other place holds
pub record IsHired (before : JobView) (job worker : Option Held) : Type 0 where
  pub after : JobView
  pub job_is : HoldsJob (λ held. held ≡ after) job
  pub hired : Worker
  pub worker_is : HoldsWorker (λ held. held ≡ hired) worker
  pub hires : Hires before after hired

-- the pair that a hit has copied
abbrev pub pair_of : Hit → Pair
pair_of hit = (hit.key, hit.columns)

-- the place holds copies of these pairs, in this order
abbrev pub HoldsPairs : List Pair → Option Held → Type 0
HoldsPairs pairs (Some (held.Hits hits)) = map pair_of hits.items ≡ pairs
HoldsPairs pairs place = ⊥

-- ---- kinds

-- a log or part that is being fed
abbrev pub IsFeed : Held → Type 0
IsFeed (held.Log (Some feed)) = Unit {0}
IsFeed (held.Part (Some feed)) = Unit {0}
IsFeed other = ⊥

-- a log or part, fed or failed
abbrev pub IsInput : Held → Type 0
IsInput (held.Log fed) = Unit {0}
IsInput (held.Part fed) = Unit {0}
IsInput other = ⊥

-- a job, and a task that was handed out
abbrev pub IsAnyJob : Held → Type 0
IsAnyJob (held.Job job) = Unit {0}
IsAnyJob other = ⊥

abbrev pub IsAnyWorker : Held → Type 0
IsAnyWorker (held.Worker worker) = Unit {0}
IsAnyWorker other = ⊥

-- a store
abbrev pub IsStore : Held → Type 0
IsStore (held.Store shared) = Unit {0}
IsStore other = ⊥

-- copies of pairs
abbrev pub AreHits : Held → Type 0
AreHits (held.Hits hits) = Unit {0}
AreHits other = ⊥

-- the place holds a value for which P is true
abbrev pub Holds : (Held → Type 0) → Option Held → Type 0
Holds P None = ⊥
Holds P (Some held) = P held

-- the place holds logs and parts to recover from, or is empty
abbrev pub HoldsSomeInputs : Option Held → Type 0
HoldsSomeInputs None = Unit {0}
HoldsSomeInputs (Some (held.Inputs added)) = Unit {0}
HoldsSomeInputs (Some other) = ⊥

-- the first place holds a job that waits for the task in the second
abbrev pub HoldsAwaited : Option Held → Option Held → Type 0
HoldsAwaited job worker = HoldsJob (λ j. HoldsWorker (Awaits j) worker) job
