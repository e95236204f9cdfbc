-- The rule that every step at a queue's table keeps, and what a step guarantees its caller.
use Rattle.std.specs.Prelude.{◌≡◌, ℕ, ◌+◌, ◌<◌, ◌≤◌, Bool, List, [], ◌∷◌, map, length, slice_get, slice_index, All, Option, Some, if◌then◌else◌}
use mathlib.Core.Option.{some}
use lib.ListN.{get_elem?}
use Rattle.atomic_table.specs.Seated.{TableId}
use Rattle.atomic_table.specs.Table.{State, Me, Step}
use Rattle.mt_board.specs.declared.known.Known.{Known}
use Rattle.mt_board.specs.declared.view.Counts.{Counts}
use Rattle.mt_board.specs.declared.view.SeatView.{SeatView}
use Rattle.mt_board.specs.Board.{nothing_noted, once_below, times}
use Rattle.mt_board.specs.Queue.{ConsumerView}
use Rattle.mt_board.specs.Steps.Rule.{IsBoardState, both_views, drew, first_view, one_part, spent_view, without_one}

-- the counts of a queue with these jobs and this number of consumers
abbrev pub counts_of : {J : Type 0} → List J → ℕ → Counts
counts_of jobs consumers = record { total = length jobs; passes = consumers }

-- what the first seat of a queue knows
abbrev pub first_known : {J : Type 0} → List J → ℕ → Known J
first_known jobs consumers = record { jobs = jobs; numbers = first_view (counts_of jobs consumers) }

abbrev pub numbers_of : {J : Type 0} → Known J → SeatView
numbers_of known = known.numbers

-- a slot at home has this job
abbrev pub HasJob : {J : Type 0} → State (Option J) (Known J) → List J → ℕ → Type 0
HasJob {J} s jobs i = (job : J) × (slice_get jobs i ≡ Some job) × (get_elem? s.homes i ≡ some (some (Some job)))

-- the rule: the next number and the seats are those of a board; each job from the next one on is in its slot; and each seat that represents a consumer
-- knows the jobs
pub record IsQueue {J : Type 0} (jobs : List J) (consumers : ℕ) (s : State (Option J) (Known J)) : Type 0 where
  pub words : length s.words ≡ 1
  pub numbers : IsBoardState (counts_of jobs consumers) (slice_index s.words 0) nothing_noted (map numbers_of s.views)
  pub there : (i : ℕ) → i < length jobs → slice_index s.words 0 ≤ i → HasJob s jobs i
  pub known : (id : ℕ) (v : Known J) → get_elem? s.views id ≡ some v → 0 < v.numbers.parts → v.jobs ≡ jobs

-- a step that finds the number of a job takes that job, which is the only one that it then holds; one that finds none holds none
pub record Takes {J : Type 0} (step : Step (Option J)) (me : Me (Option J) (Known J)) (found : ℕ) (me' : Me (Option J) (Known J)) : Type 0 where
  pub view : me'.0 ≡ record me.0 { numbers = drew found me.0.numbers }
  pub rises : found < me.0.numbers.counts.total → All (λ drawn. drawn < found) me.0.numbers.draws
  pub takes : found < me.0.numbers.counts.total → (job : J) × (slice_get me.0.jobs found ≡ Some job) × (me'.1 ≡ (found, Some job) ∷ [])
  pub none : me.0.numbers.counts.total ≤ found → me'.1 ≡ []

-- a seat that represents all consumers took each job once, if one of them found that no job is left
pub record Tells {J : Type 0} (step : Step (Option J)) (me : Me (Option J) (Known J)) (found : ℕ) (me' : Me (Option J) (Known J)) : Type 0 where
  pub same : me' ≡ me
  pub each : me.0.numbers.parts ≡ me.0.numbers.counts.passes → 0 < me.0.numbers.done → (x : ℕ) → times x me.0.numbers.draws ≡ once_below x me.0.numbers.counts.total

-- a seat puts back the slot that it holds
abbrev pub Rests : {J : Type 0} → Step (Option J) → Me (Option J) (Known J) → ℕ → Me (Option J) (Known J) → Type 0
Rests step me found me' = me' ≡ (me.0, [])

-- what a seat knows after the seat of one consumer was split off, and what that new seat knows
abbrev pub without_one_consumer : {J : Type 0} → Known J → Known J
without_one_consumer known = record known { numbers = without_one known.numbers }

abbrev pub one_consumer : {J : Type 0} → Known J → Known J
one_consumer known = record known { numbers = one_part known.numbers }

-- what two seats know after they were joined, and what the other one knows then
abbrev pub both_known : {J : Type 0} → Known J → Known J → Known J
both_known v w = record v { numbers = both_views v.numbers w.numbers }

abbrev pub nothing_known : {J : Type 0} → Known J
nothing_known = record { jobs = []; numbers = spent_view }

-- a consumer with this seat, as contracts see it
abbrev pub consumer_view : {J : Type 0} → TableId → ℕ → Bool → Known J → ConsumerView J
consumer_view t number done known = record {
  queue = record { table = t; jobs = known.jobs; consumers = known.numbers.counts.passes };
  number = number;
  taken = known.numbers.draws;
  done = done;
}

-- the slots that a seat holds are those of jobs that it took: at most one, and none once it found that no job is left
pub record IsConsumer {J : Type 0} (done : Bool) (me : Me (Option J) (Known J)) : Type 0 where
  pub one : me.0.numbers.parts ≡ 1
  pub done_is : me.0.numbers.done ≡ (if done then 1 else 0)
  pub total : me.0.numbers.counts.total ≡ length me.0.jobs
  pub few : length me.1 + me.0.numbers.done ≤ 1
  pub own : All (λ held. 0 < times held.0 me.0.numbers.draws) me.1
