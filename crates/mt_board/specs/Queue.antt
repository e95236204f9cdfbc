-- The values and facts that the contracts of a queue and its consumers speak of.
use Rattle.std.specs.Prelude.{◌≡◌, ℕ, zero, suc, ◌<◌, Bool, false, List, [], ◌∷◌, ◌++◌, length, sum_by, count_by, All, IsTrue}
use Rattle.atomic_table.specs.Seated.{TableId}
use Rattle.mt_board.specs.Board.{once_below, times}

-- a queue: which one it is, all its jobs, also those that were taken, and how many consumers it has
pub record QueueView (J : Type 0) : Type 0 where
  pub table : TableId
  pub jobs : List J
  pub consumers : ℕ

-- a consumer of this queue: which one it is, and what it did
pub record ConsumerView (J : Type 0) : Type 0 where
  pub queue : QueueView J
  pub number : ℕ
  -- the numbers of the jobs that it took, in order
  pub taken : List ℕ
  -- whether it found that no job is left
  pub done : Bool

-- a consumer that has taken nothing
abbrev pub fresh_consumer : {J : Type 0} → QueueView J → ℕ → ConsumerView J
fresh_consumer queue number = record { queue = queue; number = number; taken = []; done = false }

-- the first n consumers of a new queue, in order of their numbers
abbrev pub fresh_consumers : {J : Type 0} → QueueView J → ℕ → List (ConsumerView J)
fresh_consumers queue zero = []
fresh_consumers queue (suc n) = fresh_consumers queue n ++ fresh_consumer queue n ∷ []

-- how often the consumers took job x
abbrev pub times_taken : {J : Type 0} → ℕ → List (ConsumerView J) → ℕ
times_taken {J} x consumers = sum_by (λ (c : ConsumerView J). times x c.taken) consumers

-- the consumer is one of this queue, and found that no job is left
abbrev pub HasEnded : {J : Type 0} → QueueView J → ConsumerView J → Type 0
HasEnded queue consumer = (consumer.queue ≡ queue) × IsTrue consumer.done

-- these are all consumers of the queue, and at least one of them found that no job is left
pub record AreBack {J : Type 0} (queue : QueueView J) (consumers : List (ConsumerView J)) : Type 0 where
  pub each : All (λ (c : ConsumerView J). c.queue ≡ queue) consumers
  pub all : length consumers ≡ queue.consumers
  pub ended : 0 < count_by (λ (c : ConsumerView J). c.done) consumers

-- together the consumers took each job once
abbrev pub TookEach : {J : Type 0} → QueueView J → List (ConsumerView J) → Type 0
TookEach queue consumers = (x : ℕ) → times_taken x consumers ≡ once_below x (length queue.jobs)
