-- What the last seat of a queue knows once the seats of all consumers are joined.
use Rattle.std.proofs.Common.{◌≡◌, ◌∙◌, ℕ, ◌+◌, ◌<◌, Bool, List, [], ◌∷◌, ◌++◌, length, ap, subst, arith, cond}
use Rattle.std.specs.List.{All, count_by}
use Rattle.std.proofs.lemmas.List.{length_push}
use Rattle.std.proofs.lemmas.List.Sums.{sum_by_push}
use Rattle.atomic_table.specs.Seated.{TableId}
use Rattle.mt_board.specs.declared.known.Known.{Known}
use Rattle.mt_board.specs.Board.{times, once_below}
use Rattle.mt_board.specs.Queue.{AreBack, ConsumerView, QueueView, TookEach, times_taken}
use Rattle.mt_board.specs.Steps.QueueRule.{both_known, consumer_view}
use Rattle.mt_board.proofs.Closes.{all_last, all_left}
use Rattle.mt_board.proofs.Sums.{times_append}

module _ {J : Type 0} (q : QueueView J) where
  abbrev IsOwn : ConsumerView J → Type 0
  IsOwn c = c.queue ≡ q

  abbrev has_ended : ConsumerView J → ℕ
  has_ended c = cond c.done 1 0

  abbrev ended_in : List (ConsumerView J) → ℕ
  ended_in consumers = count_by (λ (c : ConsumerView J). c.done) consumers

  -- the seat represents all consumers but those of `rest`
  pub record GathersJobs (rest all : List (ConsumerView J)) (known : Known J) : Type 0 where
    pub some : 0 < known.numbers.parts
    pub jobs : known.jobs ≡ q.jobs
    pub consumers : known.numbers.counts.passes ≡ q.consumers
    pub total : known.numbers.counts.total ≡ length q.jobs
    pub parts : known.numbers.parts + length rest ≡ length all
    pub own : All IsOwn rest
    pub done : known.numbers.done + ended_in rest ≡ ended_in all
    pub taken : (x : ℕ) → times x known.numbers.draws + times_taken x rest ≡ times_taken x all

  -- the last consumer is one of the queue
  pub last_own : (all rest : List (ConsumerView J)) (c : ConsumerView J) → All IsOwn all → all ≡ rest ++ c ∷ [] → c.queue ≡ q
  last_own all rest c own e = all_last IsOwn rest c (subst (All IsOwn) e own)

  abbrev took_of : ℕ → ConsumerView J → ℕ
  took_of x c = times x c.taken

  module _ (rest all : List (ConsumerView J)) (c : ConsumerView J) (t : TableId) (number : ℕ) (done : Bool) (w : Known J) (is : consumer_view t number done w ≡ c) (one : w.numbers.parts ≡ 1) (done_is : w.numbers.done ≡ cond done 1 0) where
    same_taken : (x : ℕ) → times x w.numbers.draws ≡ times x c.taken
    same_taken x = ap (took_of x) is

    same_done : w.numbers.done ≡ has_ended c
    same_done = done_is ∙ ap has_ended is

    pub gathers_first : w.numbers.counts.total ≡ length w.jobs → All IsOwn all → all ≡ rest ++ c ∷ [] → GathersJobs rest all w
    gathers_first total own e =
        let queue : (consumer_view t number done w).queue ≡ q = ap (λ (v : ConsumerView J). v.queue) is ∙ last_own all rest c own e in
        let jobs : w.jobs ≡ q.jobs = ap (λ (v : QueueView J). v.jobs) queue in record {
          some = omega (arith, one);
          jobs = jobs;
          consumers = ap (λ (v : QueueView J). v.consumers) queue;
          total = total ∙ ap length jobs;
          parts = omega (arith, one, ap length e, length_push rest c);
          own = all_left IsOwn rest (c ∷ []) (subst (All IsOwn) e own);
          done = omega (arith, same_done, ap ended_in e, sum_by_push has_ended rest c);
          taken = λ x. omega (arith, same_taken x, ap (times_taken x) e, sum_by_push (took_of x) rest c);
        }

    pub gathers_more : (v : Known J) (before : List (ConsumerView J)) → GathersJobs before all v → before ≡ rest ++ c ∷ [] → GathersJobs rest all (both_known v w)
    gathers_more v before g e = record {
      some = omega (arith, g.some);
      jobs = g.jobs;
      consumers = g.consumers;
      total = g.total;
      parts = omega (arith, one, g.parts, ap length e, length_push rest c);
      own = all_left IsOwn rest (c ∷ []) (subst (All IsOwn) e g.own);
      done = omega (arith, same_done, g.done, ap ended_in e, sum_by_push has_ended rest c);
      taken = λ x. omega (arith, same_taken x, times_append x v.numbers.draws w.numbers.draws, g.taken x, ap (times_taken x) e, sum_by_push (took_of x) rest c);
    }

  -- what the seat of all consumers took, they took together
  pub took_each : (all : List (ConsumerView J)) (known : Known J) → GathersJobs [] all known → AreBack q all
      → (known.numbers.parts ≡ known.numbers.counts.passes → 0 < known.numbers.done → (x : ℕ) → times x known.numbers.draws ≡ once_below x known.numbers.counts.total) → TookEach q all
  took_each all known g back tells x =
      let each = tells (omega (arith, g.parts, g.consumers, back.all)) (omega (arith, g.done, back.ended)) x in
      omega (arith, g.taken x, each, ap (once_below x) g.total)
