-- The answers of all turns at a queue, in the order of their numbers.
use Rattle.std.proofs.Common.{◌≡◌, ◌∙◌, ◌+◌, ◌-◌, ◌<◌, ◌≤◌, ℕ, zero, suc, List, [], ◌∷◌, ◌++◌, length, map, cond, Bool, true, false, IsPermutation, refl, sym, ap, arith}
use Rattle.std.specs.Prelude.{nat_eq, slice_index_or}
use Rattle.std.specs.List.{All, count_by, enumerate_from, flat_map}
use Rattle.std.specs.List.Sorted.{IsNonDecreasingBy}
use Rattle.std.proofs.lemmas.Bool.Decides.{nat_tests}
use Rattle.std.proofs.lemmas.List.{length-map, length_push, map-append}
use Rattle.std.proofs.lemmas.List.Concat.{flat_map-cons}
use Rattle.std.proofs.lemmas.List.Elements.{All-head, All-map, All-tail, All-weaker}
use Rattle.std.proofs.lemmas.List.Sorted.{IsPermutation-map, sum_by-IsPermutation}
use Rattle.std.proofs.lemmas.List.Sums.{sum_by-append, sum_by-cons}
use Rattle.mt_board.specs.Board.{once_below, times}
use Rattle.mt_board.specs.Queue.{AreBack, ConsumerView, fresh_consumer, fresh_consumers, QueueView, TookEach, times_taken}
use Rattle.mt_recover.specs.Steps.Scanning.{AreNumbered, IsTurnOf}

-- ---- numbers

times_cons : (x y : ℕ) (ys : List ℕ) → times x (y ∷ ys) ≡ cond {A = ℕ} (nat_eq y x) 1 0 + times x ys
times_cons x y ys = sum_by-cons (λ (z : ℕ). cond (nat_eq z x) 1 0) y ys

abbrev numbers : {X : Type 0} → List (ℕ × X) → List ℕ
numbers answers = map (λ one. one.0) answers

-- the answers of all turns have a number as often as the consumers took its job
pub times_of_all : {Y J X : Type 0} (items : Y → List (ℕ × X)) (consumer : Y → ConsumerView J) (turns : List Y) → All (λ turn. numbers (items turn) ≡ (consumer turn).taken) turns
    → (x : ℕ) → times x (numbers (flat_map items turns)) ≡ times_taken x (map consumer turns)
times_of_all items consumer [] all x = refl
times_of_all {Y} {J} {X} items consumer (t ∷ ts) all x = omega (
  arith,
  ap (λ (l : List (ℕ × X)). times x (numbers l)) (flat_map-cons items t ts),
  ap (times x) (map-append (λ (one : ℕ × X). one.0) (items t) (flat_map items ts)),
  sum_by-append (λ (y : ℕ). cond (nat_eq y x) 1 0) (numbers (items t)) (numbers (flat_map items ts)),
  ap (times x) (All-head (λ turn. numbers (items turn) ≡ (consumer turn).taken) t ts all),
  sum_by-cons (λ (c : ConsumerView J). times x c.taken) (consumer t) (map consumer ts),
  times_of_all items consumer ts (All-tail (λ turn. numbers (items turn) ≡ (consumer turn).taken) t ts all) x,
)

-- the items of parts of all turns
pub flat_of_map : {Y A B : Type 0} (f : A → List B) (g : Y → A) (ys : List Y) → flat_map f (map g ys) ≡ flat_map (λ y. f (g y)) ys
flat_of_map f g [] = refl
flat_of_map f g (y ∷ ys) = flat_map-cons f (g y) (map g ys) ∙ ap (λ l. f (g y) ++ l) (flat_of_map f g ys) ∙ sym (flat_map-cons (λ z. f (g z)) y ys)

-- all consumers, of which one has ended, together took each job once, so the answers have each number once
pub numbered_all : {Y J X : Type 0} (queue : QueueView J) (items : Y → List (ℕ × X)) (consumer : Y → ConsumerView J) (turns : List Y) → All (λ turn. IsTurnOf queue (items turn) (consumer turn)) turns
    → TookEach queue (map consumer turns) → AreNumbered (length queue.jobs) (flat_map items turns)
numbered_all queue items consumer turns all each x =
    times_of_all items consumer turns (All-weaker (λ turn. IsTurnOf queue (items turn) (consumer turn)) (λ turn. numbers (items turn) ≡ (consumer turn).taken) (λ turn is. is.taken) turns all) x ∙ each x

-- one of them has ended
one_ended : {Y J X : Type 0} (queue : QueueView J) (items : Y → List (ℕ × X)) (consumer : Y → ConsumerView J) (turns : List Y) → All (λ turn. IsTurnOf queue (items turn) (consumer turn)) turns
    → 0 < length turns → 0 < count_by (λ (c : ConsumerView J). c.done) (map consumer turns)
one_ended queue items consumer [] all some = absurd (omega (arith, some))
one_ended {Y} {J} queue items consumer (t ∷ ts) all some = omega (
  arith,
  sum_by-cons (λ (c : ConsumerView J). cond {A = ℕ} c.done 1 0) (consumer t) (map consumer ts),
  ap (λ (b : Bool). cond {A = ℕ} b 1 0) (All-head (λ turn. IsTurnOf queue (items turn) (consumer turn)) t ts all).ended.1,
)

-- and they are back
pub all_back : {Y J X : Type 0} (queue : QueueView J) (items : Y → List (ℕ × X)) (consumer : Y → ConsumerView J) (turns : List Y) → All (λ turn. IsTurnOf queue (items turn) (consumer turn)) turns
    → length turns ≡ queue.consumers → 0 < queue.consumers → AreBack queue (map consumer turns)
all_back {Y} {J} queue items consumer turns all many some = record {
  each = All-map (λ (c : ConsumerView J). c.queue ≡ queue) consumer turns (All-weaker (λ turn. IsTurnOf queue (items turn) (consumer turn)) (λ turn. (consumer turn).queue ≡ queue) (λ turn is. is.ended.0) turns all);
  all = length-map turns consumer ∙ many;
  ended = one_ended queue items consumer turns all (omega (arith, many, some));
}

-- a new queue has as many consumers as were asked for
pub fresh_count : {J : Type 0} (queue : QueueView J) (n : ℕ) → length (fresh_consumers queue n) ≡ n
fresh_count queue zero = refl
fresh_count queue (suc n) = omega (arith, length_push (fresh_consumers queue n) (fresh_consumer queue n), fresh_count queue n)

-- one more job, after those of this turn
pub took_on : {J X : Type 0} (queue : QueueView J) (now next : ConsumerView J) (answers after : List (ℕ × X)) (n : ℕ) (x : X) → now ≡ record { queue = queue; number = now.number; taken = numbers answers; done = false } → next ≡ record now { taken = now.taken ++ n ∷ [] } → after ≡ answers ++ (n, x) ∷ []
    → next ≡ record { queue = queue; number = next.number; taken = numbers after; done = false }
took_on {J} {X} queue now next answers after n x was is more =
    is
    ∙ ap (λ (c : ConsumerView J). record c { taken = c.taken ++ n ∷ [] }) was
    ∙ (λ i. record { queue = queue; number = (sym is i).number; taken = (sym (map-append (λ (one : ℕ × X). one.0) answers ((n, x) ∷ [])) ∙ ap (λ (l : List (ℕ × X)). numbers l) (sym more)) i; done = false })

-- the turn is over once no job is left
pub turn_ends : {J X : Type 0} (queue : QueueView J) (now next : ConsumerView J) (answers : List (ℕ × X)) → now ≡ record { queue = queue; number = now.number; taken = numbers answers; done = false } → next ≡ record now { done = true }
    → IsTurnOf queue answers next
turn_ends {J} queue now next answers was is =
    let end : next ≡ record { queue = queue; number = now.number; taken = numbers answers; done = true } = is ∙ ap (λ (c : ConsumerView J). record c { done = true }) was in
    record { taken = sym (ap (λ (c : ConsumerView J). c.taken) end); ended = (ap (λ (c : ConsumerView J). c.queue) end, ap (λ (c : ConsumerView J). c.done) end) }

-- ---- sorted numbers

-- 1 if x is one of the n numbers from a on, else 0
abbrev among : ℕ → ℕ → ℕ → ℕ
among a n x = once_below x (a + n) - once_below x a

among_none : (a x : ℕ) → among a 0 x ≡ 0
among_none a x = grind (arith, nat_tests)

among_low : (a n x : ℕ) → 0 < among a n x → a ≤ x
among_low a n x some = grind (arith, nat_tests)

among_first : (a n : ℕ) → among a (suc n) a ≡ 1
among_first a n = grind (arith, nat_tests)

among_next : (a n x : ℕ) → among a (suc n) x ≡ cond {A = ℕ} (nat_eq a x) 1 0 + among (a + 1) n x
among_next a n x = grind (arith, nat_tests)

among_all : (n x : ℕ) → once_below x n ≡ among 0 n x
among_all n x = grind (arith, nat_tests)

is_same : (x : ℕ) → cond {A = ℕ} (nat_eq x x) 1 0 ≡ 1
is_same x = grind (arith, nat_tests)

module _ {X : Type 0} where
  -- no number of a list is below what none of its numbers is below
  least_of_all : (y : ℕ) (answers : List (ℕ × X)) (x : ℕ) → ((k : ℕ) (d : ℕ × X) → k < length answers → y ≤ (slice_index_or answers k d).0) → 0 < times x (numbers answers) → y ≤ x
  least_of_all y [] x low some = absurd (omega (arith, some))
  least_of_all y (z ∷ zs) x low some = by (nat_eq z.0 x) refl (λ more. least_of_all y zs x (λ k d lt. low (suc k) d (omega (arith, lt))) more)
    where
      by : (b : Bool) → nat_eq z.0 x ≡ b → (0 < times x (numbers zs) → y ≤ x) → y ≤ x
      by true is later = let same : z.0 ≡ x = grind (arith, nat_tests) in omega (arith, low 0 z (omega arith), same)
      by false is later =
          let other : cond {A = ℕ} (nat_eq z.0 x) 1 0 ≡ 0 = ap (λ (b : Bool). cond {A = ℕ} b 1 0) is in
          later (omega (arith, some, times_cons x z.0 (numbers zs), other))

  -- if the numbers are these n from a on, each once, then sorted answers have them in order
  pub sorted_are : (a n : ℕ) (answers : List (ℕ × X)) → IsNonDecreasingBy (λ one. one.0) answers → ((x : ℕ) → times x (numbers answers) ≡ among a n x)
      → (answers ≡ enumerate_from a (map (λ one. one.1) answers)) × (length answers ≡ n)
  sorted_are a zero [] sorted each = (refl, refl)
  sorted_are a (suc n) [] sorted each = absurd (omega (arith, each a, among_first a n))
  sorted_are a zero (y ∷ ys) sorted each = absurd (omega (arith, each y.0, times_cons y.0 y.0 (numbers ys), is_same y.0, among_none a y.0))
  sorted_are a (suc n) (y ∷ ys) sorted each =
      let above : a ≤ y.0 = among_low a (suc n) y.0 (omega (arith, each y.0, times_cons y.0 y.0 (numbers ys), is_same y.0)) in
      let below : y.0 ≤ a = least_of_all y.0 (y ∷ ys) a (λ k d lt. sorted 0 k d (omega arith) lt) (omega (arith, each a, among_first a n)) in
      let same : y.0 ≡ a = omega (arith, above, below) in
      let rest : (x : ℕ) → times x (numbers ys) ≡ among (a + 1) n x =
      λ x. omega (arith, each x, times_cons x y.0 (numbers ys), among_next a n x, ap (λ (m : ℕ). cond {A = ℕ} (nat_eq m x) 1 0) same) in
      let more = sorted_are (a + 1) n ys (λ i j d le lt. sorted (suc i) (suc j) d (omega (arith, le)) (omega (arith, lt))) rest in
      (λ i. (same i, y.1) ∷ more.0 i, omega (arith, more.1))

-- sorted answers that have the numbers below a count, each once, have them in order
pub in_order_are : {X : Type 0} (count : ℕ) (answers sorted : List (ℕ × X)) → IsPermutation answers sorted → IsNonDecreasingBy (λ one. one.0) sorted → AreNumbered count answers
    → (sorted ≡ enumerate_from 0 (map (λ one. one.1) sorted)) × (length sorted ≡ count)
in_order_are count answers sorted same rising each =
    sorted_are 0 count sorted rising (λ x. sum_by-IsPermutation (λ (y : ℕ). cond (nat_eq y x) 1 0) (numbers answers) (numbers sorted) (IsPermutation-map (λ one. one.0) answers sorted same) ∙ each x ∙ among_all count x)
