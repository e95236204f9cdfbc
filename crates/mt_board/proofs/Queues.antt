-- Each step of a queue keeps its rule.
use Rattle.std.proofs.Common.{◌≡◌, ℕ, zero, suc, ◌+◌, ◌%◌, ◌^◌, ◌<◌, ◌≤◌, ◌≢◌, Bool, true, false, cond, List, [], ◌∷◌, ◌++◌, length, map, slice_get, get_or, set, ltb, Option, Some, refl, sym, ap, ◌∙◌, subst, ⊎_elim, arith, length-set, get_or-set_same}
use Rattle.std.specs.List.{All}
use Rattle.std.proofs.lemmas.Bool.Decides.{nat_tests}
use Rattle.std.proofs.lemmas.List.{map-set, map_push}
use Rattle.std.proofs.lemmas.List.Elements.{All-nil, All-push}
use mathlib.Core.Option.{none, some, some-injective, some-ne-none}
use mathlib.Core.Option as core_option
use lib.ListN.{get_elem?}
use Rattle.atomic_table.specs.Table.{State, Me, Act, Valid, keeps, takes, gives, chain, step, rest, put_back, carried_after, homes_after, stepped, Allows, Splits, Joins, opening}
use Rattle.atomic_table.proofs.Lists.{at_set, at_snoc, at_map, set_again, set_else}
use Rattle.mt_board.specs.declared.known.Known.{Known}
use Rattle.mt_board.specs.declared.view.Counts.{Counts}
use Rattle.mt_board.specs.declared.view.SeatView.{SeatView}
use Rattle.mt_board.specs.Board.{times, once_below, nothing_noted}
use Rattle.mt_board.specs.Queue.{ConsumerView, QueueView, fresh_consumer, fresh_consumers}
use Rattle.mt_board.specs.Steps.Rule.{IsBoardState, IsIdle, both_views, drew, one_part, parts_in, spent_view, without_one}
use Rattle.atomic_table.specs.Seated.{TableId}
use Rattle.mt_board.specs.Steps.QueueRule.{IsConsumer, IsQueue, Rests, Takes, Tells, both_known, consumer_view, counts_of, first_known, nothing_known, numbers_of, one_consumer, without_one_consumer}
use Rattle.mt_board.proofs.Keeps.{below, draw_state, drawn_below, drawn_of, first_each, join_state, knows, next_small, none_below, not_below, rises, split_state}
use Rattle.mt_board.proofs.Sums.{itself, once_full, sum_at, times_push}
use Rattle.mt_board.proofs.Closes.{Idles, sum_alone}

module _ {J : Type 0} where
  -- ---- opening

  -- each job of a new queue is in its slot
  has_first : (jobs : List J) (i : ℕ) → i < length jobs → (job : J) × (slice_get jobs i ≡ Some job) × (get_elem? (map some (map Some jobs)) i ≡ some (some (Some job)))
  has_first [] i below = absurd (omega (arith, below))
  has_first (job ∷ jobs) zero below = (job, refl, refl)
  has_first (job ∷ jobs) (suc i) below = has_first jobs i (omega (arith, below))

  known_first : (jobs : List J) (consumers id : ℕ) (v : Known J) → get_elem? (first_known jobs consumers ∷ []) id ≡ some v → v.jobs ≡ jobs
  known_first jobs consumers zero v at = ap (λ (k : Known J). k.jobs) (sym (some-injective (first_known jobs consumers) v at))
  known_first jobs consumers (suc id) v at = absurd (some-ne-none v (sym at))

  -- the rule holds of a new queue
  pub opens : (jobs : List J) (consumers : ℕ) (slots : List (Option J)) → slots ≡ map Some jobs → length jobs + consumers + 1 < 2 ^ 64 → IsQueue jobs consumers (opening (0 ∷ []) slots (first_known jobs consumers))
  opens jobs consumers slots are small =
      let k = counts_of jobs consumers in
      subst (λ (l : List (Option J)). IsQueue jobs consumers (opening (0 ∷ []) l (first_known jobs consumers))) (sym are) (record {
        words = refl;
        numbers = record {
          small = small;
          parts = omega arith;
          draws = λ x. none_below x (length jobs);
          done = λ no. absurd (omega arith);
          bound = omega arith;
          noted = omega arith;
          each = first_each k;
        };
        there = λ i below past. has_first jobs i below;
        known = λ id v at some_part. known_first jobs consumers id v at;
      })

  -- ---- one seat

  module _ (jobs : List J) where
    -- each seat of a consumer knows the jobs
    abbrev Know : List (Known J) → Type 0
    Know views = (id : ℕ) (v : Known J) → get_elem? views id ≡ some v → 0 < v.numbers.parts → v.jobs ≡ jobs

    know_set : (views : List (Known J)) (id : ℕ) (w : Known J) → Know views → (0 < w.numbers.parts → w.jobs ≡ jobs) → Know (set views id w)
    know_set views id w know mine j v at = ⊎_elim
        (λ (h : (j ≡ id) × (w ≡ v)). subst (λ (u : Known J). 0 < u.numbers.parts → u.jobs ≡ jobs) h.1 mine)
        (λ (h : (j ≢ id) × (get_elem? views j ≡ some v)). know j v h.1)
        (at_set views id j w v at)

    know_push : (views : List (Known J)) (w : Known J) → Know views → (0 < w.numbers.parts → w.jobs ≡ jobs) → Know (views ++ w ∷ [])
    know_push views w know mine j v at = ⊎_elim
        (λ (h : get_elem? views j ≡ some v). know j v h)
        (λ (h : w ≡ v). subst (λ (u : Known J). 0 < u.numbers.parts → u.jobs ≡ jobs) h mine)
        (at_snoc views w v j at)

    -- the rule holds after a seat is split off
    pub splits : (consumers id : ℕ) (v : Known J) → 0 < v.numbers.parts → IsIdle v.numbers → Splits (IsQueue jobs consumers) id v (without_one_consumer v) (one_consumer v)
    splits consumers id v some_part blank s kept at =
        let k = counts_of jobs consumers in
        let n : ℕ = get_or s.words 0 0 in
        let l = map numbers_of s.views in
        let same : map numbers_of (set s.views id (without_one_consumer v) ++ one_consumer v ∷ []) ≡ set l id (without_one v.numbers) ++ one_part v.numbers ∷ [] =
        map_push numbers_of (set s.views id (without_one_consumer v)) (one_consumer v) ∙ ap (λ (us : List SeatView). us ++ one_part v.numbers ∷ []) (map-set numbers_of s.views id (without_one_consumer v)) in
        let mine = kept.known id v at some_part in
        record {
          words = kept.words;
          numbers = subst (IsBoardState k n nothing_noted) (sym same) (split_state k n nothing_noted l kept.numbers id v.numbers (at_map numbers_of s.views id v at) some_part blank);
          there = kept.there;
          known = know_push (set s.views id (without_one_consumer v)) (one_consumer v) (know_set s.views id (without_one_consumer v) kept.known (λ some_left. mine)) (λ some_left. mine);
        }

    -- the rule holds after two seats are joined
    pub joins : (consumers id : ℕ) (v : Known J) (other : ℕ) (w : Known J) → 0 < v.numbers.parts → Joins (IsQueue jobs consumers) id v other w (both_known v w) nothing_known
    joins consumers id v other w some_part s kept at apart there =
        let k = counts_of jobs consumers in
        let n : ℕ = get_or s.words 0 0 in
        let l = map numbers_of s.views in
        let both = both_views v.numbers w.numbers in
        let joined : map numbers_of (set s.views id (both_known v w)) ≡ set l id both = map-set numbers_of s.views id (both_known v w) in
        let same : map numbers_of (set (set s.views id (both_known v w)) other nothing_known) ≡ set (set l id both) other spent_view =
        map-set numbers_of (set s.views id (both_known v w)) other nothing_known ∙ ap (λ (us : List SeatView). set us other spent_view) joined in
        let there' : get_elem? (set l id both) other ≡ some w.numbers = ap (λ (us : List SeatView). get_elem? us other) (sym joined) ∙ at_map numbers_of (set s.views id (both_known v w)) other w there in
        record {
          words = kept.words;
          numbers = subst (IsBoardState k n nothing_noted) (sym same) (join_state k n nothing_noted l kept.numbers id v.numbers (at_map numbers_of s.views id v at) some_part other w.numbers apart there');
          there = kept.there;
          known = know_set (set s.views id (both_known v w)) other nothing_known (know_set s.views id (both_known v w) kept.known (λ some_left. kept.known id v at some_part)) (λ none. absurd (omega (arith, none)));
        }

    -- ---- taking

    -- what a seat puts back is its own slot
    put_back_else : (homes : List (core_option.Option (Option J))) (c : List (ℕ × Option J)) (n j : ℕ) → All (λ held. held.0 < n) c → n ≤ j → get_elem? (put_back homes c) j ≡ get_elem? homes j
    put_back_else homes [] n j own le = refl
    put_back_else homes (x ∷ xs) n j own le =
        let lt : x.0 < n = own 0 x (omega arith) in
        set_else homes x.0 j (some x.1) (λ same. omega (arith, same, lt, le))

    -- one that holds at most one slot holds none then
    rest_none : (c : List (ℕ × Option J)) → length c ≤ 1 → rest c ≡ []
    rest_none [] few = refl
    rest_none (x ∷ []) few = refl
    rest_none (x ∷ y ∷ ys) few = absurd (omega (arith, few))

    module _ (consumers slots id : ℕ) (me : Me (Option J) (Known J)) (one : me.0.numbers.parts ≡ 1) (new : me.0.numbers.done ≡ 0) (few : length me.1 ≤ 1) (own : All (λ held. 0 < times held.0 me.0.numbers.draws) me.1) where
      module _ (s : State (Option J) (Known J)) (kept : IsQueue jobs consumers s) (at : get_elem? s.views id ≡ some me.0) where
        abbrev next : ℕ
        next = get_or s.words 0 0

        at_numbers : get_elem? (map numbers_of s.views) id ≡ some me.0.numbers
        at_numbers = at_map numbers_of s.views id me.0 at

        own_below : All (λ held. held.0 < next) me.1
        own_below i d lt = drawn_below (counts_of jobs consumers) next nothing_noted (map numbers_of s.views) kept.numbers id me.0.numbers at_numbers one (get_or me.1 i d).0 (own i d lt)

        knows_counts : me.0.numbers.counts ≡ counts_of jobs consumers
        knows_counts = knows (counts_of jobs consumers) next nothing_noted (map numbers_of s.views) kept.numbers id me.0.numbers at_numbers one

        total_is : me.0.numbers.counts.total ≡ length jobs
        total_is = ap (λ (k : Counts). k.total) knows_counts

        abbrev after : Known J
        after = record me.0 { numbers = drew next me.0.numbers }

        -- the rule holds after the next number is drawn, if the jobs from the one after it on are in their slots
        drawn : (a : Act (Option J)) → ((i : ℕ) → i < length jobs → next + 1 ≤ i → get_elem? (homes_after s.homes me.1 a) i ≡ get_elem? s.homes i) → IsQueue jobs consumers (stepped s 0 ((next + 1) % 2 ^ 64) id me.1 after a)
        drawn a others =
            let k = counts_of jobs consumers in
            let small : next + 1 ≡ (next + 1) % 2 ^ 64 = omega (arith, next_small k next nothing_noted (map numbers_of s.views) kept.numbers) in
            let word : get_or (set s.words 0 ((next + 1) % 2 ^ 64)) 0 0 ≡ next + 1 = get_or-set_same s.words 0 ((next + 1) % 2 ^ 64) 0 (omega (arith, kept.words)) ∙ sym small in
            record {
              words = length-set s.words 0 ((next + 1) % 2 ^ 64) ∙ kept.words;
              numbers = rw (word, map-set numbers_of s.views id after) (draw_state k next nothing_noted (map numbers_of s.views) kept.numbers id me.0.numbers at_numbers one new);
              there = λ i below past.
                  let later : next + 1 ≤ i = omega (arith, past, word) in
                  let has = kept.there i below (omega (arith, later)) in
                  (has.0, has.1, others i below later ∙ has.2);
              known = know_set s.views id after kept.known (λ some_part. kept.known id me.0 at (omega (arith, one)));
            }

        abbrev Answer : Type 0
        Answer = (w : Known J) × (a : Act (Option J)) × Valid s.homes me.1 a × IsQueue jobs consumers (stepped s 0 ((next + 1) % 2 ^ 64) id me.1 w a) × Takes (step slots 0 1 0 none) me next (w, carried_after me.1 a)

        answer : (b : Bool) → ltb next (length jobs) ≡ b → Answer
        answer true is =
            let lt : next < length jobs = below next (length jobs) is in
            let has = kept.there next lt (omega arith) in
            let a : Act (Option J) = chain gives (takes next (Some has.0)) in (
              after,
              a,
              (tt, put_back_else s.homes me.1 next next own_below (omega arith) ∙ has.2),
              drawn a (λ i below later. set_else (put_back s.homes me.1) next i none (λ same. omega (arith, same, later)) ∙ put_back_else s.homes me.1 next i own_below (omega (arith, later))),
              record {
                view = refl;
                rises = λ _. rises (counts_of jobs consumers) next nothing_noted (map numbers_of s.views) kept.numbers id me.0.numbers at_numbers one;
                takes = λ _. (has.0, ap (λ (js : List J). slice_get js next) (kept.known id me.0 at (omega (arith, one))) ∙ has.1, ap (λ (l : List (ℕ × Option J)). (next, Some has.0) ∷ l) (rest_none me.1 few));
                none = λ past. absurd (omega (arith, past, lt, total_is));
              },
            )
        answer false is =
            let le : length jobs ≤ next = not_below next (length jobs) is in (
              after,
              gives,
              tt,
              drawn gives (λ i below later. absurd (omega (arith, below, later, le))),
              record {
                view = refl;
                rises = λ lt. absurd (omega (arith, lt, le, total_is));
                takes = λ lt. absurd (omega (arith, lt, le, total_is));
                none = λ _. rest_none me.1 few;
              },
            )

      -- a step that takes the next job keeps the rule
      pub taking : Allows (IsQueue jobs consumers) slots id me 0 (λ n. (n + 1) % 2 ^ 64) (Takes (step slots 0 1 0 none) me)
      taking s kept _ at _ = answer s kept at (ltb (get_or s.words 0 0) (length jobs)) refl

    same_word : (words : List ℕ) → length words ≡ 1 → set words 0 (get_or words 0 0) ≡ words
    same_word [] one = absurd (omega (arith, one))
    same_word (w ∷ ws) one = refl

    -- a look that puts back a slot keeps the rule
    pub resting : (consumers slots id : ℕ) (me : Me (Option J) (Known J)) → me.0.numbers.parts ≡ 1 → length me.1 ≤ 1 → All (λ held. 0 < times held.0 me.0.numbers.draws) me.1
        → Allows (IsQueue jobs consumers) slots id me 0 (λ n. n) (Rests (step slots 0 0 0 none) me)
    resting consumers slots id me one few own s kept _ at _ =
        let k = counts_of jobs consumers in
        let n : ℕ = get_or s.words 0 0 in
        let words : set s.words 0 n ≡ s.words = same_word s.words kept.words in
        let views : set s.views id me.0 ≡ s.views = set_again s.views id me.0 at in
        let below : All (λ held. held.0 < n) me.1 = λ i d lt. drawn_below k n nothing_noted (map numbers_of s.views) kept.numbers id me.0.numbers (at_map numbers_of s.views id me.0 at) one (get_or me.1 i d).0 (own i d lt) in (
          me.0,
          gives,
          tt,
          rw (words, views) (record {
            words = kept.words;
            numbers = kept.numbers;
            there = λ i short past. let has = kept.there i short past in (has.0, has.1, put_back_else s.homes me.1 n i below past ∙ has.2);
            known = kept.known;
          }),
          (λ i. (me.0, rest_none me.1 few i)),
        )

    -- a look keeps the rule, and tells the seat of all consumers what they took
    pub telling : (consumers slots id : ℕ) (me : Me (Option J) (Known J)) → 0 < me.0.numbers.parts → Allows (IsQueue jobs consumers) slots id me 0 (λ n. n) (Tells (step slots 0 0 0 none) me)
    telling consumers slots id me some_part s kept _ at _ =
        let k = counts_of jobs consumers in
        let n : ℕ = get_or s.words 0 0 in
        let l = map numbers_of s.views in
        let v = me.0.numbers in
        let r = kept.numbers in
        let here = at_map numbers_of s.views id me.0 at in
        let counts : v.counts ≡ k = (r.each id v here).counts some_part in
        let idles : Idles l = λ i u e. (r.each i u e).idles in
        let words : set s.words 0 n ≡ s.words = same_word s.words kept.words in
        let views : set s.views id me.0 ≡ s.views = set_again s.views id me.0 at in (
          me.0,
          keeps,
          tt,
          rw (words, views) kept,
          record {
            same = refl;
            each = λ all some_done x.
                let total : v.counts.total ≡ k.total = ap (λ (c : Counts). c.total) counts in
                let every : parts_in l ≤ v.parts = omega (arith, r.parts, all, ap (λ (c : Counts). c.passes) counts) in
                let none_left : k.total ≤ n = r.done (omega (arith, some_done, sum_at (λ (u : SeatView). u.done) l id v here)) in
                sym (sum_alone (drawn_of x) (λ u z. ap (times x) z.draws) l id v here idles every) ∙ r.draws x ∙ once_full x n k.total none_left ∙ ap (once_below x) (sym total);
          },
        )

-- ---- consumers

-- what a draw of a number below the total changes, and a draw past it
drew_below : (found : ℕ) (v : SeatView) → found < v.counts.total → drew found v ≡ record v { draws = v.draws ++ found ∷ [] }
drew_below found v lt =
    let is : ltb found v.counts.total ≡ true = grind (arith, nat_tests) in
    ap (λ (b : Bool). cond b (record v { draws = v.draws ++ found ∷ [] }) (record v { done = v.done + 1 })) is

drew_past : (found : ℕ) (v : SeatView) → v.counts.total ≤ found → drew found v ≡ record v { done = v.done + 1 }
drew_past found v le =
    let is : ltb found v.counts.total ≡ false = grind (arith, nat_tests) in
    ap (λ (b : Bool). cond b (record v { draws = v.draws ++ found ∷ [] }) (record v { done = v.done + 1 })) is

module _ {J : Type 0} (me me' : Me (Option J) (Known J)) (found : ℕ) (is : IsConsumer false me) (view : me'.0 ≡ record me.0 { numbers = drew found me.0.numbers }) where
  module _ (lt : found < me.0.numbers.counts.total) where
    took_known : me'.0 ≡ record me.0 { numbers = record me.0.numbers { draws = me.0.numbers.draws ++ found ∷ [] } }
    took_known = view ∙ (λ i. record me.0 { numbers = drew_below found me.0.numbers lt i })

    -- a consumer that took a job is one
    pub took : (x : Option J) → me'.1 ≡ (found, x) ∷ [] → IsConsumer false me'
    took x holds = subst (IsConsumer false) (λ i. (sym took_known i, sym holds i)) (record {
      one = is.one;
      done_is = is.done_is;
      total = is.total;
      few = omega (arith, is.done_is);
      own = λ k d short. own k d short;
    })
      where
        own : (k : ℕ) (d : ℕ × Option J) → k < 1 → 0 < times (get_or ((found, x) ∷ []) k d).0 (me.0.numbers.draws ++ found ∷ [])
        own zero d short = omega (arith, times_push found me.0.numbers.draws found, itself found)
        own (suc k) d short = absurd (omega (arith, short))

    -- it took this number besides
    pub took_view : (t : TableId) (number : ℕ) (done : Bool) → consumer_view t number done me'.0 ≡ record (consumer_view t number done me.0) { taken = me.0.numbers.draws ++ found ∷ [] }
    took_view t number done = ap (consumer_view t number done) took_known

  module _ (le : me.0.numbers.counts.total ≤ found) where
    ended_known : me'.0 ≡ record me.0 { numbers = record me.0.numbers { done = me.0.numbers.done + 1 } }
    ended_known = view ∙ (λ i. record me.0 { numbers = drew_past found me.0.numbers le i })

    -- a consumer that found no job left has ended
    pub ended : me'.1 ≡ [] → IsConsumer true me'
    ended holds = subst (IsConsumer true) (λ i. (sym ended_known i, sym holds i)) (record {
      one = is.one;
      done_is = omega (arith, is.done_is);
      total = is.total;
      few = omega (arith, is.done_is);
      own = λ k d short. absurd (omega (arith, short));
    })

    -- it took nothing besides
    pub ended_view : (t : TableId) (number : ℕ) (done : Bool) → consumer_view t number true me'.0 ≡ record (consumer_view t number done me.0) { done = true }
    ended_view t number done = ap (consumer_view t number true) ended_known

-- what a seat holds first
pub held : {A : Type 0} (l m : List (ℕ × A)) (n : ℕ) (x : A) → l ≡ (n, x) ∷ m → l ≡ (n, x) ∷ rest l
held l m n x e = e ∙ ap (λ k. (n, x) ∷ rest k) (sym e)

abbrev first_of : {A : Type 0} → A → List (ℕ × A) → A
first_of d [] = d
first_of d (x ∷ xs) = x.1

-- it has one value
pub same_held : {A : Type 0} (l m k : List (ℕ × A)) (n : ℕ) (x y : A) → l ≡ (n, x) ∷ m → l ≡ (n, y) ∷ k → x ≡ y
same_held l m k n x y e f = ap (first_of x) (sym e ∙ f)

-- a number that is one of the queue's jobs is one of the consumer's
pub below_total : {J : Type 0} (mine queue : QueueView J) (total count found : ℕ) → mine ≡ queue → total ≡ length mine.jobs → count ≡ length queue.jobs → found < count → found < total
below_total mine queue total count found same is whole lt = omega (arith, ap (λ q. length q.jobs) same, is, whole, lt)

pub past_total : {J : Type 0} (mine queue : QueueView J) (total count found : ℕ) → mine ≡ queue → total ≡ length mine.jobs → count ≡ length queue.jobs → count ≤ found → total ≤ found
past_total mine queue total count found same is whole le = omega (arith, ap (λ q. length q.jobs) same, is, whole, le)

-- one more consumer of a new queue
pub consumers_more : {J : Type 0} (queue : QueueView J) (n : ℕ) → fresh_consumers queue (n + 1) ≡ fresh_consumers queue n ++ fresh_consumer queue n ∷ []
consumers_more queue n = let e : n + 1 ≡ suc n = omega arith in ap (fresh_consumers queue) e

-- the consumers of a new queue are fresh
pub all_fresh : {J : Type 0} (queue : QueueView J) (n : ℕ) (consumers : List (ConsumerView J)) → consumers ≡ fresh_consumers queue n → All (λ consumer. consumer ≡ fresh_consumer queue consumer.number) consumers
all_fresh {J} queue n consumers are = subst (All IsFresh) (sym are) (by n)
  where
    IsFresh : ConsumerView J → Type 0
    IsFresh consumer = consumer ≡ fresh_consumer queue consumer.number

    by : (n : ℕ) → All IsFresh (fresh_consumers queue n)
    by zero = All-nil IsFresh
    by (suc n) = All-push IsFresh (fresh_consumers queue n) (fresh_consumer queue n) (by n) refl
