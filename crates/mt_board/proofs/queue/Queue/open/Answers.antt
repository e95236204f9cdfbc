use Rattle.std.proofs.Common.{rules, tests, arith, ap, ◌∙◌, sym, subst, ℕ, ◌≡◌, ◌-◌, ◌+◌, Option, Some, [], ◌∷◌, ◌++◌, false}
use Rattle.std.proofs.lemmas.Iterator.{items_from_collect, YieldsList-from_map}
use Rattle.std.proofs.lemmas.Iterator.Consumers.{YieldsList-at}
use Rattle.std.proofs.lemmas.Iterator.Adapters.{YieldsList-from_vec}
use Rattle.std.proofs.lemmas.Result.{IfOk-at_ok}
use Rattle.std.specs.List.{All}
use Rattle.atomic_table.specs.Table.{Me}
use Rattle.mt_board.specs.declared.known.Known.{Known}
use Rattle.mt_board.specs.Queue.{QueueView, fresh_consumer}
use Rattle.mt_board.specs.Steps.Rule.{idle_view}
use Rattle.mt_board.specs.Steps.QueueRule.{consumer_view, counts_of, one_consumer, without_one_consumer}
use Rattle.mt_board.proofs.Queues.{all_fresh, consumers_more, opens, splits}
use Rattle.mt_board.proofs.queue.Queue.open.Goals as goal

pub new-requires : goal.new-requires
new-requires g c =
    let jobs = c.args.jobs.items in
    let made = items_from_collect c.collect.result c.collect.ensures.ran (YieldsList-from_map _ (λ job. Some job) (YieldsList-at c.map.ensures.source (YieldsList-from_vec jobs (cc) (cc))) c.map.ensures.closure (λ x r q k. search (rules, tests))) in
    opens c.of.result.value.items c.args.consumers c.in_ok-slots.slots.items
    (rw c.of.ensures (IfOk-at_ok _ c.in_ok-slots.was made))
    (rw c.of.ensures (omega (arith, c.args.jobs.ok.0, c.args.jobs.ok.1, c.args.jobs.small, c.ranges.consumers.fits)))

pub split_seat-seat-requires : goal.split_seat-seat-requires
split_seat-seat-requires g c =
    let view = c.loop-number.invariant.view in (
      c.loop-number.invariant.same,
      omega (arith, c.in-Ok.ensures.ok.0),
      splits c.in-Ok.table.shared.key.jobs.value.items c.in-Ok.table.shared.key.consumers _ c.loop-number.seat.me.0 (omega (arith, ap (λ (m : Me (Option g.row.J.Denot) (Known g.row.J.Denot)). m.0.numbers.parts) view, c.loop-number-test.true))
          (record {
            draws = ap (λ (m : Me (Option g.row.J.Denot) (Known g.row.J.Denot)). m.0.numbers.draws) view;
            done = ap (λ (m : Me (Option g.row.J.Denot) (Known g.row.J.Denot)). m.0.numbers.done) view;
            noted = ap (λ (m : Me (Option g.row.J.Denot) (Known g.row.J.Denot)). m.0.numbers.noted) view;
            looks = ap (λ (m : Me (Option g.row.J.Denot) (Known g.row.J.Denot)). m.0.numbers.looks) view;
          }),
    )

pub loop-number-preserved : goal.loop-number-preserved
loop-number-preserved g c =
    let queue : QueueView g.row.J.Denot = record { table = c.in-Ok.table.shared.table_id; jobs = c.in-Ok.table.shared.key.jobs.value.items; consumers = c.args.consumers } in
    let first = λ (m : Me (Option g.row.J.Denot) (Known g.row.J.Denot)). m.0 in
    let I = c.loop-number.invariant in
    let fewer : c.args.consumers - c.loop-number.number - 1 ≡ c.args.consumers - (c.loop-number.number + 1) = omega arith in
    record {
      same = c.split_seat-seat.ensures.0 ∙ I.same;
      view = c.split_seat-seat.ensures.2 ∙ (λ i. (without_one_consumer (first (I.view i)), (I.view i).1))
          ∙ (λ i. (record { jobs = queue.jobs; numbers = idle_view (counts_of queue.jobs c.args.consumers) (fewer i) }, []));
      dealt = c.push_reserved.ensures.items
          ∙ (λ i. I.dealt i ++ consumer_view ((c.split_seat-seat.ensures.3 ∙ I.same) i) c.loop-number.number false (first ((c.split_seat-seat.ensures.4 ∙ (λ j. (one_consumer (first (I.view j)), []))) i)) ∷ [])
          ∙ sym (consumers_more queue c.loop-number.number);
      len = search rules;
      room = search rules;
    }

pub returns-clause-fresh : goal.returns-clause-fresh
returns-clause-fresh g c =
    let table = c.in-Ok.table.shared in
    let queue : ℕ → QueueView g.row.J.Denot = λ n. record { table = table.table_id; jobs = table.key.jobs.value.items; consumers = n } in
    let many : table.key.consumers ≡ c.args.consumers = search rules in
    subst (λ n. All (λ consumer. consumer ≡ fresh_consumer (queue n) consumer.number) c.loop-number.dealt.items) (sym many)
    (all_fresh (queue c.args.consumers) c.loop-number.number c.loop-number.dealt.items c.loop-number.invariant.dealt)
