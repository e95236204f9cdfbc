use Rattle.std.proofs.Common.{arith, rules, ap, sym, subst, ◌∙◌, ◌≡◌, List, [], Option}
use Rattle.atomic_table.specs.Table.{Me}
use Rattle.mt_board.specs.declared.known.Known.{Known}
use Rattle.mt_board.specs.Queue.{ConsumerView, QueueView}
use Rattle.mt_board.specs.Steps.QueueRule.{both_known}
use Rattle.mt_board.proofs.Queues.{joins, resting, telling}
use Rattle.mt_board.proofs.QueueCloses.{GathersJobs, gathers_first, gathers_more, last_own, took_each}
use Rattle.mt_board.proofs.queue.Queue.close.Goals as goal

pub loop-consumer-init : goal.loop-consumer-init
loop-consumer-init g c =
    let is = c.last.invariant in
    let q = c.args.self.now in
    let own = last_own q _ _ _ c.requires.each c.in-Some.ensures.items in
    record {
      same = ap (λ (v : ConsumerView g.row.J.Denot). v.queue.table) c.last.view_is ∙ ap (λ (q : QueueView g.row.J.Denot). q.table) own;
      gathers = gathers_first q c.pop.new.self.items c.args.consumers.items c.in-Some.last _ _ _ _ c.last.view_is is.one is.done_is is.total c.requires.each c.in-Some.ensures.items;
    }

pub load-requires : goal.load-requires
load-requires g c =
    let is = c.consumer.invariant in
    let q = c.args.self.now in
    let own = last_own q _ _ _ c.loop-consumer.invariant.gathers.own c.in-Some-pop.ensures.items in (
      ap (λ (v : ConsumerView g.row.J.Denot). v.queue.table) c.consumer.view_is ∙ ap (λ (q : QueueView g.row.J.Denot). q.table) (own ∙ sym c.self.view_is),
      omega (arith, c.self.invariant.1),
      resting c.self.inside.table.shared.key.jobs.value.items c.self.inside.table.shared.key.consumers _ _ c.consumer.inside.seat.me is.one (omega (arith, is.few)) is.own,
    )

pub join_seat-requires : goal.join_seat-requires
join_seat-requires g c =
    let I = c.loop-consumer.invariant in
    let q = c.args.self.now in
    let table = ap (λ (q : QueueView g.row.J.Denot). q.table) c.self.view_is in
    let own = last_own q _ _ _ I.gathers.own c.in-Some-pop.ensures.items in (
      I.same ∙ sym table,
      c.load.ensures.0 ∙ ap (λ (v : ConsumerView g.row.J.Denot). v.queue.table) c.consumer.view_is ∙ ap (λ (q : QueueView g.row.J.Denot). q.table) own ∙ sym table,
      ap (λ (m : Me (Option g.row.J.Denot) (Known g.row.J.Denot)). m.1) c.load.ensures.2,
      omega (arith, c.self.invariant.1),
      joins c.self.inside.table.shared.key.jobs.value.items c.self.inside.table.shared.key.consumers _ c.loop-consumer.seat.me.0 _ c.load.new.seat.me.0 I.gathers.some,
    )

pub loop-consumer-preserved : goal.loop-consumer-preserved
loop-consumer-preserved g c =
    let I = c.loop-consumer.invariant in
    let is = c.consumer.invariant in
    let q = c.args.self.now in
    let joined = c.join_seat.ensures.2 ∙ (λ i. (both_known c.loop-consumer.seat.me.0 (c.load.ensures.2 i).0, c.loop-consumer.seat.me.1)) in
    record {
      same = c.join_seat.ensures.0 ∙ I.same;
      gathers = subst (λ (m : Me (Option g.row.J.Denot) (Known g.row.J.Denot)). GathersJobs q c.pop-in-loop-consumer.new.self.items c.args.consumers.items m.0) (sym joined)
          (gathers_more q c.pop-in-loop-consumer.new.self.items c.args.consumers.items c.in-Some-pop.consumer _ _ _ c.consumer.inside.seat.me.0 c.consumer.view_is is.one is.done_is c.loop-consumer.seat.me.0 c.loop-consumer.consumers.items I.gathers c.in-Some-pop.ensures.items);
    }

pub load-requires-2 : goal.load-requires-2
load-requires-2 g c =
    let I = c.loop-consumer.invariant in (
      I.same ∙ sym (ap (λ (q : QueueView g.row.J.Denot). q.table) c.self.view_is),
      omega (arith, c.self.invariant.1),
      telling c.self.inside.table.shared.key.jobs.value.items c.self.inside.table.shared.key.consumers _ _ c.loop-consumer.seat.me I.gathers.some,
    )

pub returns : goal.returns
returns g c =
    let none_left : c.loop-consumer.consumers.items ≡ [] = search rules in
    let gathered = subst (λ (rest : List (ConsumerView g.row.J.Denot)). GathersJobs c.args.self.now rest c.args.consumers.items c.loop-consumer.seat.me.0) none_left c.loop-consumer.invariant.gathers in
    took_each c.args.self.now c.args.consumers.items c.loop-consumer.seat.me.0 gathered c.requires c.load-2.ensures.2.each
