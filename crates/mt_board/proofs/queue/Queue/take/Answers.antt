use Rattle.std.proofs.Common.{arith, ap, sym, subst, ◌∙◌, ◌<◌, ◌∷◌, [], ◌++◌, slice_get, cond, Some}
use Rattle.std.specs.List.{All}
use Rattle.mt_board.specs.Queue.{ConsumerView, QueueView}
use Rattle.mt_board.specs.Steps.QueueRule.{IsConsumer, consumer_view}
use Rattle.mt_board.proofs.Queues.{below_total, held, same_held, took_view, taking}
use Rattle.mt_board.proofs.queue.Queue.take.Goals as goal

pub fetch_add-next-requires : goal.fetch_add-next-requires
fetch_add-next-requires g c =
    let is = c.consumer.invariant in (
      ap (λ (v : ConsumerView g.row.J.Denot). v.queue.table) c.consumer.view_is ∙ ap (λ (q : QueueView g.row.J.Denot). q.table) (c.requires ∙ sym c.self.view_is),
      omega (arith, c.self.invariant.1),
      taking c.self.inside.table.shared.key.jobs.value.items c.self.inside.table.shared.key.consumers _ _ c.consumer.inside.seat.me is.one (is.done_is ∙ ap (λ b. cond b 1 0) c.if-consumer.false) (omega (arith, is.few)) is.own,
    )

pub exchange-requires : goal.exchange-requires
exchange-requires g c =
    let queue = ap (λ (v : ConsumerView g.row.J.Denot). v.queue) c.consumer.view_is ∙ c.requires ∙ sym c.self.view_is in
    let took = c.fetch_add-next.ensures.2.takes (below_total _ _ _ _ c.fetch_add-next.result (ap (λ (v : ConsumerView g.row.J.Denot). v.queue) c.consumer.view_is ∙ c.requires ∙ sym c.self.view_is) c.consumer.invariant.total c.self.invariant.0 c.if-next-self.false) in
    (c.fetch_add-next.ensures.0 ∙ ap (λ (q : QueueView g.row.J.Denot). q.table) queue, (Some took.0, held _ _ c.fetch_add-next.result (Some took.0) took.2))

pub returns-clause-job : goal.returns-clause-job
returns-clause-job g c =
    let queue = ap (λ (v : ConsumerView g.row.J.Denot). v.queue) c.consumer.view_is ∙ c.requires in
    let took = c.fetch_add-next.ensures.2.takes (below_total _ _ _ _ c.fetch_add-next.result (ap (λ (v : ConsumerView g.row.J.Denot). v.queue) c.consumer.view_is ∙ c.requires ∙ sym c.self.view_is) c.consumer.invariant.total c.self.invariant.0 c.if-next-self.false) in
    ap (λ (q : QueueView g.row.J.Denot). slice_get q.jobs c.fetch_add-next.result) (sym queue)
    ∙ took.1
    ∙ same_held c.fetch_add-next.new.seat.me.1 _ _ c.fetch_add-next.result (Some took.0) c.exchange.result took.2 c.exchange.ensures.2
    ∙ c.in_ok-job.was

pub returns-clause-rises : goal.returns-clause-rises
returns-clause-rises g c = subst (All (λ earlier. earlier < c.fetch_add-next.result)) (ap (λ (v : ConsumerView g.row.J.Denot). v.taken) c.consumer.view_is) (c.fetch_add-next.ensures.2.rises (below_total _ _ _ _ c.fetch_add-next.result (ap (λ (v : ConsumerView g.row.J.Denot). v.queue) c.consumer.view_is ∙ c.requires ∙ sym c.self.view_is) c.consumer.invariant.total c.self.invariant.0 c.if-next-self.false))

pub returns-clause-consumer : goal.returns-clause-consumer
returns-clause-consumer g c =
    let number = c.fetch_add-next.result in
    let is = subst (λ done. IsConsumer done c.consumer.inside.seat.me) c.if-consumer.false c.consumer.invariant in
    (λ i. consumer_view ((c.exchange.ensures.0 ∙ c.fetch_add-next.ensures.0) i) c.consumer.inside.number c.consumer.inside.done (c.exchange.ensures.3 i).0)
    ∙ took_view c.consumer.inside.seat.me c.fetch_add-next.new.seat.me number is c.fetch_add-next.ensures.2.view (below_total _ _ _ _ c.fetch_add-next.result (ap (λ (v : ConsumerView g.row.J.Denot). v.queue) c.consumer.view_is ∙ c.requires ∙ sym c.self.view_is) c.consumer.invariant.total c.self.invariant.0 c.if-next-self.false) c.consumer.inside.seat.table_id c.consumer.inside.number c.consumer.inside.done
    ∙ (λ i. record (c.consumer.view_is i) { taken = (c.consumer.view_is i).taken ++ number ∷ [] })
