use Rattle.std.proofs.Common.{List, ℕ, append_assoc, sym, subst, arith}
use Rattle.std.specs.Option.{IfSome}
use Rattle.std.specs.Vec.Iter.{into_iter_items}
use Rattle.mt_record.specs.LogFeeding.{IsFedBehind}
use Rattle.mt_scan.specs.Steps.Stretches.{IsAhead}
use Rattle.mt_scan.specs.declared.by_workers.Checked.{Checked}
use Rattle.mt_scan.proofs.Stretched.{one_of, fed_more, fed_to_end, fed_enough}
use Rattle.mt_scan.proofs.by_workers.feed_checked.Goals as goal

pub feed_ahead_below-requires : goal.feed_ahead_below-requires
feed_ahead_below-requires c =
    let I = c.loop-one.invariant in
    let one : Checked = c.in-Some.one in
    subst (λ (l : List ℕ). IfSome one.ahead (λ ahead. IsFedBehind ahead l)) (sym c.deref.ensures.value)
    (one_of IsAhead c.loop-one.yielded (into_iter_items c.next.new.self) c.args.checked.items one (rw c.in-Some.ensures.steps.0 at I.rest) c.requires)

pub loop-one-preserved : goal.loop-one-preserved
loop-one-preserved c =
    let I = c.loop-one.invariant in
    record {
      rest = rw append_assoc (rw c.in-Some.ensures.steps.0 at I.rest);
      fed = λ bytes h.
          let was = I.fed bytes h in
          fed_more (λ (one : Checked). one.bytes.items) c.args.limit c.feed_ahead_below.new.self bytes c.deref.result.now c.loop-one.yielded c.in-Some.one c.deref.ensures.value
          (c.feed_ahead_below.ensures.fed was.0 _ was.1 was.2);
    }

pub returns-then-not-feed_ahead_below-clause-fed : goal.returns-then-not-feed_ahead_below-clause-fed
returns-then-not-feed_ahead_below-clause-fed c bytes h =
    let I = c.loop-one.invariant in
    let was = I.fed bytes h in
    fed_enough (λ (one : Checked). one.bytes.items) c.args.limit c.feed_ahead_below.new.self bytes c.deref.result.now c.loop-one.yielded (into_iter_items c.next.new.self) c.args.checked.items c.in-Some.one c.deref.ensures.value
    (rw c.in-Some.ensures.steps.0 at I.rest) (c.feed_ahead_below.ensures.stops c.if-not-feed_ahead_below.true) (c.feed_ahead_below.ensures.fed was.0 _ was.1 was.2)

pub returns-clause-fed : goal.returns-clause-fed
returns-clause-fed c bytes h =
    let I = c.loop-one.invariant in
    let rest = c.loop-one.one-iterator in
    fed_to_end (λ (one : Checked). one.bytes.items) c.args.limit c.loop-one.feed bytes c.loop-one.yielded (into_iter_items rest) c.args.checked.items I.rest (omega (arith, rest.rest.ok.0, c.in-None.ensures.steps.0)) (I.fed bytes h)
