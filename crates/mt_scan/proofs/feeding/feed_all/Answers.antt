use Rattle.std.proofs.Common.{arith, rules}
use Rattle.mt_scan.proofs.Steps.{none_fed, ready_again, last_fed}
use Rattle.mt_scan.proofs.feeding.feed_all.Goals as goal

pub pieces-init : goal.pieces-init
pieces-init g c = record {
  failed = search rules;
  steady = λ is. is;
  fed = none_fed (g.F.Fed.was_fed c.args.feed.now) (g.S.Source.seen c.args.source.now) c.args.feed.now c.requires;
}

pub pieces-smaller : goal.pieces-smaller
pieces-smaller g c =
    let s = c.pieces.invariant.fed in
    let step = c.in_ok-feed_piece.ensures.fed c.args.feed.now s.bytes s.fed s.few in
    omega (arith, step.falls, step.some c.if-branch.true)

pub pieces-preserved : goal.pieces-preserved
pieces-preserved g c =
    let s = c.pieces.invariant.fed in
    let step = c.in_ok-feed_piece.ensures.fed c.args.feed.now s.bytes s.fed s.few in
    record {
      failed = search rules;
      steady = λ is. (c.in_ok-feed_piece.ensures.steady (c.pieces.invariant.steady is)).1;
      fed = ready_again _ _ _ _ _ _ _ _ s step (g.F.Fed.was_fed c.args.feed.now) step.fed;
    }

pub returns-clause-fed : goal.returns-clause-fed
returns-clause-fed g c =
    let s = c.pieces.invariant.fed in
    last_fed _ _ _ _ _ _ _ _ s (c.in_ok-feed_piece.ensures.fed c.args.feed.now s.bytes s.fed s.few) c.if-branch.false
