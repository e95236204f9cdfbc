use Rattle.std.proofs.Common.{refl, arith}
use Rattle.mt_keeper.proofs.Staging.{is_back}
use Rattle.mt_keeper.proofs.resuming.read_back.Goals as goal

pub returns-clause-ok : goal.returns-clause-ok
returns-clause-ok c =
    let is = c.in-Ok.ensures.front in
    is_back c.args.clock c.args.bytes.now c.in-Ok.front is.0 c.in-Some.writer is.1 (omega (arith, c.if-saturating_sub-clock.false, c.saturating_sub.ensures))
    (c.in-Some.ensures.value c.args.bytes.now is.0 is.1 c.mark_at.ensures refl) c.in-Some.ensures.failed
