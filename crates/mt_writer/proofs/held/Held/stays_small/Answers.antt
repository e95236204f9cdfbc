use Rattle.std.proofs.Common.{length, ap, arith}
use Rattle.mt_writer.specs.Framing.{Buffer}
use Rattle.mt_writer.proofs.Framed.{fewer}
use Rattle.mt_writer.proofs.held.Held.stays_small.Goals as goal

pub returns : goal.returns
returns c = (
  fewer c.self.inside.mark c.room_in.result c.args.before c.self.inside.bytes.items c.truncate.new.self.items c.args.self.now c.self.view_is c.room_in.ensures.value c.truncate.ensures.items,
  (omega (arith, c.if-before-eq0.false), omega (arith, c.if-len.false, c.len.ensures, ap (λ (b : Buffer). length b.records) c.self.view_is)),
)
