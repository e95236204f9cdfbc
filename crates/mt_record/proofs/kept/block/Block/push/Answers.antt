use Rattle.std.proofs.Common.{arith}
use Rattle.mt_record.proofs.TextLemmas.{text_added}
use Rattle.mt_record.proofs.kept.block.Block.push.Goals as goal

pub returns-clause-ok : goal.returns-clause-ok
returns-clause-ok c =
    let bytes = rw c.in_ok-reserve.ensures.items at c.put_bytes.ensures.items in
    rw (← c.self.view_is) (text_added c.self.inside.bytes.items c.args.text.now c.self.inside.ends _ _ _ c.self.invariant bytes (omega (arith, c.len.ensures, c.put_bytes.ensures.len, c.put_bytes.new.out.ok.0)) c.in_ok-push.ensures.ok).0

pub invariant_of-self-2 : goal.invariant_of-self-2
invariant_of-self-2 c =
    let bytes = rw c.in_ok-reserve.ensures.items at c.put_bytes.ensures.items in
    (text_added c.self.inside.bytes.items c.args.text.now c.self.inside.ends _ _ _ c.self.invariant bytes (omega (arith, c.len.ensures, c.put_bytes.ensures.len, c.put_bytes.new.out.ok.0)) c.in_ok-push.ensures.ok).1
