use Rattle.std.proofs.Common.{◌++◌, arith}
use Rattle.mt_record.proofs.Encoding.{adds_both}
use Rattle.mt_record.proofs.TextLemmas.{text_added}
use Rattle.mt_record.proofs.kept.block.Block.push_joined.Goals as goal

pub returns-clause-ok : goal.returns-clause-ok
returns-clause-ok c =
    let bytes = rw c.in_ok-reserve.ensures.items at (adds_both c.put_bytes.ensures c.put_bytes-2.ensures).items in
    rw (← c.self.view_is) (text_added c.self.inside.bytes.items (c.args.front.now ++ c.args.rest.now) c.self.inside.ends _ _ _ c.self.invariant bytes (omega (arith, c.len.ensures, c.put_bytes.ensures.len, c.put_bytes-2.ensures.len, c.put_bytes-2.new.out.ok.0)) c.in_ok-push.ensures.ok).0

pub invariant_of-self-2 : goal.invariant_of-self-2
invariant_of-self-2 c =
    let bytes = rw c.in_ok-reserve.ensures.items at (adds_both c.put_bytes.ensures c.put_bytes-2.ensures).items in
    (text_added c.self.inside.bytes.items (c.args.front.now ++ c.args.rest.now) c.self.inside.ends _ _ _ c.self.invariant bytes (omega (arith, c.len.ensures, c.put_bytes.ensures.len, c.put_bytes-2.ensures.len, c.put_bytes-2.new.out.ok.0)) c.in_ok-push.ensures.ok).1
