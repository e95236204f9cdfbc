use Rattle.std.proofs.Common.{arith}
use Rattle.mt_record.proofs.TextLemmas.{texts_count}
use Rattle.mt_record.proofs.kept.block.Block.len.Goals as goal

pub returns : goal.returns
returns c =
    let count = texts_count 0 c.self.inside.bytes.items c.self.inside.ends in
    rw (← c.self.view_is) (omega (arith, c.len.ensures, count))
