use Rattle.std.proofs.Common.{List, ℕ, length, ap, arith}
use Rattle.mt_record.proofs.Blocks.{texts_length}
use Rattle.mt_record.proofs.kept.byte_strings.ByteStrings.len.Goals as goal

pub returns : goal.returns
returns c =
    let count = texts_length c.self.inside.full.items c.self.inside.last c.self.invariant.filled in
    let view = ap (λ (texts : List (List ℕ)). length texts) c.self.view_is in
    omega (arith, c.len.ensures, c.len-2.ensures, c.self.inside.full.ok.0, count, view)
