use Rattle.std.proofs.Common.{List, ℕ, length, ap, arith}
use Rattle.mt_record.proofs.Blocks.{texts_length, all_blocks}
use Rattle.mt_record.proofs.kept.byte_strings.ByteStrings.into_blocks.Goals as goal

pub returns-clause-few : goal.returns-clause-few
returns-clause-few c =
    let same = all_blocks c.self.inside.full.items c.push.new.self.items c.self.inside.last c.in_ok-push.ensures.items in
    let count = texts_length c.self.inside.full.items c.self.inside.last c.self.invariant.filled in
    omega (arith, ap (λ (texts : List (List ℕ)). length texts) same, count, c.self.invariant.few, c.self.invariant.within)
