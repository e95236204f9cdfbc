use Rattle.std.proofs.Common.{length, ap, arith}
use Rattle.mt_words.proofs.ColumnBytes.{packed_few}
use Rattle.mt_words.proofs.packed.PackedColumns.as_bytes.Goals as goal

pub returns-clause-few : goal.returns-clause-few
returns-clause-few c = omega (arith, ap length c.as_slice.ensures, packed_few c.self.inside.bytes.items c.self.invariant)
