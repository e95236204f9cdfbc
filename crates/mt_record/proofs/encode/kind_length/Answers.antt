use Rattle.std.proofs.Common.{List, ℕ, length, ap, arith}
use Rattle.mt_record.proofs.Encoding.{few_numbers}
use Rattle.mt_record.proofs.encode.kind_length.Goals as goal

pub returns-in-Erase-clause-few : goal.returns-in-Erase-clause-few
returns-in-Erase-clause-few c = omega (arith, few_numbers c.in-Erase.numbers c.as_slice.ensures.lawful.0, ap (λ (ns : List ℕ). length ns) c.as_slice.ensures.value)
