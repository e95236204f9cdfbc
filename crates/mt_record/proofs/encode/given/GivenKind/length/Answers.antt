use Rattle.std.proofs.Common.{arith}
use Rattle.mt_record.proofs.Encoding.{few_numbers}
use Rattle.mt_record.proofs.encode.given.GivenKind.length.Goals as goal

pub returns-in-Erase-clause-few : goal.returns-in-Erase-clause-few
returns-in-Erase-clause-few c = omega (arith, few_numbers c.in-Erase.numbers.now (rw c.in-Erase.is at c.requires).1)
