use Rattle.std.proofs.Common.{arith}
use Rattle.mt_record.proofs.Encoding.{few_numbers}
use Rattle.mt_record.proofs.encode.put_numbers.Goals as goal

pub overflow_cast-numbers : goal.overflow_cast-numbers
overflow_cast-numbers c = omega (arith, few_numbers c.args.numbers.now c.requires.lawful)
