use Rattle.std.proofs.Common.{arith}
use Rattle.mt_record.proofs.Encoding.{changed_length}
use Rattle.mt_record.proofs.encode.body_length.Goals as goal

pub overflow_add-result : goal.overflow_add-result
overflow_add-result c =
    let is = changed_length c.args.record.now c.in-Some.change.now c.in-Some.ensures.lawful c.in-Some.ensures.value in
    omega (arith, is.1, c.change_length.ensures)

pub returns-in-Some-clause-lawful : goal.returns-in-Some-clause-lawful
returns-in-Some-clause-lawful c =
    let is = changed_length c.args.record.now c.in-Some.change.now c.in-Some.ensures.lawful c.in-Some.ensures.value in
    (omega arith, omega (arith, is.1, c.change_length.ensures))
