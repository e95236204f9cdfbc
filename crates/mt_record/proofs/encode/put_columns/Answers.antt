use Rattle.std.proofs.Common.{length, arith}
use Rattle.mt_record.proofs.Encoding.{few_columns, column_room}
use Rattle.mt_record.proofs.encode.put_columns.Goals as goal

pub overflow_cast-columns : goal.overflow_cast-columns
overflow_cast-columns c = omega (arith, few_columns c.args.columns.now c.requires.lawful)

pub put_column-requires-clause-room : goal.put_column-requires-clause-room
put_column-requires-clause-room c =
    column_room c.args.columns.now c.loop-column.column-index (length c.args.columns.now) c.column-item.result c.args.out.now c.loop-column.out c.loop-column-test.true
    c.column-item.is c.loop-column.invariant c.requires.room
