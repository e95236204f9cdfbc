use Rattle.std.proofs.Common.{[], length, get_or, map, arith}
use Rattle.std.proofs.lemmas.List.{length-map}
use Rattle.mt_record.specs.declared.encode.given.Given.{Given}
use Rattle.mt_record.specs.Given.{column_of}
use Rattle.mt_record.proofs.Encoding.{few_columns, column_room}
use Rattle.mt_record.proofs.GivenLemmas.{given_at, below_all, fits_at, adds_given}
use Rattle.mt_record.proofs.encode.given.put_columns.Goals as goal

pub overflow_cast-columns : goal.overflow_cast-columns
overflow_cast-columns c = omega (arith, length-map c.args.columns.now column_of, few_columns (map column_of c.args.columns.now) c.requires.lawful)

pub put_column-requires-clause-fits : goal.put_column-requires-clause-fits
put_column-requires-clause-fits c =
    let d : Given = record { number = 0; bytes = record { ref_ptr = (0, 0); now = [] } } in
    fits_at c.args.columns.now c.loop-column.column-index d c.requires.lawful c.loop-column-test.true

pub put_column-requires-clause-room : goal.put_column-requires-clause-room
put_column-requires-clause-room c =
    let given = c.args.columns.now in
    let i = c.loop-column.column-index in
    let d : Given = record { number = 0; bytes = record { ref_ptr = (0, 0); now = [] } } in
    column_room (map column_of given) i (length given) (column_of (get_or given i d)) c.args.out.now c.loop-column.out (below_all given i c.loop-column-test.true)
    (given_at given i d c.loop-column-test.true) c.loop-column.invariant c.requires.room

pub loop-column-preserved : goal.loop-column-preserved
loop-column-preserved c =
    let d : Given = record { number = 0; bytes = record { ref_ptr = (0, 0); now = [] } } in
    adds_given (length c.args.columns.now) c.args.columns.now c.loop-column.column-index d c.args.out.now c.loop-column.out _ c.loop-column-test.true c.loop-column.invariant c.put_column.ensures
