use Rattle.std.proofs.Common.{arith, List, [], ℕ, length, get_or, map, ap}
use Rattle.std.proofs.lemmas.List.{take_all, length-map}
use Rattle.std.specs.List.{flat_map}
use Rattle.mt_record.specs.declared.encode.given.Given.{Given}
use Rattle.mt_record.specs.Spelling.{column_bytes}
use Rattle.mt_record.specs.Given.{column_of}
use Rattle.mt_record.proofs.Encoding.{one_more_length, part_length, few_bytes}
use Rattle.mt_record.proofs.GivenLemmas.{given_at, below_all}
use Rattle.mt_record.proofs.encode.given.columns_length.Goals as goal

pub overflow_add-length-in-loop-column : goal.overflow_add-length-in-loop-column
overflow_add-length-in-loop-column c =
    let given = c.args.columns.now in
    let i = c.loop-column.column-index in
    let d : Given = record { number = 0; bytes = record { ref_ptr = (0, 0); now = [] } } in
    let part = part_length (map column_of given) i (column_of (get_or given i d)) (below_all given i c.loop-column-test.true) (given_at given i d c.loop-column-test.true) in
    omega (arith, part, few_bytes (map column_of given) c.requires)

pub loop-column-preserved : goal.loop-column-preserved
loop-column-preserved c =
    let given = c.args.columns.now in
    let i = c.loop-column.column-index in
    let d : Given = record { number = 0; bytes = record { ref_ptr = (0, 0); now = [] } } in
    let more = one_more_length (map column_of given) i (column_of (get_or given i d)) (below_all given i c.loop-column-test.true) (given_at given i d c.loop-column-test.true) in
    omega (arith, more)

pub returns-clause-few : goal.returns-clause-few
returns-clause-few c =
    let cs = map column_of c.args.columns.now in
    let all = ap (λ (xs : List (ℕ × List ℕ)). length (flat_map column_bytes xs)) (take_all c.loop-column.column-index cs (omega (arith, c.loop-column-test.false, length-map c.args.columns.now column_of))) in
    omega (arith, c.loop-column.invariant, all, few_bytes cs c.requires)
