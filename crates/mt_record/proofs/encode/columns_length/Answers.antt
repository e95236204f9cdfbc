use Rattle.std.proofs.Common.{arith, List, ℕ, length, ap}
use Rattle.std.proofs.lemmas.List.{take_all}
use Rattle.std.specs.List.{flat_map}
use Rattle.mt_record.specs.Spelling.{column_bytes}
use Rattle.mt_record.proofs.Encoding.{one_more_length, part_length, few_bytes}
use Rattle.mt_record.proofs.encode.columns_length.Goals as goal

pub overflow_add-length : goal.overflow_add-length
overflow_add-length c =
    let part = part_length c.args.columns.now c.loop-column.column-index c.column-item.result c.loop-column-test.true c.column-item.is in
    let few = few_bytes c.args.columns.now c.requires in
    omega (arith, part, few)

pub loop-column-preserved : goal.loop-column-preserved
loop-column-preserved c =
    let more = one_more_length c.args.columns.now c.loop-column.column-index c.column-item.result c.loop-column-test.true c.column-item.is in
    omega (arith, more)

pub returns-clause-few : goal.returns-clause-few
returns-clause-few c =
    let all = ap (λ (cs : List (ℕ × List ℕ)). length (flat_map column_bytes cs)) (take_all c.loop-column.column-index c.args.columns.now c.loop-column-test.false) in
    omega (arith, c.loop-column.invariant, all, few_bytes c.args.columns.now c.requires)
