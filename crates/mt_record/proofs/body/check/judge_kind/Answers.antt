use Rattle.std.proofs.Common.{◌∙◌, sym, arith}
use Rattle.mt_words.specs.Limits.{limits_of}
use Rattle.mt_words.specs.Codes.{byte_of}
use Rattle.mt_record.specs.Steps.Bodies.{IsJudgedKind, AreJudgedColumns}
use Rattle.mt_record.proofs.Changes.{judged_columns, judged_numbers}
use Rattle.mt_record.proofs.Checked.{some_weaker}
use Rattle.mt_record.proofs.body.check.judge_kind.Goals as goal

pub returns-in_ok-count-in-Columns-clause-found : goal.returns-in_ok-count-in-Columns-clause-found
returns-in_ok-count-in-Columns-clause-found c =
    let count = c.in_ok-count-in-Columns.count.now in
    let columns = c.in_ok-count-in-Columns.columns.now in
    some_weaker (AreJudgedColumns (limits_of c.args.format) count columns) (IsJudgedKind (limits_of c.args.format) (byte_of c.args.code) c.args.bytes.now) c.judge_columns.result
    (λ allowed. judged_columns (limits_of c.args.format) c.args.code count c.args.bytes.now columns allowed (sym c.payload.ensures ∙ c.in-Columns.is) (λ i. (c.type_inv.bytes i).fits) c.in_ok-count-in-Columns.ensures.cases.0)
    c.judge_columns.ensures.found

pub returns-else-numbers-from-clause-found : goal.returns-else-numbers-from-clause-found
returns-else-numbers-from-clause-found c =
    judged_numbers (limits_of c.args.format) c.args.code c.in_ok-count-in-Numbers.count.now c.args.bytes.now c.in_ok-count-in-Numbers.numbers.now c.are_allowed.result (sym c.payload.ensures ∙ c.in-Numbers.is) c.requires
    (λ i. (c.type_inv.bytes i).fits) c.in_ok-count-in-Numbers.ensures.cases.0 (omega (arith, c.if-numbers-from.false, c.from.ensures)) c.are_allowed.ensures
