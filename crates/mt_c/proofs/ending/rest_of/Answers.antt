use Rattle.std.proofs.Common.{◌≤◌, length, ap, rules, arith}
use Rattle.mt_record.specs.declared.front.LogFront.{LogFront}
use Rattle.mt_c.proofs.Ends.{end_of, rest_is}
use Rattle.mt_c.proofs.ending.rest_of.Goals as goal

pub slice_bounds-result-count : goal.slice_bounds-result-count
slice_bounds-result-count c =
    let is = c.requires.front in
    let same = ap (λ (front : LogFront). front.bytes) is.2 in
    omega (arith, same, (end_of c.args.log.now is.0 (omega arith) c.requires.plain is.1).1)

pub slice_bounds-result-start : goal.slice_bounds-result-start
slice_bounds-result-start c =
    let is = c.requires.front in
    let same = ap (λ (front : LogFront). front.bytes) is.2 in
    let within : c.args.front.bytes ≤ length c.args.log.now = omega (arith, same, (end_of c.args.log.now is.0 (omega arith) c.requires.plain is.1).1) in
    search (rules, within)

pub returns : goal.returns
returns c = λ reading is same.
    rest_is c.args.log.now reading c.args.front.bytes (omega arith) c.requires.plain is (ap (λ (front : LogFront). front.bytes) same)
