use Rattle.std.proofs.Common.{rules}
use Rattle.mt_c.proofs.given.write_record.Goals as goal

pub returns-then-length-out-clause-written : goal.returns-then-length-out-clause-written
returns-then-length-out-clause-written c =
    let whole = c.record_length-length.ensures c.args.time in
    search (rules, whole)

pub fill_record-requires-clause-exact : goal.fill_record-requires-clause-exact
fill_record-requires-clause-exact c =
    let whole = c.record_length-length.ensures c.args.time in
    search (rules, whole)
