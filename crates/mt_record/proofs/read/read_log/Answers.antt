use Rattle.std.proofs.Common.{[]}
use Rattle.std.proofs.lemmas.Result.{err_from_is_err_and}
use Rattle.mt_record.proofs.FileFeeds.{shown_fault}
use Rattle.mt_record.proofs.read.read_log.Goals as goal

pub returns-in_err-feed-clause-fault : goal.returns-in_err-feed-clause-fault
returns-in_err-feed-clause-fault c =
    let p = err_from_is_err_and c.from_residual.result c.from_residual.ensures.1 in
    let fault = c.in_err-feed.field-0.0 in
    rw (p.1, p.2) (λ other. shown_fault fault c.args.bytes.now (c.in_err-feed.ensures.fault [] [] c.new-feed.ensures.fed other))

pub returns-clause-log : goal.returns-clause-log
returns-clause-log c = c.finish.ensures.log c.args.bytes.now [] (c.feed.ensures.fed [] [] c.new-feed.ensures.fed)

pub returns-clause-fault : goal.returns-clause-fault
returns-clause-fault c = c.finish.ensures.fault c.args.bytes.now [] (c.feed.ensures.fed [] [] c.new-feed.ensures.fed)
