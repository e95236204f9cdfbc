use Rattle.mt_record.proofs.Tellings.{tells, tells_no_header}
use Rattle.mt_record.proofs.feed.file_feed.tell.Goals as goal

pub returns-clause-told : goal.returns-clause-told
returns-clause-told c short =
    let top = c.in_ok-rest.ensures in
    tells c.args.held.now.items c.args.piece.now c.top_up.new.held.items c.in_ok-rest.rest.now c.told_by.result short top.joins top.size (rw c.deref.ensures.value at c.told_by.ensures.told)

pub returns-clause-fault : goal.returns-clause-fault
returns-clause-fault c =
    let top = c.in_ok-rest.ensures in
    tells_no_header c.args.held.now.items c.args.piece.now c.top_up.new.held.items c.in_ok-rest.rest.now c.told_by.result top.joins (rw c.deref.ensures.value at c.told_by.ensures.fault)
