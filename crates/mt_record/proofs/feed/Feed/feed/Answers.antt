use Rattle.mt_record.proofs.Feeds.{fed_next}
use Rattle.mt_record.proofs.feed.Feed.feed.Goals as goal

pub returns-clause-fed : goal.returns-clause-fed
returns-clause-fed g c = λ taken text fed.
    let old = c.args.self.now in
    let new = c.read-outcome.new.self in
    let read = c.read-outcome.ensures in
    rw c.err-self.ensures.value
    (fed_next g.I.Items.holds g.I.Items.is_left g.I.Items.shows taken old.items new.items old.held.items new.held.items text c.args.piece.now c.read-outcome.result (fed.0 c.in_default.is) read.ok read.fault)
