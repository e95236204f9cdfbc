use Rattle.mt_record.specs.PartFeeding.{part_file}
use Rattle.mt_record.proofs.PartFiles.{shown_part_fault}
use Rattle.mt_record.proofs.PartFeeds.{fed_shows, no_footer_fed, cut_fed, part_fed}
use Rattle.mt_record.proofs.Feeds.{nil_if_empty, some_if_not}
use Rattle.mt_record.proofs.feed.part_feed.PartFeed.finish.Goals as goal

pub returns-in-Some-clause-fault : goal.returns-in-Some-clause-fault
returns-in-Some-clause-fault g c bytes fed other =
    let fault = c.in-Some.fault in
    shown_part_fault fault bytes (fed_shows _ fault bytes ((rw (← c.self.view_is) at fed).1 fault c.in-Some.is) other)

pub returns-in_default-end-clause-fault : goal.returns-in_default-end-clause-fault
returns-in_default-end-clause-fault g c bytes fed other =
    let feed = c.self.inside.feed in
    let all = (rw (← c.self.view_is) at fed).0 c.in_default.is in
    rw c.broken.ensures (no_footer_fed (part_file g.E.Entries.listed feed.items) feed.held.items bytes c.in-Some-head.head c.in-Some-head.is c.in_default-end.is all)

pub returns-then-not-is_empty-clause-fault : goal.returns-then-not-is_empty-clause-fault
returns-then-not-is_empty-clause-fault g c bytes fed other =
    let feed = c.self.inside.feed in
    let all = (rw (← c.self.view_is) at fed).0 c.in_default.is in
    let some = some_if_not feed.held.items _ c.is_empty.result feed.held.ok.0 c.is_empty.ensures c.if-not-is_empty.true in
    rw c.broken-then-not-is_empty.ensures (cut_fed (part_file g.E.Entries.listed feed.items) feed.held.items bytes c.in-Some-head.head c.in-Some-head.is some all)

pub returns-clause-part : goal.returns-clause-part
returns-clause-part g c bytes fed =
    let feed = c.self.inside.feed in
    let all = (rw (← c.self.view_is) at fed).0 c.in_default.is in
    let none = nil_if_empty feed.held.items _ c.is_empty.result feed.held.ok.0 c.is_empty.ensures c.if-not-is_empty.false in
    part_fed (part_file g.E.Entries.listed feed.items) feed.held.items bytes c.in-Some-head.head c.in-Some-end.end c.in-Some-head.is c.in-Some-end.is none all
