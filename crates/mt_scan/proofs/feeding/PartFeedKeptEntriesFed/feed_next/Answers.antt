use Rattle.std.proofs.Common.{sym, ◌∙◌}
use Rattle.mt_record.proofs.PartFeeds.{part_fed_on}
use Rattle.mt_scan.proofs.Steps.{has_fault}
use Rattle.mt_scan.proofs.feeding.PartFeedKeptEntriesFed.feed_next.Goals as goal

pub returns-clause-fed : goal.returns-clause-fed
returns-clause-fed c begun bytes ready few = c.feed.ensures.fed bytes ready

pub returns-clause-stops : goal.returns-clause-stops
returns-clause-stops c failed begun bytes more =
    let feed = c.feed.new.self in
    let there = has_fault c.feed.result feed.fault (sym c.is_ok.ensures.value ∙ failed) c.feed.ensures.kept in
    part_fed_on feed there.0 bytes more there.1
