use Rattle.std.proofs.Common.{◌++◌}
use Rattle.std.proofs.lemmas.Result.{on_ok_weaker, IfErr-weaker}
use Rattle.mt_record.specs.PartFeeding.{part_file}
use Rattle.mt_record.proofs.PartFeeds.{fed_shows_none, fed_shows}
use Rattle.mt_record.proofs.feed.part_feed.PartFeed.feed.Goals as goal

pub returns-clause-fed : goal.returns-clause-fed
returns-clause-fed g c bytes fed = c.feed.ensures.fed tt bytes (rw (← c.self.view_is) at fed)

pub returns-clause-ok : goal.returns-clause-ok
returns-clause-ok g c bytes fed =
    let after = c.feed.ensures.fed tt bytes (rw (← c.self.view_is) at fed) in
    let new = c.feed.new.self in
    on_ok_weaker c.feed.result (λ none. fed_shows_none (part_file g.E.Entries.listed new.items) new.held.items (bytes ++ c.args.piece.now) (after.0 none)) c.feed.ensures.sound

pub returns-clause-fault : goal.returns-clause-fault
returns-clause-fault g c bytes fed =
    let after = c.feed.ensures.fed tt bytes (rw (← c.self.view_is) at fed) in
    let file = part_file g.E.Entries.listed c.feed.new.self.items in
    IfErr-weaker c.feed.result _ _ (λ fault is. fed_shows file fault (bytes ++ c.args.piece.now) (after.1 fault is)) c.feed.ensures.kept
