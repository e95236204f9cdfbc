use Rattle.std.proofs.Common.{◌≡◌, ◌∙◌, ◌++◌, None, refl, sym}
use Rattle.mt_scan.specs.declared.dropping_feed.DroppingFeed.{DroppingFeed}
use Rattle.mt_scan.specs.Steps.DroppingFeeds.{taken_of}
use Rattle.mt_scan.proofs.DroppingFeeds.{was_sound, now_sound, read_on, read_fault}
use Rattle.mt_scan.proofs.Steps.{has_fault}
use Rattle.mt_scan.proofs.dropping_feed.DroppingFeed.feed_ahead_below.Goals as goal

pub returns-then-goes_on-clause-fed : goal.returns-then-goes_on-clause-fed
returns-then-goes_on-clause-fed c was bytes le h =
    let old : DroppingFeed = c.args.self.now in
    let new : DroppingFeed = record old { feed = c.feed_ahead.new.self } in
    let ok = sym c.is_ok-goes_on.ensures.value ∙ c.if-goes_on.true in
    let before = was_sound old.feed.fault c.feed_ahead.result c.feed_ahead.ensures.again ok in
    let now = now_sound (c.feed_ahead.new.self.fault ≡ None) c.feed_ahead.result c.feed_ahead.ensures.sound ok in
    c.drop_late.ensures (bytes ++ c.args.piece.now) now (read_on old new was c.args.limit bytes c.args.piece.now h le refl before (c.feed_ahead.ensures.fed bytes (taken_of old.kept ++ h.read.late) h.read.fed))

pub returns-else-goes_on-clause-fed : goal.returns-else-goes_on-clause-fed
returns-else-goes_on-clause-fed c was bytes le h =
    let old : DroppingFeed = c.args.self.now in
    let new : DroppingFeed = record old { feed = c.feed_ahead.new.self } in
    let there = has_fault c.feed_ahead.result c.feed_ahead.new.self.fault (sym c.is_ok-goes_on.ensures.value ∙ c.if-goes_on.false) c.feed_ahead.ensures.kept in
    read_fault old new was c.args.limit bytes c.args.piece.now there.0 h le refl there.1 (c.feed_ahead.ensures.fed bytes (taken_of old.kept ++ h.read.late) h.read.fed)
