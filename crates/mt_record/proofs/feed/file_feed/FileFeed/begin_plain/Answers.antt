use Rattle.std.proofs.Common.{[], List, ℕ, subst}
use Rattle.mt_record.specs.LogFeeding.{log_so_far, HoldsLog, IsLogLeft, IsLogFaulty, IsTextFed}
use Rattle.mt_record.proofs.Feeds.{fed_on}
use Rattle.mt_record.proofs.FileFeeds.{plain_on}
use Rattle.mt_record.proofs.feed.file_feed.FileFeed.begin_plain.Goals as goal

pub returns-in_err-feed-clause-fed : goal.returns-in_err-feed-clause-fed
returns-in_err-feed-clause-fed g c taken plain fed =
    let held = c.args.self.now.blocks.held.items in
    let new = c.feed.new.self in
    let first = subst (λ (text : List ℕ). IsTextFed taken (log_so_far g.R.Records.listed new.items) new.held.items new.fault text) c.deref.ensures.value (c.feed.ensures.fed taken [] fed) in (
      plain_on held c.args.rest.now plain,
      fed_on (HoldsLog taken) IsLogLeft IsLogFaulty (log_so_far g.R.Records.listed new.items) new.held.items new.fault c.in_err-feed.field-0.0 held c.args.rest.now c.in_err-feed.ensures.kept first,
    )

pub returns-clause-fed : goal.returns-clause-fed
returns-clause-fed g c taken plain fed =
    let held = c.args.self.now.blocks.held.items in
    let new = c.feed.new.self in
    let first = subst (λ (text : List ℕ). IsTextFed taken (log_so_far g.R.Records.listed new.items) new.held.items new.fault text) c.deref.ensures.value (c.feed.ensures.fed taken [] fed) in
    (plain_on held c.args.rest.now plain, c.feed-2.ensures.fed taken held first)
