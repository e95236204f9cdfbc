use Rattle.std.proofs.Common.{◌∙◌, sym}
use Rattle.mt_record.specs.LogFeeding.{fed_log}
use Rattle.mt_record.proofs.FileFeeds.{fed_shows, shown_fault}
use Rattle.mt_record.proofs.LogFeeds.{text_read}
use Rattle.mt_record.proofs.feed.log_feed.LogFeed.finish.Goals as goal

pub returns-in-Some-clause-fault : goal.returns-in-Some-clause-fault
returns-in-Some-clause-fault g c bytes taken fed other =
    let fault = c.in-Some.fault in
    shown_fault fault bytes (fed_shows (fed_log g.R.Records.listed c.self.inside.file) fault bytes taken (rw (← c.self.view_is) at fed) (sym c.fault.ensures ∙ c.in-Some.is) other)

pub returns-clause-log : goal.returns-clause-log
returns-clause-log g c bytes taken fed =
    let front = c.in_ok-front.ensures in
    text_read g.R.Records.listed c.self.inside.file.blocks.items.inner.items.ready taken bytes c.in_ok-front.field-0 (rw (← c.self.view_is) at (front.front bytes taken fed))
    (λ what. front.sound what (rw (← c.self.view_is) (sym c.fault.ensures ∙ c.in_default.is)))
