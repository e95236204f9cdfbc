use Rattle.std.proofs.Common.{◌++◌}
use Rattle.std.proofs.lemmas.Result.{on_ok_weaker, IfErr-weaker}
use Rattle.mt_record.specs.LogFeeding.{fed_log}
use Rattle.mt_record.proofs.FileFeeds.{fed_shows_none, fed_shows}
use Rattle.mt_record.proofs.feed.log_feed.LogFeed.feed.Goals as goal

pub returns-clause-fed : goal.returns-clause-fed
returns-clause-fed g c bytes taken fed = c.read.ensures.fed bytes taken (rw (← c.self.view_is) at fed)

pub returns-clause-ok : goal.returns-clause-ok
returns-clause-ok g c bytes taken fed =
    let after = c.read.ensures.fed bytes taken (rw (← c.self.view_is) at fed) in
    on_ok_weaker c.read.result (λ none. fed_shows_none (fed_log g.R.Records.listed c.read.new.self) (bytes ++ c.args.piece.now) taken after none) c.read.ensures.sound

pub returns-clause-fault : goal.returns-clause-fault
returns-clause-fault g c bytes taken fed =
    let after = c.read.ensures.fed bytes taken (rw (← c.self.view_is) at fed) in
    IfErr-weaker c.read.result _ _ (λ fault is. fed_shows (fed_log g.R.Records.listed c.read.new.self) fault (bytes ++ c.args.piece.now) taken after is) c.read.ensures.kept
