use Rattle.std.proofs.Common.{◌++◌}
use Rattle.std.proofs.lemmas.Result.{on_ok_weaker, IfErr-weaker}
use Rattle.mt_record.specs.LogFeeding.{fed_log}
use Rattle.mt_record.proofs.FileFeeds.{fed_shows_none, fed_shows}
use Rattle.mt_record.proofs.feed.log_feed.LogFeed+KeptRecords.feed_ahead.Goals as goal

pub read_ahead-requires : goal.read_ahead-requires
read_ahead-requires c = rw (← c.ahead.view_is) at c.requires

pub returns-clause-fed : goal.returns-clause-fed
returns-clause-fed c bytes taken fed = c.read_ahead.ensures.fed bytes taken (rw (← c.self.view_is) at fed)

pub returns-clause-ok : goal.returns-clause-ok
returns-clause-ok c bytes taken fed =
    let after = c.read_ahead.ensures.fed bytes taken (rw (← c.self.view_is) at fed) in
    on_ok_weaker c.read_ahead.result (λ none. fed_shows_none (fed_log (λ records. records) c.read_ahead.new.self) (bytes ++ c.args.piece.now) taken after none) c.read_ahead.ensures.sound

pub returns-clause-fault : goal.returns-clause-fault
returns-clause-fault c bytes taken fed =
    let after = c.read_ahead.ensures.fed bytes taken (rw (← c.self.view_is) at fed) in
    IfErr-weaker c.read_ahead.result _ _ (λ fault is. fed_shows (fed_log (λ records. records) c.read_ahead.new.self) fault (bytes ++ c.args.piece.now) taken after is) c.read_ahead.ensures.kept
