use Rattle.std.proofs.Common.{◌≡◌, [], refl, rules}
use Rattle.mt_record.specs.LogFeeding.{fed_log}
use Rattle.mt_record.proofs.FileFeeds.{taken_as}
use Rattle.mt_record.proofs.feed.log_feed.LogFeed+KeptRecords.drop_at.Goals as goal

pub returns-clause-fed : goal.returns-clause-fed
returns-clause-fed c bytes taken fed =
    let file = fed_log (λ records. records) c.self.inside.file in
    let none : c.clear.new.self ≡ [] = search rules in
    rw (← c.self.view_is) (taken_as file bytes taken c.clear.new.self file.so_far.ready (rw (← c.self.view_is) at fed) none refl)
