use Rattle.std.proofs.Common.{◌≡◌, [], rules}
use Rattle.mt_record.specs.LogFeeding.{fed_log}
use Rattle.mt_record.proofs.FileFeeds.{taken_as}
use Rattle.mt_record.proofs.feed.log_feed.LogFeed.take.Goals as goal

pub returns-clause-fed : goal.returns-clause-fed
returns-clause-fed c bytes taken fed =
    let file = fed_log (λ records. records.items) c.self.inside.file in
    let none : c.replace.new.dest.items ≡ [] = search rules in
    let same : c.replace.result.items ≡ file.so_far.ready = search rules in
    taken_as file bytes taken c.replace.new.dest.items c.replace.result.items (rw (← c.self.view_is) at fed) none same
