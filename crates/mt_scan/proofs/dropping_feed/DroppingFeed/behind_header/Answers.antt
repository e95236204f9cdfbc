use Rattle.std.proofs.Common.{◌++◌}
use Rattle.mt_scan.specs.Steps.DroppingFeeds.{taken_of}
use Rattle.mt_scan.proofs.dropping_feed.DroppingFeed.behind_header.Goals as goal

pub returns : goal.returns
returns c limit bytes h = c.behind_header.ensures bytes (taken_of c.args.self.now.kept ++ h.read.late) h.read.fed
