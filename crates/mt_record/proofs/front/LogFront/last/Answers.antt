use Rattle.mt_record.proofs.LogFeeds.{front_last}
use Rattle.mt_record.proofs.front.LogFront.last.Goals as goal

pub returns-clause-last : goal.returns-clause-last
returns-clause-last c bytes log = front_last bytes log c.args.self.now c.max.result c.max.ensures
