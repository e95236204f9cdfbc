use Rattle.std.proofs.lemmas.List.Filters.{dedup_is}
use Rattle.mt_replay.proofs.SeenLemmas.{are_same, kept_rise, kept_same}
use Rattle.mt_replay.proofs.auditor.keep_each_once.Goals as goal

pub returns-clause-rise : goal.returns-clause-rise
returns-clause-rise c =
    let sorted = c.sort_unstable.new.self.items in
    kept_rise sorted c.dedup.new.self.items c.sort_unstable.ensures.sorted (dedup_is are_same sorted c.dedup.new.self.items c.dedup.ensures.filtered)

pub returns-clause-same : goal.returns-clause-same
returns-clause-same c =
    let sorted = c.sort_unstable.new.self.items in
    kept_same c.args.seen.now.items sorted c.dedup.new.self.items c.sort_unstable.ensures.permutation (dedup_is are_same sorted c.dedup.new.self.items c.dedup.ensures.filtered)
