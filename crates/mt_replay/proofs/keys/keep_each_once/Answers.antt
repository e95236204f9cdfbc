use Rattle.std.specs.Cmp.Lexicographic.{pointwise}
use Rattle.std.specs.Prelude.{nat_eq}
use Rattle.std.proofs.lemmas.List.Filters.{dedup_is}
use Rattle.mt_replay.proofs.DistinctLemmas.{distinct}
use Rattle.mt_replay.proofs.keys.keep_each_once.Goals as goal

pub returns : goal.returns
returns c =
    let sorted = c.sort_unstable.new.self.items in
    let kept = dedup_is (λ a b. pointwise nat_eq a.now b.now) sorted c.dedup.new.self.items c.dedup.ensures.filtered in
    distinct (λ key. key.now) c.args.keys.now.items sorted c.dedup.new.self.items c.sort_unstable.ensures.permutation c.sort_unstable.ensures.sorted kept
