use Rattle.std.proofs.Common.{◌+◌, List, length, sym, ap, arith}
use Rattle.std.specs.List.{flat_map}
use Rattle.mt_record.specs.Shares.{ShareView, updates_of_share}
use Rattle.mt_replay.proofs.BatchLemmas.{none_early, early_step, early_few}
use Rattle.mt_replay.proofs.batch.Batch.early_count.Goals as goal

pub returns-then-begin-eq0 : goal.returns-then-begin-eq0
returns-then-begin-eq0 c = sym (none_early c.args.begin c.args.self.now.updates c.if-begin-eq0.true)

pub overflow_add-count : goal.overflow_add-count
overflow_add-count c =
    let shares = c.deref-share-items.result.now in
    let counted = early_step c.args.begin shares c.loop-share.share-index c.share-item.result c.loop-share-test.true c.share-item.is in
    let few = early_few c.args.begin shares (c.loop-share.share-index + 1) in
    let all = ap (λ (l : List ShareView). length (flat_map updates_of_share l)) c.deref-share-items.ensures.value in
    omega (arith, counted, c.loop-share.invariant, c.early_in-count.ensures, few, all, c.self.invariant.0, c.self.invariant.1)
