use Rattle.std.proofs.Common.{◌-◌, List, take, take_all, drop, subst, arith}
use Rattle.mt_words.specs.declared.update.Update.{Update}
use Rattle.mt_replay.specs.Steps.Walker.{IsMade}
use Rattle.mt_replay.proofs.WalkerLemmas.{key_taken, next_start, last_columns}
use Rattle.mt_replay.proofs.replay.replay_sorted.Goals as goal

pub add_pair-requires-clause-last : goal.add_pair-requires-clause-last
add_pair-requires-clause-last g c =
    let sorted : List Update = c.args.sorted.now in
    let at = c.loop-at.at in
    let end = c.end_of_key-end.result in
    let ends = c.end_of_key-end.ensures in
    let left = c.in_ok-columns.ensures in
    let last = last_columns sorted at end ends.within.0 ends.within.1 ends.alike c.requires.in_order c.loop-at.invariant.start c.index-sorted-at.result c.index-sorted-at.is c.key-key.result.now c.key-key.ensures.value c.in_ok-columns.columns left.lawful left.exact in
    (take at sorted, take (end - at) (drop at sorted), c.loop-at.invariant.made, last)

pub loop-at-preserved : goal.loop-at-preserved
loop-at-preserved g c =
    let sorted : List Update = c.args.sorted.now in
    let at = c.loop-at.at in
    let end = c.end_of_key-end.result in
    let ends = c.end_of_key-end.ensures in
    let left = c.in_ok-columns.ensures in
    let last = last_columns sorted at end ends.within.0 ends.within.1 ends.alike c.requires.in_order c.loop-at.invariant.start c.index-sorted-at.result c.index-sorted-at.is c.key-key.result.now c.key-key.ensures.value c.in_ok-columns.columns left.lawful left.exact in
    record {
      within = ends.within.1;
      start = next_start sorted at end ends.within.0 ends.within.1 ends.alike ends.ends;
      made = subst (λ (us : List Update). IsMade us (g.S.PairSink.pairs c.add_pair.new.sink)) (key_taken sorted at end ends.within.0 ends.within.1 ends.alike)
          (c.in_ok-add_pair.ensures (take at sorted) (take (end - at) (drop at sorted)) c.loop-at.invariant.made last);
    }

pub returns : goal.returns
returns g c = subst (λ (us : List Update). IsMade us (g.S.PairSink.pairs c.loop-at.sink)) (take_all c.loop-at.at c.args.sorted.now (omega (arith, c.loop-at-test.false))) c.loop-at.invariant.made
