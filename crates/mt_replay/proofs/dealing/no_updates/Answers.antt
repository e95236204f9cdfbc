use Rattle.std.proofs.Common.{arith}
use Rattle.mt_replay.proofs.DealLemmas.{empty_more}
use Rattle.mt_replay.proofs.dealing.no_updates.Goals as goal

pub loop-preserved : goal.loop-preserved
loop-preserved c = record {
  within = omega (arith, c.loop-test.true);
  empty = empty_more c.loop.lists.items c.push.new.self.items c.in_ok-with_capacity.field-0 c.loop.counter c.loop.invariant.empty c.in_ok-with_capacity.ensures c.in_ok-push.ensures.items;
}
