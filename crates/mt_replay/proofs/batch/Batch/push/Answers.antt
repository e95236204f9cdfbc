use Rattle.std.proofs.Common.{rules, arith}
use Rattle.std.proofs.lemmas.Grind.{common_steps}
use Rattle.mt_replay.proofs.BatchLemmas.{share_few}
use Rattle.mt_replay.proofs.batch.Batch.push.Goals as goal

pub invariant_of-self-2 : goal.invariant_of-self-2
invariant_of-self-2 c = let few = share_few c.args.share in (grind (arith, common_steps), search rules)
