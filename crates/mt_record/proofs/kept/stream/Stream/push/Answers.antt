use Rattle.std.proofs.Common.{arith}
use Rattle.mt_record.proofs.ShortBodies.{short_body}
use Rattle.mt_record.proofs.StreamLemmas.{short_length, long_length}
use Rattle.mt_record.proofs.kept.stream.Stream.push.Goals as goal

pub push_text-requires-clause-short : goal.push_text-requires-clause-short
push_text-requires-clause-short c = omega (arith, short_body c.args.body.now c.requires)

pub push_text-requires-then-log-from-clause-short : goal.push_text-requires-then-log-from-clause-short
push_text-requires-then-log-from-clause-short c =
    rw c.long.ensures (omega (arith, short_body c.args.body.now c.requires, long_length c.in-Log.log c.in-Log.record))

pub push_text-requires-in-Log-clause-short : goal.push_text-requires-in-Log-clause-short
push_text-requires-in-Log-clause-short c =
    rw c.short.ensures (omega (arith, short_body c.args.body.now c.requires, short_length c.in-Log.log c.in-Log.record))
