use Rattle.std.proofs.Common.{arith}
use Rattle.mt_record.proofs.StreamLemmas.{updates_count}
use Rattle.mt_record.proofs.kept.stream.Block.len.Goals as goal

pub returns-clause-value : goal.returns-clause-value
returns-clause-value c = rw (← c.self.view_is) (updates_count c.self.inside.texts c.self.inside.bytes.items c.self.invariant (omega (arith, c.self.inside.bytes.ok.0, c.self.inside.bytes.ok.1))).0

pub returns-clause-few : goal.returns-clause-few
returns-clause-few c =
    let count = updates_count c.self.inside.texts c.self.inside.bytes.items c.self.invariant (omega (arith, c.self.inside.bytes.ok.0, c.self.inside.bytes.ok.1)) in
    rw (← c.self.view_is) (omega (arith, count.0, count.1))
