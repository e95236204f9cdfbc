use Rattle.std.proofs.Common.{arith}
use Rattle.mt_record.proofs.RecordLemmas.{kept_append}
use Rattle.mt_record.proofs.kept.log.KeptRecords.append.Goals as goal

pub invariant_of-self-2 : goal.invariant_of-self-2
invariant_of-self-2 c =
    kept_append c.self.inside.bodies c.more.inside.bodies c.append.new.self c.self.inside.marks c.more.inside.marks c.saturating_add-self-inside.result c.self.invariant c.more.invariant c.in_ok-append.ensures.ok
    (omega (arith, c.saturating_add-self-inside.ensures))
