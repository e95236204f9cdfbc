use Rattle.mt_record.proofs.Decodes.{change_sound}
use Rattle.mt_record.proofs.body.lent.Lent.key.Goals as goal

pub returns-clause-lawful : goal.returns-clause-lawful
returns-clause-lawful c = rw (← c.self.view_is) (change_sound c.self.inside.body.now c.self.invariant).key
